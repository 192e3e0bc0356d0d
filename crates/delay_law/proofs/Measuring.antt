-- How far measuring has come: what a master knows and the slaves hold, by the steps that are still to be asked.
use Rattle.std.proofs.Common.{◌≡◌, ◌≢◌, ℕ, zero, suc, ◌+◌, ◌*◌, ◌<◌, ◌≤◌, ◌⊎◌, Bool, true, false, cond, List, [], ◌∷◌, ◌++◌, length, map, filter, replicate, Option, Some, None, Result, Ok, Err, refl, sym, ap, ap₂, subst, ◌∙◌, arith, inl, inr}
use Rattle.std.specs.Prelude.{⊤, slice_index_or, slice_set}
use Rattle.std.specs.List.{AllByRecursion, range_with_len}
use Rattle.std.proofs.lemmas.Bool.{cases_eq, cases_lt}
use Rattle.std.proofs.lemmas.List.{get_or-replicate, get_or-set_same, get_or-set_other, length-replicate, length-set}
use Rattle.dc_bounds.specs.LockNumbers.{period_fs}
use Rattle.dc_bounds.specs.Weight.{flag}
use Rattle.dc_delay.specs.declared.latch.Latch.{Latch}
use Rattle.ecat_frame.specs.FrameGrammar.{FrameValue}
use Rattle.segment_file.specs.Segment.{SegmentValue}
use Rattle.esc_regs.specs.Kinds.{measures}
use Rattle.frame_pass.specs.SlaveState.{Slave}
use Rattle.master_script.specs.Config.{ConfigValue}
use Rattle.master_script.specs.Progress.{Commissioning, Settling, Progress, answered, asked_by, done, later_steps, noted, planned, turned}
use Rattle.master_script.specs.Slaves.{SlaveWords, clocks, is_measuring, judgement, measuring}
use Rattle.master_script.specs.Judged.{judged}
use Rattle.master_script.specs.Steps.{expected, latch_in, learned}
use Rattle.master_script.specs.Words.{Words, wide_at}
use Rattle.master_script.specs.declared.step.Refusal.{Refusal}
use Rattle.master_script.specs.declared.step.Step.{Step}
use Rattle.master_script.specs.declared.step.Step.TheVariants.{Count, Identify, Rate, Latch as LatchStep, Times, Set, Settle, Drift, Arm}
use Rattle.honest_slaves.specs.Told.{words_of}
use Rattle.honest_slaves.proofs.Exported.{measuring_word, flagged, words_many}
use Rattle.honest_slaves.specs.FileSlaves.{kind_at, status_at}
use Rattle.delay_law.specs.HeldTimes.{AllHold}
use Rattle.delay_law.specs.ToldTimes.{TellsTimes}
use Rattle.delay_law.proofs.Far.{IsReading}

-- up to the judgement
abbrev pub IsFirst : Step → Type 0
IsFirst Count = ⊤
IsFirst (Identify p) = ⊤
IsFirst step = ⊥

-- the steps behind Latch
abbrev pub reading_steps : List SlaveWords → List Step
reading_steps ss = map Times (measuring ss) ++ map Set (clocks ss)

-- Times of a position is still to be asked
abbrev pub Awaits : ℕ → List Step → Type 0
Awaits q [] = ⊥
Awaits q (step ∷ rest) = (step ≡ Times q) ⊎ Awaits q rest

-- the slaves are not judged yet
pub record IsUnjudged (p : Progress) : Type 0 where
  pub reference : p.words.reference ≡ None
  pub todo : AllByRecursion IsFirst p.todo

-- they are, and Latch is still to be asked
pub record IsJudged (p : Progress) : Type 0 where
  pub reference : ℕ
  pub is : p.words.reference ≡ Some reference
  pub todo : (p.todo ≡ later_steps p.words.slaves) ⊎ (p.todo ≡ LatchStep ∷ reading_steps p.words.slaves)

-- no times were told
pub record IsOpen (n : ℕ) (p : Progress) : Type 0 where
  pub latches : p.words.latches ≡ replicate n None
  pub stage : IsUnjudged p ⊎ IsJudged p

-- what is known of a slave's times, sooner or later
abbrev pub IsToldBy : SegmentValue → ℕ → ℕ → List Step → Option Latch → Type 0
IsToldBy s sent q todo None = (measures (kind_at s q) ≡ false) ⊎ Awaits q todo
IsToldBy s sent q todo (Some latch) = (measures (kind_at s q) ≡ true) × TellsTimes s q sent latch

-- a Latch came back: the slaves hold the times of its sending, and some are told
pub record IsLatched (s : SegmentValue) (p : Progress) (ss : List Slave) : Type 0 where
  pub reference : ℕ
  pub is : p.words.reference ≡ Some reference
  pub todo : AllByRecursion IsReading p.todo
  pub many : length p.words.latches ≡ length s.rows
  pub holds : AllHold s (p.words.latched * period_fs s.head.frame_ns) ss
  pub told : (q : ℕ) → q < length s.rows → IsToldBy s (p.words.latched * period_fs s.head.frame_ns) q p.todo (slice_index_or p.words.latches q None)

abbrev pub IsMeasuring : SegmentValue → Progress → List Slave → Type 0
IsMeasuring s p ss = IsOpen (length s.rows) p ⊎ IsLatched s p ss

some_none : {X : Type 0} (x : X) → Some x ≡ None → ⊥
some_none x e = let z = e in cc

-- behind the last step that was judged the phase alone changes
pub turned_keeps : (X : Progress → Type 0) (q : Progress) (rest : List Step) (x : ℕ) → q.phase ≡ Commissioning → q.words.reference ≡ Some x → (X q → X (record q { phase = Settling })) → X q → X (turned q rest)
turned_keeps X q [] x at is moved h = subst X (ap₂ (done q) (sym at) (sym is)) (moved h)
turned_keeps X q (step ∷ rest) x at is moved h = h

-- all positions of some steps are awaited, of those that pass a test
awaited_from : (f : ℕ → Bool) (more : List Step) (q a m : ℕ) → f q ≡ true → q < a + m → a ≤ q → Awaits q (map Times (filter f (range_with_len a m)) ++ more)
awaited_from f more q a zero is low high = absurd (omega (arith, low, high))
awaited_from f more q a (suc m) is low high =
    elim (cases_lt a q) [
      | inl past ↦ by (f a) (awaited_from f more q (a + 1) m is (omega (arith, low)) (omega (arith, past)))
      | inr most ↦ let same : a ≡ q = omega (arith, most, high) in
          subst (λ b. Awaits q (map Times (cond b (a ∷ filter f (range_with_len (a + 1) m)) (filter f (range_with_len (a + 1) m))) ++ more)) (sym (ap f same ∙ is)) (inl (ap Times same))
    ]
  where
    by : (b : Bool) → Awaits q (map Times (filter f (range_with_len (a + 1) m)) ++ more)
        → Awaits q (map Times (cond b (a ∷ filter f (range_with_len (a + 1) m)) (filter f (range_with_len (a + 1) m))) ++ more)
    by true h = inr h
    by false h = h

reads_from : (ps rs : List ℕ) → AllByRecursion IsReading (map Times ps ++ map Set rs)
reads_from [] [] = tt
reads_from [] (r ∷ rs) = (tt, reads_from [] rs)
reads_from (p ∷ ps) rs = (tt, reads_from ps rs)

pub all_reading : (ss : List SlaveWords) → AllByRecursion IsReading (reading_steps ss)
all_reading ss = reads_from (measuring ss) (clocks ss)

pub all_awaited : (s : SegmentValue) (ss : List SlaveWords) (q : ℕ) → ss ≡ words_of (kind_at s) (status_at s) (length s.rows) → q < length s.rows → measures (kind_at s q) ≡ true → Awaits q (reading_steps ss)
all_awaited s ss q are low is =
    subst (λ xs. Awaits q (reading_steps xs)) (sym are)
    (let told = words_of (kind_at s) (status_at s) (length s.rows) in
    let many = words_many (kind_at s) (status_at s) (length s.rows) in
    awaited_from (flag (map is_measuring told)) (map Set (clocks told)) q 0 (length told) (flagged is_measuring measures (kind_at s) (status_at s) (length s.rows) q measuring_word low ∙ is)
    (omega (arith, low, many)) (omega arith))

-- only Times teaches times
pub same_latches : (sent : ℕ) (step : Step) (g : FrameValue) (w : Words) → ((p : ℕ) → step ≢ Times p) → (learned sent step g w).latches ≡ w.latches
same_latches sent Count g w other = refl
same_latches sent (Identify p) g w other = refl
same_latches sent Rate g w other = refl
same_latches sent LatchStep g w other = refl
same_latches sent (Times p) g w other = absurd (other p refl)
same_latches sent (Set p) g w other = refl
same_latches sent Settle g w other = refl
same_latches sent (Drift k) g w other = refl
same_latches sent (Arm p) g w other = refl

-- up to the judgement the slaves have told no times, and so it is behind it
module _ (n : ℕ) (cfg : ConfigValue) where
  planned_open : (q : Progress) (o : Result ℕ Refusal) → q.words.latches ≡ replicate n None → q.words.reference ≡ None → q.todo ≡ [] → IsOpen n (planned q o)
  planned_open q (Err r) blank unjudged end = record { latches = blank; stage = inl (record { reference = unjudged; todo = subst (AllByRecursion IsFirst) (sym end) tt }) }
  planned_open q (Ok x) blank unjudged end = record { latches = blank; stage = inr (record { reference = x; is = refl; todo = inl refl }) }

  first_turned : (q : Progress) (rest : List Step) → q.phase ≡ Commissioning → q.words.latches ≡ replicate n None → q.words.reference ≡ None → q.todo ≡ rest → AllByRecursion IsFirst rest → IsOpen n (turned q rest)
  first_turned q [] at blank unjudged are first =
      subst (IsOpen n) (ap₂ (done q) (sym at) (sym unjudged)) (planned_open q (judgement q.words.slaves) blank unjudged are)
  first_turned q (step ∷ rest) at blank unjudged are first = record { latches = blank; stage = inl (record { reference = unjudged; todo = subst (AllByRecursion IsFirst) (sym are) first }) }

  first_reference : (sent : ℕ) (step : Step) (g : FrameValue) (w : Words) → IsFirst step → (learned sent step g w).reference ≡ w.reference
  first_reference sent Count g w h = refl
  first_reference sent (Identify p) g w h = refl
  first_reference sent Rate g w h = absurd h
  first_reference sent LatchStep g w h = absurd h
  first_reference sent (Times p) g w h = absurd h
  first_reference sent (Set p) g w h = absurd h
  first_reference sent Settle g w h = absurd h
  first_reference sent (Drift k) g w h = absurd h
  first_reference sent (Arm p) g w h = absurd h

  first_other : (step : Step) → IsFirst step → (p : ℕ) → step ≢ Times p
  first_other step h p e = subst IsFirst e h

  pub first_asked : (q : Progress) (step : Step) (rest : List Step) (f : FrameValue) (back : Option FrameValue) → q.phase ≡ Commissioning → q.words.latches ≡ replicate n None → IsUnjudged q → q.todo ≡ step ∷ rest
      → IsOpen n (asked_by cfg q step rest f back)
  first_asked q step rest f None at blank h are = record { latches = blank; stage = inl (record { reference = h.reference; todo = h.todo }) }
  first_asked q step rest f (Some g) at blank h are = by (judged step (expected cfg q.words step g) f g)
    where
      first : AllByRecursion IsFirst (step ∷ rest)
      first = subst (AllByRecursion IsFirst) are h.todo

      by : (o : Option Refusal) → IsOpen n (answered q step rest g o)
      by (Some r) = record { latches = blank; stage = inl (record { reference = h.reference; todo = h.todo }) }
      by None =
          first_turned (noted q step rest g) rest at (same_latches q.sent step g q.words (first_other step first.0) ∙ blank)
          (first_reference q.sent step g q.words first.0 ∙ h.reference) refl first.1

  -- Rate
  pub rate_asked : (q : Progress) (x : ℕ) (f : FrameValue) (back : Option FrameValue) → q.words.latches ≡ replicate n None → q.words.reference ≡ Some x → q.todo ≡ later_steps q.words.slaves
      → IsOpen n (asked_by cfg q Rate (LatchStep ∷ reading_steps q.words.slaves) f back)
  rate_asked q x f None blank is are = record { latches = blank; stage = inr (record { reference = x; is = is; todo = inl are }) }
  rate_asked q x f (Some g) blank is are = by (judged Rate (expected cfg q.words Rate g) f g)
    where
      by : (o : Option Refusal) → IsOpen n (answered q Rate (LatchStep ∷ reading_steps q.words.slaves) g o)
      by (Some r) = record { latches = blank; stage = inr (record { reference = x; is = is; todo = inl are }) }
      by None = record { latches = blank; stage = inr (record { reference = x; is = is; todo = inr refl }) }

-- Latch, and the steps behind it
module _ (s : SegmentValue) (cfg : ConfigValue) (ss : List Slave) where
  abbrev at : Progress → ℕ
  at q = q.words.latched * period_fs s.head.frame_ns

  settling : (q : Progress) → IsLatched s q ss → IsLatched s (record q { phase = Settling }) ss
  settling q h = record { reference = h.reference; is = h.is; todo = h.todo; many = h.many; holds = h.holds; told = h.told }

  turned_latched : (q : Progress) (rest : List Step) → q.phase ≡ Commissioning → IsLatched s q ss → IsLatched s (turned q rest) ss
  turned_latched q rest at h = turned_keeps (λ p. IsLatched s p ss) q rest h.reference at h.is (settling q) h

  blank_told : (sent : ℕ) (q : ℕ) (todo : List Step) (latches : List (Option Latch)) (b : Bool) → latches ≡ replicate (length s.rows) None → q < length s.rows → measures (kind_at s q) ≡ b
      → (b ≡ true → Awaits q todo) → IsToldBy s sent q todo (slice_index_or latches q None)
  blank_told sent q todo latches b are low is awaits =
      subst (IsToldBy s sent q todo) (sym (ap (λ (ls : List (Option Latch)). slice_index_or ls q None) are ∙ get_or-replicate (length s.rows) q None None low)) (by b is awaits)
    where
      by : (c : Bool) → measures (kind_at s q) ≡ c → (c ≡ true → Awaits q todo) → (measures (kind_at s q) ≡ false) ⊎ Awaits q todo
      by true e more = inr (more refl)
      by false e more = inl e

  pub latch_asked : (q : Progress) (x : ℕ) (f : FrameValue) (back : Option FrameValue) → q.phase ≡ Commissioning → q.words.latches ≡ replicate (length s.rows) None → q.words.reference ≡ Some x
      → q.words.slaves ≡ words_of (kind_at s) (status_at s) (length s.rows) → q.todo ≡ LatchStep ∷ reading_steps q.words.slaves
      → ((g : FrameValue) → back ≡ Some g → AllHold s (q.sent * period_fs s.head.frame_ns) ss)
      → IsMeasuring s (asked_by cfg q LatchStep (reading_steps q.words.slaves) f back) ss
  latch_asked q x f None phase blank is slaves are hold = inl (record { latches = blank; stage = inr (record { reference = x; is = is; todo = inr are }) })
  latch_asked q x f (Some g) phase blank is slaves are hold = by (judged LatchStep (expected cfg q.words LatchStep g) f g)
    where
      by : (o : Option Refusal) → IsMeasuring s (answered q LatchStep (reading_steps q.words.slaves) g o) ss
      by (Some r) = inl (record { latches = blank; stage = inr (record { reference = x; is = is; todo = inr are }) })
      by None = inr (turned_latched (noted q LatchStep (reading_steps q.words.slaves) g) (reading_steps q.words.slaves) phase (record {
        reference = x;
        is = is;
        todo = all_reading q.words.slaves;
        many = ap length blank ∙ length-replicate (length s.rows) None;
        holds = hold g refl;
        told = λ p low. blank_told (q.sent * period_fs s.head.frame_ns) p (reading_steps q.words.slaves) q.words.latches (measures (kind_at s p)) blank low refl (all_awaited s q.words.slaves p slaves low);
      }))

  -- Set teaches nothing
  less_awaited : (sent q p : ℕ) (rest : List Step) (o : Option Latch) → IsToldBy s sent q (Set p ∷ rest) o → IsToldBy s sent q rest o
  less_awaited sent q p rest None (inl e) = inl e
  less_awaited sent q p rest None (inr (inl e)) = absurd (let z = e in cc)
  less_awaited sent q p rest None (inr (inr h)) = inr h
  less_awaited sent q p rest (Some latch) h = h

  -- and Times those of its slave
  others_awaited : (sent q p : ℕ) (rest : List Step) (o : Option Latch) → q ≢ p → IsToldBy s sent q (Times p ∷ rest) o → IsToldBy s sent q rest o
  others_awaited sent q p rest None other (inl e) = inl e
  others_awaited sent q p rest None other (inr (inl e)) = absurd (other (let z : q ≡ p = cc in z))
  others_awaited sent q p rest None other (inr (inr h)) = inr h
  others_awaited sent q p rest (Some latch) other h = h

  told_more : (sent q p : ℕ) (rest : List Step) (latches : List (Option Latch)) (latch : Latch) → p < length latches → measures (kind_at s p) ≡ true → TellsTimes s p sent latch
      → IsToldBy s sent q (Times p ∷ rest) (slice_index_or latches q None) → IsToldBy s sent q rest (slice_index_or (slice_set latches p (Some latch)) q None)
  told_more sent q p rest latches latch low is tells h =
      elim (cases_eq q p) [
        | inl same ↦ subst (λ k. IsToldBy s sent k rest (slice_index_or (slice_set latches p (Some latch)) k None)) (sym same)
            (subst (IsToldBy s sent p rest) (sym (get_or-set_same latches p (Some latch) None low)) (is, tells))
        | inr other ↦ subst (IsToldBy s sent q rest) (sym (get_or-set_other latches p q (Some latch) None other)) (others_awaited sent q p rest (slice_index_or latches q None) other h)
      ]

  pub reading_asked : (q : Progress) (step : Step) (rest : List Step) (f : FrameValue) (back : Option FrameValue) → q.phase ≡ Commissioning → IsLatched s q ss → q.todo ≡ step ∷ rest
      → ((p : ℕ) (g : FrameValue) → step ≡ Times p → back ≡ Some g → (p < length s.rows) × ((measures (kind_at s p) ≡ true) × TellsTimes s p (at q) (latch_in (wide_at q.words p) g)))
      → IsLatched s (asked_by cfg q step rest f back) ss
  reading_asked q step rest f None phase h are tells = record { reference = h.reference; is = h.is; todo = h.todo; many = h.many; holds = h.holds; told = h.told }
  reading_asked q step rest f (Some g) phase h are tells = by (judged step (expected cfg q.words step g) f g)
    where
      told : (p : ℕ) → p < length s.rows → IsToldBy s (at q) p (step ∷ rest) (slice_index_or q.words.latches p None)
      told p low = subst (λ todo. IsToldBy s (at q) p todo (slice_index_or q.words.latches p None)) are (h.told p low)

      first : AllByRecursion IsReading (step ∷ rest)
      first = subst (AllByRecursion IsReading) are h.todo

      next : (x : Step) → step ≡ x → IsReading x → IsLatched s (noted q x rest g) ss
      next (Times p) e reads =
          let t = tells p g e refl in
          let many = h.many in
          let low = t.0 in
          record {
            reference = h.reference;
            is = h.is;
            todo = first.1;
            many = length-set q.words.latches p (Some (latch_in (wide_at q.words p) g)) ∙ many;
            holds = h.holds;
            told = λ k less. told_more (at q) k p rest q.words.latches (latch_in (wide_at q.words p) g) (omega (arith, low, many)) t.1.0 t.1.1
                (subst (λ y. IsToldBy s (at q) k (y ∷ rest) (slice_index_or q.words.latches k None)) e (told k less));
          }
      next (Set p) e reads = record {
        reference = h.reference;
        is = h.is;
        todo = first.1;
        many = h.many;
        holds = h.holds;
        told = λ k less. less_awaited (at q) k p rest (slice_index_or q.words.latches k None) (subst (λ y. IsToldBy s (at q) k (y ∷ rest) (slice_index_or q.words.latches k None)) e (told k less));
      }
      next Count e reads = absurd reads
      next (Identify p) e reads = absurd reads
      next Rate e reads = absurd reads
      next LatchStep e reads = absurd reads
      next Settle e reads = absurd reads
      next (Drift k) e reads = absurd reads
      next (Arm p) e reads = absurd reads

      by : (o : Option Refusal) → IsLatched s (answered q step rest g o) ss
      by (Some r) = record { reference = h.reference; is = h.is; todo = h.todo; many = h.many; holds = h.holds; told = h.told }
      by None = turned_latched (noted q step rest g) rest phase (next step refl first.0)
