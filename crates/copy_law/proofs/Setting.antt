-- How far setting has come: what the slaves hold, by the steps that are still to be asked.
use Rattle.std.proofs.Common.{◌≡◌, ◌≢◌, ℕ, zero, suc, ◌+◌, ◌%◌, ◌^◌, ◌<◌, ◌≤◌, ◌⊎◌, Bool, true, false, cond, List, [], ◌∷◌, ◌++◌, length, map, filter, replicate, Option, Some, None, refl, sym, ap, subst, ◌∙◌, arith, inl, inr}
use Rattle.std.specs.Prelude.{⊤, slice_get}
use Rattle.std.specs.List.{AllByRecursion, range_with_len}
use Rattle.std.proofs.lemmas.Bool.{cases_eq, cases_lt}
use Rattle.dc_bounds.specs.Weight.{flag}
use Rattle.ecat_frame.specs.FrameGrammar.{FrameValue}
use Rattle.esc_regs.specs.RegisterFile.{Registers}
use Rattle.esc_regs.specs.declared.clock_kind.ClockKind.{ClockKind}
use Rattle.esc_regs.specs.Kinds.{has_clock}
use Rattle.frame_pass.specs.SlaveState.{Slave}
use Rattle.honest_slaves.proofs.Exported.{had_before, low_where, clock_word, flagged, words_many}
use Rattle.master_script.specs.Config.{ConfigValue}
use Rattle.master_script.specs.Judged.{judged}
use Rattle.master_script.specs.Progress.{Commissioning, Progress, Settling, answered, asked_by, noted}
use Rattle.master_script.specs.Slaves.{SlaveWords, clocks, is_clock, measuring}
use Rattle.master_script.specs.Steps.{expected}
use Rattle.master_script.specs.Words.{Words, delay_at, offset_at}
use Rattle.master_script.specs.declared.step.Refusal.{Refusal}
use Rattle.master_script.specs.declared.step.Step.{Step}
use Rattle.master_script.specs.declared.step.Step.TheVariants.{Latch as LatchStep, Set, Times}
use Rattle.honest_slaves.specs.Told.{words_of}
use Rattle.delay_law.proofs.Exported.{IsOpen, reading_steps, turned_keeps}
use Rattle.copy_law.specs.HeldOffsets.{HoldsSet}
use Rattle.copy_law.proofs.Frames.{AreHeldOn}
use Rattle.copy_law.proofs.Registers.{HoldsOn, set_on}

-- the last steps of commissioning
abbrev pub IsSet : Step → Type 0
IsSet (Set p) = ⊤
IsSet step = ⊥

-- Set of a position is still to be asked
abbrev pub Awaits : ℕ → List Step → Type 0
Awaits q [] = ⊥
Awaits q (step ∷ rest) = (step ≡ Set q) ⊎ Awaits q rest

-- what Set writes: the offset, and the low 32 bits of the measured delay
abbrev pub HoldsWritten : ConfigValue → Words → ℕ → Registers → Type 0
HoldsWritten cfg w q r = HoldsSet (offset_at cfg w q) (delay_at cfg w q % 2 ^ 32) r

-- what a slave holds then, by whether it is a clock
abbrev pub IsSetBy : ConfigValue → Words → ℕ → List Step → Registers → Bool → Type 0
IsSetBy cfg w q todo r true = Awaits q todo ⊎ HoldsWritten cfg w q r
IsSetBy cfg w q todo r false = HoldsSet 0 0 r

-- Times are still to be asked, and all Sets
pub record IsReadingOn (p : Progress) : Type 0 where
  pub reference : ℕ
  pub is : p.words.reference ≡ Some reference
  pub left : List ℕ
  pub todo : p.todo ≡ map Times left ++ map Set (clocks p.words.slaves)

-- no Set was asked: no slave holds anything
pub record IsUnset (n : ℕ) (p : Progress) (ss : List Slave) : Type 0 where
  pub none : (q : ℕ) (v : Slave) → slice_get ss q ≡ Some v → HoldsSet 0 0 v.registers
  pub stage : IsOpen n p ⊎ IsReadingOn p

-- some were
pub record IsSetting (kinds : ℕ → ClockKind) (cfg : ConfigValue) (p : Progress) (ss : List Slave) : Type 0 where
  pub reference : ℕ
  pub is : p.words.reference ≡ Some reference
  pub todo : AllByRecursion IsSet p.todo
  pub each : (q : ℕ) (v : Slave) → slice_get ss q ≡ Some v → IsSetBy cfg p.words q p.todo v.registers (has_clock (kinds q))

-- Set begins
awaited_from : (f : ℕ → Bool) (q a m : ℕ) → f q ≡ true → q < a + m → a ≤ q → Awaits q (map Set (filter f (range_with_len a m)))
awaited_from f q a zero is low high = absurd (omega (arith, low, high))
awaited_from f q a (suc m) is low high =
    elim (cases_lt a q) [
      | inl past ↦ by (f a) (awaited_from f q (a + 1) m is (omega (arith, low)) (omega (arith, past)))
      | inr most ↦ let same : a ≡ q = omega (arith, most, high) in
          subst (λ b. Awaits q (map Set (cond b (a ∷ filter f (range_with_len (a + 1) m)) (filter f (range_with_len (a + 1) m))))) (sym (ap f same ∙ is)) (inl (ap Set same))
    ]
  where
    by : (b : Bool) → Awaits q (map Set (filter f (range_with_len (a + 1) m))) → Awaits q (map Set (cond b (a ∷ filter f (range_with_len (a + 1) m)) (filter f (range_with_len (a + 1) m))))
    by true h = inr h
    by false h = h

all_sets : (ps : List ℕ) → AllByRecursion IsSet (map Set ps)
all_sets [] = tt
all_sets (p ∷ ps) = (tt, all_sets ps)

module _ (kinds : ℕ → ClockKind) (statuses : ℕ → ℕ) (n : ℕ) (ss : List SlaveWords) (are : ss ≡ words_of kinds statuses n) where
  all_awaited : (q : ℕ) → q < n → has_clock (kinds q) ≡ true → Awaits q (map Set (clocks ss))
  all_awaited q low is =
      subst (λ xs. Awaits q (map Set (clocks xs))) (sym are)
      (let told = words_of kinds statuses n in
      let many = words_many kinds statuses n in
      awaited_from (flag (map is_clock told)) q 0 (length told) (flagged is_clock has_clock kinds statuses n q clock_word low ∙ is) (omega (arith, low, many)) (omega arith))

  waits_by : (cfg : ConfigValue) (w : Words) (q : ℕ) (r : Registers) (b : Bool) → (b ≡ true → Awaits q (map Set (clocks ss))) → HoldsSet 0 0 r → IsSetBy cfg w q (map Set (clocks ss)) r b
  waits_by cfg w q r true waits none = inl (waits refl)
  waits_by cfg w q r false waits none = none

  pub begins_setting : (cfg : ConfigValue) (p : Progress) (vs : List Slave) (reference : ℕ) → p.words.reference ≡ Some reference → p.todo ≡ map Set (clocks ss)
      → ((q : ℕ) (v : Slave) → slice_get vs q ≡ Some v → q < n) → ((q : ℕ) (v : Slave) → slice_get vs q ≡ Some v → HoldsSet 0 0 v.registers) → IsSetting kinds cfg p vs
  begins_setting cfg p vs reference is todo low none = record {
    reference = reference;
    is = is;
    todo = subst (AllByRecursion IsSet) (sym todo) (all_sets (clocks ss));
    each = λ q v there. subst (λ x. IsSetBy cfg p.words q x v.registers (has_clock (kinds q))) (sym todo)
        (waits_by cfg p.words q v.registers (has_clock (kinds q)) (all_awaited q (low q v there)) (none q v there));
  }

-- a step that is asked, by how far it has come
module _ (cfg : ConfigValue) where
  reading_settles : (q : Progress) → IsReadingOn q → IsReadingOn (record q { phase = Settling })
  reading_settles q h = record { reference = h.reference; is = h.is; left = h.left; todo = h.todo }

  -- Latch
  pub latch_asked : (n : ℕ) (q : Progress) (x : ℕ) (f : FrameValue) (back : Option FrameValue) → q.phase ≡ Commissioning → q.words.latches ≡ replicate n None → q.words.reference ≡ Some x
      → q.todo ≡ LatchStep ∷ reading_steps q.words.slaves
      → IsOpen n (asked_by cfg q LatchStep (reading_steps q.words.slaves) f back) ⊎ IsReadingOn (asked_by cfg q LatchStep (reading_steps q.words.slaves) f back)
  latch_asked n q x f None phase blank is are = inl (record { latches = blank; stage = inr (record { reference = x; is = is; todo = inr are }) })
  latch_asked n q x f (Some g) phase blank is are = by (judged LatchStep (expected cfg q.words LatchStep g) f g)
    where
      by : (o : Option Refusal) → IsOpen n (answered q LatchStep (reading_steps q.words.slaves) g o) ⊎ IsReadingOn (answered q LatchStep (reading_steps q.words.slaves) g o)
      by (Some r) = inl (record { latches = blank; stage = inr (record { reference = x; is = is; todo = inr are }) })
      by None =
          let rest = reading_steps q.words.slaves in
          inr (turned_keeps IsReadingOn (noted q LatchStep rest g) rest x phase is (reading_settles (noted q LatchStep rest g))
          (record { reference = x; is = is; left = measuring q.words.slaves; todo = refl }))

  -- Times
  pub times_asked : (q : Progress) (x p : ℕ) (left : List ℕ) (f : FrameValue) (back : Option FrameValue) → q.phase ≡ Commissioning → q.words.reference ≡ Some x
      → q.todo ≡ Times p ∷ map Times left ++ map Set (clocks q.words.slaves) → IsReadingOn (asked_by cfg q (Times p) (map Times left ++ map Set (clocks q.words.slaves)) f back)
  times_asked q x p left f None phase is are = record { reference = x; is = is; left = p ∷ left; todo = are }
  times_asked q x p left f (Some g) phase is are = by (judged (Times p) (expected cfg q.words (Times p) g) f g)
    where
      by : (o : Option Refusal) → IsReadingOn (answered q (Times p) (map Times left ++ map Set (clocks q.words.slaves)) g o)
      by (Some r) = record { reference = x; is = is; left = p ∷ left; todo = are }
      by None =
          let rest = map Times left ++ map Set (clocks q.words.slaves) in
          turned_keeps IsReadingOn (noted q (Times p) rest g) rest x phase is (reading_settles (noted q (Times p) rest g))
          (record { reference = x; is = is; left = left; todo = refl })

  -- Set
  module _ (kinds : ℕ → ClockKind) (us : List Slave) where
    setting_settles : (q : Progress) → IsSetting kinds cfg q us → IsSetting kinds cfg (record q { phase = Settling }) us
    setting_settles q h = record { reference = h.reference; is = h.is; todo = h.todo; each = h.each }

    -- as it is asked, and behind it
    abbrev pub AreSetBy : Words → List Step → Type 0
    AreSetBy w todo = (q : ℕ) (u : Slave) → slice_get us q ≡ Some u → IsSetBy cfg w q todo u.registers (has_clock (kinds q))

    pub set_asked : (q : Progress) (x p : ℕ) (rest : List Step) (f : FrameValue) (back : Option FrameValue) → q.phase ≡ Commissioning → q.words.reference ≡ Some x → q.todo ≡ Set p ∷ rest
        → AllByRecursion IsSet rest → AreSetBy q.words (Set p ∷ rest) → ((g : FrameValue) → back ≡ Some g → AreSetBy q.words rest) → IsSetting kinds cfg (asked_by cfg q (Set p) rest f back) us
    set_asked q x p rest f None phase is are sets before behind = record {
      reference = x;
      is = is;
      todo = subst (AllByRecursion IsSet) (sym are) (tt, sets);
      each = λ k u there. subst (λ todo. IsSetBy cfg q.words k todo u.registers (has_clock (kinds k))) (sym are) (before k u there);
    }
    set_asked q x p rest f (Some g) phase is are sets before behind = by (judged (Set p) (expected cfg q.words (Set p) g) f g)
      where
        by : (o : Option Refusal) → IsSetting kinds cfg (answered q (Set p) rest g o) us
        by (Some r) = record {
          reference = x;
          is = is;
          todo = subst (AllByRecursion IsSet) (sym are) (tt, sets);
          each = λ k u there. subst (λ todo. IsSetBy cfg q.words k todo u.registers (has_clock (kinds k))) (sym are) (before k u there);
        }
        by None =
            turned_keeps (λ z. IsSetting kinds cfg z us) (noted q (Set p) rest g) rest x phase is (setting_settles (noted q (Set p) rest g))
            (record { reference = x; is = is; todo = sets; each = behind g refl })

    -- over the frame of Set
    on_by : (w : Words) (q : ℕ) (todo : List Step) (v u : Slave) (b : Bool) → HoldsOn v u → IsSetBy cfg w q todo v.registers b → IsSetBy cfg w q todo u.registers b
    on_by w q todo v u true on (inl waits) = inl waits
    on_by w q todo v u true on (inr own) = inr (set_on (offset_at cfg w q) (delay_at cfg w q % 2 ^ 32) v u on own)
    on_by w q todo v u false on none = set_on 0 0 v u on none

    less_by : (w : Words) (q p : ℕ) (rest : List Step) (r : Registers) (b : Bool) → q ≢ p → IsSetBy cfg w q (Set p ∷ rest) r b → IsSetBy cfg w q rest r b
    less_by w q p rest r true other (inl (inl same)) = absurd (other (let z : q ≡ p = cc in z))
    less_by w q p rest r true other (inl (inr waits)) = inl waits
    less_by w q p rest r true other (inr own) = inr own
    less_by w q p rest r false other none = none

    module _ (ss : List Slave) (many : length us ≡ length ss) (w : Words) (p : ℕ) (rest : List Step) (clock : has_clock (kinds p) ≡ true) (held : AreHeldOn (λ q. q ≢ p) ss us)
        (each : (q : ℕ) (v : Slave) → slice_get ss q ≡ Some v → IsSetBy cfg w q (Set p ∷ rest) v.registers (has_clock (kinds q))) where
      other_by : (q : ℕ) (u : Slave) → q ≢ p → slice_get us q ≡ Some u → IsSetBy cfg w q (Set p ∷ rest) u.registers (has_clock (kinds q))
      other_by q u other there =
          let within = low_where us q u there in
          let v = had_before ss q (omega (arith, many, within)) in
          on_by w q (Set p ∷ rest) v.slave u (has_clock (kinds q)) (held q v.slave u other v.is there) (each q v.slave v.is)

      -- with its own still asked, whatever it holds
      pub still : AreSetBy w (Set p ∷ rest)
      still q u there =
          elim (cases_eq q p) [
            | inl same ↦ subst (λ b. IsSetBy cfg w q (Set p ∷ rest) u.registers b) (sym (ap (λ k. has_clock (kinds k)) same ∙ clock)) (inl (inl (ap Set (sym same))))
            | inr other ↦ other_by q u other there
          ]

      -- and with its own there
      pub gone : ((u : Slave) → slice_get us p ≡ Some u → HoldsWritten cfg w p u.registers) → AreSetBy w rest
      gone own q u there =
          elim (cases_eq q p) [
            | inl same ↦ subst (λ b. IsSetBy cfg w q rest u.registers b) (sym (ap (λ k. has_clock (kinds k)) same ∙ clock))
                (inr (subst (λ k. HoldsWritten cfg w k u.registers) (sym same) (own u (subst (λ k. slice_get us k ≡ Some u) same there))))
            | inr other ↦ less_by w q p rest u.registers (has_clock (kinds q)) other (other_by q u other there)
          ]
