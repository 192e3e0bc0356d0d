-- What is known before the slaves are judged and after it, and that exchanges only add to it.
use Rattle.std.proofs.Common.{◌≡◌, ◌≢◌, ℕ, zero, suc, ◌+◌, ◌<◌, ◌≤◌, Bool, true, false, cond, ◌==◌, List, [], ◌∷◌, ◌++◌, length, map, filter, replicate, slice_index_or, slice_set, IsSome, Option, Some, None, Result, Ok, Err, fold, refl, sym, ap, subst, ◌∙◌, arith}
use Rattle.std.specs.List.{list_any, range_with_len}
use Rattle.std.proofs.lemmas.List.{append-nil, append_assoc, get_or-set_other, length-append}
use Rattle.std.proofs.lemmas.List.FromFn.{length-range_with_len}
use Rattle.ecat_frame.specs.FrameGrammar.{FrameValue}
use Rattle.ecat_link.specs.Exchanges.{Exchange}
use Rattle.dc_bounds.specs.Weight.{flag}
use Rattle.dc_delay.specs.declared.latch.Latch.{Latch}
use Rattle.dc_delay.specs.ShapeRows.{positions}
use Rattle.master_script.specs.Config.{ConfigValue, settle_frames}
use Rattle.master_script.specs.Judged.{judged}
use Rattle.master_script.specs.Kept.{is_times}
use Rattle.master_script.specs.Progress.{Phase, Commissioning, Settling, Arming, Running, Progress, progress, beginning, later_steps, after, asked, answered, noted, done, turned, planned, missed, counted, moved, settling, settled_by, timed, brought, running}
use Rattle.master_script.specs.Slaves.{SlaveWords, is_measuring, measuring, clocks, judgement}
use Rattle.master_script.specs.Steps.{learned, expected, identified, latch_in}
use Rattle.master_script.specs.Words.{Words, wide_at}
use Rattle.master_script.specs.declared.step.Refusal.{Refusal}
use Rattle.master_script.specs.declared.step.Step.{Step}
use Rattle.master_script.specs.declared.step.Step.TheVariants.{Count, Identify, Rate, Latch as LatchStep, Times, Set, Settle, Drift, Arm}
use Rattle.master_script.proofs.Todo.{identifies, later_none, arm_none, all_identify}

-- the steps before the judgement
abbrev pub IsFirst : Step → Type 0
IsFirst Count = Unit {0}
IsFirst (Identify p) = Unit {0}
IsFirst step = ⊥

abbrev pub AreFirst : List Step → Type 0
AreFirst [] = Unit {0}
AreFirst (step ∷ rest) = IsFirst step × AreFirst rest

identify_first : (ps : List ℕ) → AreFirst (map Identify ps)
identify_first [] = tt
identify_first (p ∷ ps) = (tt, identify_first ps)

-- no Latch is still to be asked, and no Times of a position up to this one
abbrev pub NoLatch : List Step → Type 0
NoLatch [] = Unit {0}
NoLatch (LatchStep ∷ rest) = ⊥
NoLatch (step ∷ rest) = NoLatch rest

abbrev pub TimesBeyond : ℕ → List Step → Type 0
TimesBeyond q [] = Unit {0}
TimesBeyond q (Times r ∷ rest) = (q < r) × TimesBeyond q rest
TimesBeyond q (step ∷ rest) = TimesBeyond q rest

-- what these steps will teach is not known yet, and each teaches once
abbrev pub Ahead : ℕ → List (Option Latch) → List Step → Type 0
Ahead latched latches [] = Unit {0}
Ahead latched latches (LatchStep ∷ rest) = (latched ≡ 0) × NoLatch rest × Ahead latched latches rest
Ahead latched latches (Times q ∷ rest) = (slice_index_or latches q None ≡ None) × TimesBeyond q rest × Ahead latched latches rest
Ahead latched latches (step ∷ rest) = Ahead latched latches rest

pub record Early (n : ℕ) (phase : Phase) (todo : List Step) (slaves : List SlaveWords) (latched : ℕ) (latches : List (Option Latch)) : Type 0 where
  pub phase_is : phase ≡ Commissioning
  pub steps : AreFirst todo
  pub kinds : length slaves + identifies todo ≡ n
  pub none : latched ≡ 0
  pub nones : latches ≡ replicate n None

pub record Late (n : ℕ) (todo : List Step) (slaves : List SlaveWords) (latched : ℕ) (latches : List (Option Latch)) (r : ℕ) : Type 0 where
  pub is : judgement slaves ≡ Ok r
  pub kinds : length slaves ≡ n
  pub steps : identifies todo ≡ 0
  pub ahead : Ahead latched latches todo

abbrev pub KnownBy : ℕ → Progress → Option ℕ → Type 0
KnownBy n p None = Early n p.phase p.todo p.words.slaves p.words.latched p.words.latches
KnownBy n p (Some r) = Late n p.todo p.words.slaves p.words.latched p.words.latches r

abbrev pub Known : ℕ → Progress → Type 0
Known n p = KnownBy n p p.words.reference

-- what stays of the words, and of those from which delays are computed once no Times is ahead
pub record Adds (p q : Progress) : Type 0 where
  pub slaves : (others : List SlaveWords) × (q.words.slaves ≡ p.words.slaves ++ others)
  pub reference : (r : ℕ) → p.words.reference ≡ Some r → q.words.reference ≡ Some r
  pub latched : 0 < p.words.latched → q.words.latched ≡ p.words.latched
  pub latches : (x : ℕ) (l : Latch) → slice_index_or p.words.latches x None ≡ Some l → slice_index_or q.words.latches x None ≡ Some l
  pub measured : IsSome p.words.reference → list_any is_times p.todo ≡ false → (q.words.latches ≡ p.words.latches) × (q.words.slaves ≡ p.words.slaves) × (list_any is_times q.todo ≡ false)

same_adds : (p q : Progress) → q.words.slaves ≡ p.words.slaves → q.words.reference ≡ p.words.reference → q.words.latched ≡ p.words.latched → q.words.latches ≡ p.words.latches
    → (list_any is_times p.todo ≡ false → list_any is_times q.todo ≡ false) → Adds p q
same_adds p q s r d l t = record {
  slaves = ([], s ∙ sym (append-nil p.words.slaves));
  reference = λ x e. r ∙ e;
  latched = λ h. d;
  latches = λ x k e. ap (λ (ls : List (Option Latch)). slice_index_or ls x None) l ∙ e;
  measured = λ i h. (l, s, t h);
}

adds_then : (p q r : Progress) → Adds p q → Adds q r → Adds p r
adds_then p q r a b = record {
  slaves = (a.slaves.0 ++ b.slaves.0, b.slaves.1 ∙ ap (λ (x : List SlaveWords). x ++ b.slaves.0) a.slaves.1 ∙ append_assoc p.words.slaves a.slaves.0 b.slaves.0);
  reference = λ x e. b.reference x (a.reference x e);
  latched = λ h. let e = a.latched h in b.latched (subst (λ (k : ℕ). 0 < k) (sym e) h) ∙ e;
  latches = λ x k e. b.latches x k (a.latches x k e);
  measured = λ i h.
      let e = a.measured i h in
      let f = b.measured (known_there p.words.reference q.words.reference i a.reference) e.2 in
      (f.0 ∙ e.0, f.1 ∙ e.1, f.2);
}
  where
    known_there : (o o' : Option ℕ) → IsSome o → ((x : ℕ) → o ≡ Some x → o' ≡ Some x) → IsSome o'
    known_there None o' i h = absurd cc
    known_there (Some x) o' i h = rw (h x refl) refl

-- it is known, and nothing was lost of it
pub record Moves (n : ℕ) (p q : Progress) : Type 0 where
  pub known : Known n q
  pub adds : Adds p q

-- steps ahead
set_any : (ps : List ℕ) → list_any is_times (map Set ps) ≡ false
set_any [] = refl
set_any (p ∷ ps) = set_any ps

arm_any : (ps : List ℕ) → list_any is_times (map Arm ps) ≡ false
arm_any [] = refl
arm_any (p ∷ ps) = arm_any ps

arms_ahead : (latched : ℕ) (latches : List (Option Latch)) (ps : List ℕ) → Ahead latched latches (map Arm ps)
arms_ahead latched latches [] = tt
arms_ahead latched latches (p ∷ ps) = arms_ahead latched latches ps

sets_ahead : (latched : ℕ) (latches : List (Option Latch)) (ps : List ℕ) → Ahead latched latches (map Set ps)
sets_ahead latched latches [] = tt
sets_ahead latched latches (p ∷ ps) = sets_ahead latched latches ps

sets_beyond : (q : ℕ) (ps : List ℕ) → TimesBeyond q (map Set ps)
sets_beyond q [] = tt
sets_beyond q (p ∷ ps) = sets_beyond q ps

-- numbers that rise, each above the one before
abbrev Rising : ℕ → List ℕ → Type 0
Rising q [] = Unit {0}
Rising q (x ∷ xs) = (q ≤ x) × Rising (x + 1) xs

rising_down : (q r : ℕ) (xs : List ℕ) → q ≤ r → Rising r xs → Rising q xs
rising_down q r [] l h = tt
rising_down q r (x ∷ xs) l h = let a = h.0 in (omega (arith, a, l), h.1)

range_rising : (a m : ℕ) → Rising a (range_with_len a m)
range_rising a zero = tt
range_rising a (suc m) = (omega arith, range_rising (a + 1) m)

filter_rising : (p : ℕ → Bool) (q : ℕ) (xs : List ℕ) → Rising q xs → Rising q (filter p xs)
filter_rising p q [] h = tt
filter_rising p q (x ∷ xs) h = by_test (p x) (filter_rising p (x + 1) xs h.1)
  where
    by_test : (b : Bool) → Rising (x + 1) (filter p xs) → Rising q (cond b (x ∷ filter p xs) (filter p xs))
    by_test true t = (h.0, t)
    by_test false t = let a = h.0 in rising_down q (x + 1) (filter p xs) (omega (arith, a)) t

times_beyond : (q : ℕ) (ps : List ℕ) (rest : List Step) → Rising (q + 1) ps → TimesBeyond q rest → TimesBeyond q (map Times ps ++ rest)
times_beyond q [] rest h t = t
times_beyond q (p ∷ ps) rest h t = let a = h.0 in (omega (arith, a), times_beyond q ps rest (rising_down (q + 1) (p + 1) ps (omega (arith, a)) h.1) t)

times_ahead : (latched : ℕ) (latches : List (Option Latch)) (q : ℕ) (ps cs : List ℕ) → ((x : ℕ) → slice_index_or latches x None ≡ None) → Rising q ps → Ahead latched latches (map Times ps ++ map Set cs)
times_ahead latched latches q [] cs h r = sets_ahead latched latches cs
times_ahead latched latches q (p ∷ ps) cs h r = (h p, times_beyond p ps (map Set cs) r.1 (sets_beyond p cs), times_ahead latched latches (p + 1) ps cs h r.1)

no_latch : (ps cs : List ℕ) → NoLatch (map Times ps ++ map Set cs)
no_latch [] [] = tt
no_latch [] (c ∷ cs) = no_latch [] cs
no_latch (p ∷ ps) cs = no_latch ps cs

abbrev nones_of : ℕ → List (Option Latch)
nones_of n = replicate n None

none_at : (n x : ℕ) → slice_index_or (nones_of n) x None ≡ None
none_at zero x = refl
none_at (suc n) zero = refl
none_at (suc n) (suc x) = none_at n x

later_ahead : (n : ℕ) (ss : List SlaveWords) (latched : ℕ) (latches : List (Option Latch)) → latched ≡ 0 → latches ≡ replicate n None → Ahead latched latches (later_steps ss)
later_ahead n ss latched latches d l = (
  d,
  no_latch (measuring ss) (clocks ss),
  times_ahead latched latches 0 (measuring ss) (clocks ss)
      (λ x. ap (λ (ls : List (Option Latch)). slice_index_or ls x None) l ∙ none_at n x)
      (filter_rising (flag (map is_measuring ss)) 0 (positions (length ss)) (range_rising 0 (length ss))),
)

-- Latch and Times teach what was not known
latch_ahead : (latched sent : ℕ) (latches : List (Option Latch)) (todo : List Step) → NoLatch todo → Ahead latched latches todo → Ahead sent latches todo
latch_ahead latched sent latches [] w h = tt
latch_ahead latched sent latches (LatchStep ∷ rest) w h = absurd w
latch_ahead latched sent latches (Times q ∷ rest) w h = (h.0, h.1, latch_ahead latched sent latches rest w h.2)
latch_ahead latched sent latches (step ∷ rest) w h = latch_ahead latched sent latches rest w h

taken_ahead : (latched q : ℕ) (latches : List (Option Latch)) (l : Option Latch) (todo : List Step) → TimesBeyond q todo → Ahead latched latches todo → Ahead latched (slice_set latches q l) todo
taken_ahead latched q latches l [] b h = tt
taken_ahead latched q latches l (LatchStep ∷ rest) b h = (h.0, h.1, taken_ahead latched q latches l rest b h.2)
taken_ahead latched q latches l (Times r ∷ rest) b h =
    let a = b.0 in (get_or-set_other latches q r l None (λ e. absurd (omega (arith, a, e))) ∙ h.0, h.1, taken_ahead latched q latches l rest b.1 h.2)
taken_ahead latched q latches l (step ∷ rest) b h = taken_ahead latched q latches l rest b h

kept_latch : (latches : List (Option Latch)) (q x : ℕ) (l k : Latch) → slice_index_or latches q None ≡ None → slice_index_or latches x None ≡ Some k → slice_index_or (slice_set latches q (Some l)) x None ≡ Some k
kept_latch latches q x l k n h =
    get_or-set_other latches q x (Some l) None
    (λ s. absurd (let z : slice_index_or latches q None ≡ Some k = subst (λ (y : ℕ). slice_index_or latches y None ≡ Some k) s h in let w : None ≡ Some k = sym n ∙ z in cc))
    ∙ h

not_some : (o : Option ℕ) → o ≡ None → IsSome o → ⊥
not_some None e i = cc
not_some (Some x) e i = cc

-- a step is answered
noted_early : (n : ℕ) (p : Progress) (step : Step) (rest : List Step) (f : FrameValue) → p.words.reference ≡ None → p.todo ≡ step ∷ rest → IsFirst step → KnownBy n p None → Moves n p (noted p step rest f)
noted_early n p Count rest f r t h k =
    let i = ap (λ x. identifies x) t in let a = k.kinds in
    record {
      known = subst (λ o. KnownBy n (noted p Count rest f) o) (sym r) (record { phase_is = k.phase_is; steps = (subst (λ x. AreFirst x) t k.steps).1; kinds = omega (arith, i, a); none = k.none; nones = k.nones });
      adds = same_adds p (noted p Count rest f) refl refl refl refl (λ e. subst (λ x. list_any is_times x ≡ false) t e);
    }
noted_early n p (Identify q) rest f r t h k =
    let i = ap (λ x. identifies x) t in let a = k.kinds in let l = length-append p.words.slaves (identified f ∷ []) in
    record {
      known = subst (λ o. KnownBy n (noted p (Identify q) rest f) o) (sym r) (record { phase_is = k.phase_is; steps = (subst (λ x. AreFirst x) t k.steps).1; kinds = omega (arith, i, a, l); none = k.none; nones = k.nones });
      adds = record {
        slaves = (identified f ∷ [], refl);
        reference = λ x e. e;
        latched = λ h. refl;
        latches = λ x l e. e;
        measured = λ i m. absurd (not_some p.words.reference r i);
      };
    }
noted_early n p step rest f r t h k = absurd h

-- a step that teaches nothing
untaught : (n : ℕ) (p : Progress) (step : Step) (rest : List Step) (f : FrameValue) (x : ℕ) → learned p.sent step f p.words ≡ p.words → p.words.reference ≡ Some x → p.todo ≡ step ∷ rest
    → (list_any is_times (step ∷ rest) ≡ false → list_any is_times rest ≡ false) → identifies (step ∷ rest) ≡ identifies rest → Ahead p.words.latched p.words.latches rest → KnownBy n p (Some x) → Moves n p (noted p step rest f)
untaught n p step rest f x same r t none i h k =
    let j = ap (λ y. identifies y) t in
    let a = k.steps in
    let q = noted p step rest f in
    record {
      known = subst (λ w. KnownBy n (record q { words = w }) w.reference) (sym same)
          (subst (λ o. KnownBy n (record q { words = p.words }) o) (sym r) (record { is = k.is; kinds = k.kinds; steps = omega (arith, i, j, a); ahead = h }));
      adds = same_adds p q (ap (λ (w : Words). w.slaves) same) (ap (λ (w : Words). w.reference) same) (ap (λ (w : Words). w.latched) same) (ap (λ (w : Words). w.latches) same)
          (λ e. none (subst (λ y. list_any is_times y ≡ false) t e));
    }

noted_late : (n : ℕ) (p : Progress) (step : Step) (rest : List Step) (f : FrameValue) (x : ℕ) → p.words.reference ≡ Some x → p.todo ≡ step ∷ rest → Ahead p.words.latched p.words.latches (step ∷ rest) → KnownBy n p (Some x) → Moves n p (noted p step rest f)
noted_late n p Count rest f x r t h k = untaught n p Count rest f x refl r t (λ e. e) (omega arith) h k
noted_late n p (Identify q) rest f x r t h k = let j = ap (λ y. identifies y) t in let a = k.steps in absurd (omega (arith, j, a))
noted_late n p Rate rest f x r t h k = untaught n p Rate rest f x refl r t (λ e. e) (omega arith) h k
noted_late n p LatchStep rest f x r t h k =
    let j = ap (λ y. identifies y) t in
    let a = k.steps in
    let z = h.0 in
    record {
      known = subst (λ o. KnownBy n (noted p LatchStep rest f) o) (sym r) (record { is = k.is; kinds = k.kinds; steps = omega (arith, j, a); ahead = latch_ahead p.words.latched p.sent p.words.latches rest h.1 h.2 });
      adds = record {
        slaves = ([], sym (append-nil p.words.slaves));
        reference = λ y e. e;
        latched = λ l. absurd (omega (arith, l, z));
        latches = λ y l e. e;
        measured = λ i m. (refl, refl, subst (λ y. list_any is_times y ≡ false) t m);
      };
    }
noted_late n p (Times q) rest f x r t h k =
    let j = ap (λ y. identifies y) t in
    let a = k.steps in
    let l = latch_in (wide_at p.words q) f in
    record {
      known = subst (λ o. KnownBy n (noted p (Times q) rest f) o) (sym r) (record { is = k.is; kinds = k.kinds; steps = omega (arith, j, a); ahead = taken_ahead p.words.latched q p.words.latches (Some l) rest h.1 h.2 });
      adds = record {
        slaves = ([], sym (append-nil p.words.slaves));
        reference = λ y e. e;
        latched = λ m. refl;
        latches = λ y m e. kept_latch p.words.latches q y l m h.0 e;
        measured = λ i m. absurd (let z : true ≡ false = subst (λ y. list_any is_times y ≡ false) t m in cc);
      };
    }
noted_late n p (Set q) rest f x r t h k = untaught n p (Set q) rest f x refl r t (λ e. e) (omega arith) h k
noted_late n p Settle rest f x r t h k = untaught n p Settle rest f x refl r t (λ e. e) (omega arith) h k
noted_late n p (Drift j) rest f x r t h k = untaught n p (Drift j) rest f x refl r t (λ e. e) (omega arith) h k
noted_late n p (Arm q) rest f x r t h k = untaught n p (Arm q) rest f x refl r t (λ e. e) (omega arith) h k

noted_moves : (n : ℕ) (p : Progress) (step : Step) (rest : List Step) (f : FrameValue) (o : Option ℕ) → p.words.reference ≡ o → p.todo ≡ step ∷ rest → KnownBy n p o → Moves n p (noted p step rest f)
noted_moves n p step rest f None r t k = noted_early n p step rest f r t (subst (λ x. AreFirst x) t k.steps).0 k
noted_moves n p step rest f (Some x) r t k = noted_late n p step rest f x r t (subst (λ y. Ahead p.words.latched p.words.latches y) t k.ahead) k

-- the same words and steps
pub same_moves : (n : ℕ) (p q : Progress) → Known n q → q.words ≡ p.words → q.todo ≡ p.todo → Moves n p q
same_moves n p q k w t = record {
  known = k;
  adds = same_adds p q (ap (λ (x : Words). x.slaves) w) (ap (λ (x : Words). x.reference) w) (ap (λ (x : Words). x.latched) w) (ap (λ (x : Words). x.latches) w) (λ e. ap (λ x. list_any is_times x) t ∙ e);
}

pub moves_then : (n : ℕ) (p q r : Progress) → Moves n p q → Moves n q r → Moves n p r
moves_then n p q r a b = record { known = b.known; adds = adds_then p q r a.adds b.adds }

-- the last step is answered
planned_moves : (n : ℕ) (p : Progress) (j : Result ℕ Refusal) → judgement p.words.slaves ≡ j → p.words.reference ≡ None → p.todo ≡ [] → KnownBy n p None → Moves n p (planned p j)
planned_moves n p (Err e) j r t k = same_moves n p (planned p (Err e)) (subst (λ o. KnownBy n (planned p (Err e)) o) (sym r) k) refl refl
planned_moves n p (Ok x) j r t k =
    let a = k.kinds in
    let b = ap (λ y. identifies y) t in
    record {
      known = record { is = j; kinds = omega (arith, a, b); steps = later_none p.words.slaves; ahead = later_ahead n p.words.slaves p.words.latched p.words.latches k.none k.nones };
      adds = record {
        slaves = ([], sym (append-nil p.words.slaves));
        reference = λ y e. absurd (let z : None ≡ Some y = sym r ∙ e in cc);
        latched = λ l. refl;
        latches = λ y l e. e;
        measured = λ i m. absurd (not_some p.words.reference r i);
      };
    }

-- another phase, with the same steps
other_phase : (n : ℕ) (p : Progress) (s : Phase) (o : Option ℕ) → p.phase ≢ Commissioning → KnownBy n p o → KnownBy n (record p { phase = s }) o
other_phase n p s None c k = absurd (c k.phase_is)
other_phase n p s (Some x) c k = k

done_moves : (n : ℕ) (p : Progress) (s : Phase) (o : Option ℕ) → p.phase ≡ s → p.words.reference ≡ o → p.todo ≡ [] → KnownBy n p o → Moves n p (done p s o)
done_moves n p Commissioning None e r t k = planned_moves n p (judgement p.words.slaves) refl r t k
done_moves n p Commissioning (Some x) e r t k = same_moves n p (record p { phase = Settling }) (subst (λ o. KnownBy n (record p { phase = Settling }) o) (sym r) k) refl refl
done_moves n p Settling o e r t k = same_moves n p p (subst (λ o. KnownBy n p o) (sym r) k) refl refl
done_moves n p Arming o e r t k =
    same_moves n p (record p { phase = Running }) (subst (λ o. KnownBy n (record p { phase = Running }) o) (sym r) (other_phase n p Running o (λ c. absurd (let z : Arming ≡ Commissioning = sym e ∙ c in cc)) k)) refl refl
done_moves n p Running o e r t k = same_moves n p p (subst (λ o. KnownBy n p o) (sym r) k) refl refl

turned_moves : (n : ℕ) (p : Progress) (rest : List Step) → p.todo ≡ rest → Known n p → Moves n p (turned p rest)
turned_moves n p [] t k = done_moves n p p.phase p.words.reference refl refl t k
turned_moves n p (next ∷ rest) t k = same_moves n p p k refl refl

answered_moves : (n : ℕ) (p : Progress) (step : Step) (rest : List Step) (f : FrameValue) (o : Option Refusal) → p.todo ≡ step ∷ rest → Known n p → Moves n p (answered p step rest f o)
answered_moves n p step rest f (Some r) t k = same_moves n p (record p { refused = Some r }) k refl refl
answered_moves n p step rest f None t k =
    let a = noted_moves n p step rest f p.words.reference refl t k in
    moves_then n p (noted p step rest f) (turned (noted p step rest f) rest) a (turned_moves n (noted p step rest f) rest refl a.known)

asked_moves : (n : ℕ) (cfg : ConfigValue) (p : Progress) (sent : FrameValue) (back : Option FrameValue) (todo : List Step) → p.todo ≡ todo → Known n p → Moves n p (asked cfg p sent back todo)
asked_moves n cfg p sent back [] t k = same_moves n p p k refl refl
asked_moves n cfg p sent None (step ∷ rest) t k = same_moves n p (missed p step) k refl refl
asked_moves n cfg p sent (Some f) (step ∷ rest) t k = answered_moves n p step rest f (judged step (expected cfg p.words step f) sent f) t k

-- settling and running
settled_by_moves : (n : ℕ) (p : Progress) (time : Option ℕ) (o : Option ℕ) → p.phase ≡ Settling → p.words.reference ≡ o → KnownBy n p o → Moves n p (settled_by p time)
settled_by_moves n p None o e r k = same_moves n p (settled_by p None) (subst (λ o. KnownBy n (settled_by p None) o) (sym r) k) refl refl
settled_by_moves n p (Some y) None e r k = absurd (let z : Settling ≡ Commissioning = sym e ∙ k.phase_is in cc)
settled_by_moves n p (Some y) (Some x) e r k = record {
  known = subst (λ o. KnownBy n (settled_by p (Some y)) o) (sym r) (record { is = k.is; kinds = k.kinds; steps = arm_none p.words.slaves; ahead = arms_ahead p.words.latched p.words.latches (clocks p.words.slaves) });
  adds = same_adds p (settled_by p (Some y)) refl refl refl refl (λ m. arm_any (clocks p.words.slaves));
}

settled_moves : (n : ℕ) (p : Progress) (last : Bool) → p.phase ≡ Settling → Known n p → Moves n p (cond last (settled_by p p.words.time) p)
settled_moves n p true e k = settled_by_moves n p p.words.time p.words.reference e refl k
settled_moves n p false e k = same_moves n p p k refl refl

timed_moves : (n : ℕ) (cfg : ConfigValue) (p : Progress) (f : FrameValue) (o : Option Refusal) → p.phase ≡ Settling → Known n p → Moves n p (timed cfg p f o)
timed_moves n cfg p f (Some r) e k = same_moves n p (record p { refused = Some r }) k refl refl
timed_moves n cfg p f None e k =
    let q = brought cfg p f in
    let a : Moves n p q = record { known = k; adds = same_adds p q refl refl refl refl (λ m. m) } in
    moves_then n p q _ a (settled_moves n q (q.drifts == settle_frames cfg) e k)

settling_moves : (n : ℕ) (cfg : ConfigValue) (p : Progress) (sent : FrameValue) (back : Option FrameValue) → p.phase ≡ Settling → Known n p → Moves n p (settling cfg p sent back)
settling_moves n cfg p sent None e k = settled_moves n p (p.drifts == settle_frames cfg) e k
settling_moves n cfg p sent (Some f) e k = timed_moves n cfg p f (judged (Drift p.drifts) (expected cfg p.words (Drift p.drifts) f) sent f) e k

running_moves : (n : ℕ) (cfg : ConfigValue) (p : Progress) (sent : FrameValue) (back : Option FrameValue) → Known n p → Moves n p (running cfg p sent back)
running_moves n cfg p sent None k = same_moves n p p k refl refl
running_moves n cfg p sent (Some f) k = same_moves n p (running cfg p sent (Some f)) k refl refl

moved_moves : (n : ℕ) (cfg : ConfigValue) (p : Progress) (sent : FrameValue) (back : Option FrameValue) (o : Option Refusal) (s : Phase) → p.phase ≡ s → Known n p → Moves n p (moved cfg p sent back o s)
moved_moves n cfg p sent back (Some r) s e k = same_moves n p p k refl refl
moved_moves n cfg p sent back None Commissioning e k = asked_moves n cfg p sent back p.todo refl k
moved_moves n cfg p sent back None Settling e k = settling_moves n cfg p sent back e k
moved_moves n cfg p sent back None Arming e k = asked_moves n cfg p sent back p.todo refl k
moved_moves n cfg p sent back None Running e k = running_moves n cfg p sent back k

pub after_moves : (n : ℕ) (cfg : ConfigValue) (p : Progress) (e : Exchange) → Known n p → Moves n p (after cfg p e)
unfolding after
after_moves n cfg p e k =
    let q = counted p e.back in
    moves_then n p q (moved cfg q e.sent e.back p.refused p.phase) (same_moves n p q k refl refl) (moved_moves n cfg q e.sent e.back p.refused p.phase refl k)

pub fold_moves : (n : ℕ) (cfg : ConfigValue) (p : Progress) (es : List Exchange) → Known n p → Moves n p (fold (after cfg) p es)
fold_moves n cfg p [] k = same_moves n p p k refl refl
fold_moves n cfg p (e ∷ es) k =
    let a = after_moves n cfg p e k in
    moves_then n p (after cfg p e) (fold (after cfg) (after cfg p e) es) a (fold_moves n cfg (after cfg p e) es a.known)

pub beginning_known : (cfg : ConfigValue) → Known (length cfg.kinds) (beginning cfg)
beginning_known cfg =
    let a = all_identify (positions (length cfg.kinds)) in
    let b = length-range_with_len 0 (length cfg.kinds) in
    record { phase_is = refl; steps = (tt, identify_first (positions (length cfg.kinds))); kinds = omega (arith, a, b); none = refl; nones = refl }

pub progress_known : (cfg : ConfigValue) (es : List Exchange) → Known (length cfg.kinds) (progress cfg es)
unfolding progress
progress_known cfg es = (fold_moves (length cfg.kinds) cfg (beginning cfg) es (beginning_known cfg)).known
