-- The receive times that are read, and what is kept while steps of later commissioning are ahead.
use Rattle.std.proofs.Common.{◌≡◌, ◌≢◌, ℕ, ◌+◌, ◌<◌, ◌≤◌, ◌&&◌, not, eqb, ltb, is_some, Bool, true, false, if◌then◌else◌, List, [], ◌∷◌, ◌++◌, length, map, slice_set, Option, Some, None, refl, ap, sym, ◌∙◌, arith}
use Rattle.std.specs.List.{list_any}
use Rattle.std.proofs.lemmas.Bool.Decides.{nat_tests}
use Rattle.std.proofs.lemmas.List.{get_or-set_other, get_or-set_same, get_or_past}
use Rattle.dc_bounds.specs.Weight.{flag}
use Rattle.dc_delay.specs.Latched.{measures}
use Rattle.dc_delay.specs.declared.latch.Latch.{Latch}
use Rattle.dc_master.proofs.Parts.{shown}
use Rattle.master_script.specs.Config.{ConfigValue}
use Rattle.master_script.specs.Kept.{is_times}
use Rattle.master_script.specs.Words.{Words, delays_of}
use Rattle.master_script.specs.declared.step.Step.{Step}
use Rattle.master_script.specs.declared.step.Step.TheVariants.{Times, Set, Arm}

from_eqb : (m n : ℕ) → eqb m n ≡ true → m ≡ n
from_eqb m n h = grind (arith, nat_tests)

not_eqb : (m n : ℕ) → eqb m n ≡ false → m ≢ n
not_eqb m n h = grind (arith, nat_tests)

module _ (ls : List (Option Latch)) (k : ℕ) (latch : Latch) (flags : ℕ → Bool) where
  other : (p : ℕ) → p ≢ k → measures (slice_set ls k (Some latch)) p ≡ measures ls p
  other p d = ap (λ (o : Option Latch). is_some o) (get_or-set_other ls k p (Some latch) None d)

  read_by : (p : ℕ) (b : Bool) → eqb p k ≡ b → k < length ls → flags k ≡ true → ((q : ℕ) → q < k → measures ls q ≡ flags q) → p < k + 1 → measures (slice_set ls k (Some latch)) p ≡ flags p
  read_by p true e some marked before h =
      let s = from_eqb p k e in
      rw s (ap (λ (o : Option Latch). is_some o) (get_or-set_same ls k (Some latch) None some) ∙ sym marked)
  read_by p false e some marked before h = let d = not_eqb p k e in other p d ∙ before p (omega (arith, d, h))

  pub read_more : k < length ls → flags k ≡ true → ((q : ℕ) → q < k → measures ls q ≡ flags q) → (p : ℕ) → p < k + 1 → measures (slice_set ls k (Some latch)) p ≡ flags p
  read_more some marked before p h = read_by p (eqb p k) refl some marked before h

  pub unread_more : ((q : ℕ) → k ≤ q → measures ls q ≡ false) → (p : ℕ) → k + 1 ≤ p → measures (slice_set ls k (Some latch)) p ≡ false
  unread_more after p h = let d : p ≢ k = λ e. absurd (omega (arith, e, h)) in other p d ∙ after p (omega (arith, h))

read_here : (ls : List (Option Latch)) (flags : ℕ → Bool) (k p : ℕ) (b : Bool) → eqb p k ≡ b → measures ls k ≡ flags k → ((q : ℕ) → q < k → measures ls q ≡ flags q) → p < k + 1 → measures ls p ≡ flags p
read_here ls flags k p true e here before h = let s = from_eqb p k e in rw s here
read_here ls flags k p false e here before h = let d = not_eqb p k e in before p (omega (arith, d, h))

-- a slave that does not measure is passed over
pub read_over : (ls : List (Option Latch)) (flags : ℕ → Bool) (k : ℕ) → measures ls k ≡ false → flags k ≡ false → ((q : ℕ) → q < k → measures ls q ≡ flags q) → (p : ℕ) → p < k + 1 → measures ls p ≡ flags p
read_over ls flags k here marked before p h = read_here ls flags k p (eqb p k) refl (here ∙ sym marked) before h

by_test : (ls : List (Option Latch)) (bs : List Bool) (p : ℕ) (b : Bool) → ltb p (length bs) ≡ b → ((q : ℕ) → q < length bs → measures ls q ≡ flag bs q) → ((q : ℕ) → length bs ≤ q → measures ls q ≡ false) → measures ls p ≡ flag bs p
by_test ls bs p true e before after = before p (grind (arith, nat_tests))
by_test ls bs p false e before after =
    let h : length bs ≤ p = grind (arith, nat_tests) in
    after p h ∙ sym (get_or_past bs p false h)

-- all are read
pub read_all : (ls : List (Option Latch)) (bs : List Bool) → ((q : ℕ) → q < length bs → measures ls q ≡ flag bs q) → ((q : ℕ) → length bs ≤ q → measures ls q ≡ false) → (p : ℕ) → measures ls p ≡ flag bs p
read_all ls bs before after p = by_test ls bs p (ltb p (length bs)) refl before after

-- what is kept
none_ahead : (o : Option ℕ) (b : Bool) (ds : List (Option ℕ)) → b ≡ true → (if is_some o && not b then ds else []) ≡ []
none_ahead None b ds e = refl
none_ahead (Some x) b ds e = rw e refl

pub shown_ahead : (cfg : ConfigValue) (w : Words) (todo : List Step) → list_any is_times todo ≡ true → shown cfg w todo ≡ []
shown_ahead cfg w todo e = none_ahead w.reference (list_any is_times todo) (delays_of cfg w) e

set_any : (ps : List ℕ) → list_any is_times (map Set ps) ≡ false
set_any [] = refl
set_any (p ∷ ps) = set_any ps

pub arm_any : (ps : List ℕ) → list_any is_times (map Arm ps) ≡ false
arm_any [] = refl
arm_any (p ∷ ps) = arm_any ps

pub shown_behind : (cfg : ConfigValue) (w : Words) (todo : List Step) (r : ℕ) → w.reference ≡ Some r → list_any is_times todo ≡ false → shown cfg w todo ≡ delays_of cfg w
shown_behind cfg w todo r e f = rw (e, f) refl

pub shown_set : (cfg : ConfigValue) (w : Words) (r p : ℕ) (ps : List ℕ) → w.reference ≡ Some r → shown cfg w (Set p ∷ map Set ps) ≡ delays_of cfg w
shown_set cfg w r p ps e = shown_behind cfg w (Set p ∷ map Set ps) r e (set_any ps)

pub shown_arm : (cfg : ConfigValue) (w : Words) (r p : ℕ) (ps : List ℕ) → w.reference ≡ Some r → shown cfg w (Arm p ∷ map Arm ps) ≡ delays_of cfg w
shown_arm cfg w r p ps e = shown_behind cfg w (Arm p ∷ map Arm ps) r e (arm_any ps)

-- a Times is ahead where a slave measures
pub times_ahead : (ps : List ℕ) (rest : List Step) → 1 ≤ length ps → list_any is_times (map Times ps ++ rest) ≡ true
times_ahead [] rest h = absurd (omega (arith, h))
times_ahead (p ∷ ps) rest h = refl
