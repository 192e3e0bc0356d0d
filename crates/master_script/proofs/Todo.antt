-- The steps that are still to be asked, counted.
use Rattle.std.proofs.Common.{◌≡◌, ℕ, ◌+◌, ◌*◌, ◌≤◌, Bool, List, [], ◌∷◌, ◌++◌, length, map, filter, refl, arith}
use Rattle.std.proofs.lemmas.List.{length-map, length-append}
use Rattle.std.proofs.lemmas.List.Sums.{length-filter, count_by-le-length}
use Rattle.std.proofs.lemmas.List.FromFn.{length-range_with_len}
use Rattle.ecat_frame.specs.FrameGrammar.{FrameValue}
use Rattle.dc_bounds.specs.Weight.{flag}
use Rattle.dc_delay.specs.ShapeRows.{positions}
use Rattle.master_script.specs.Progress.{later_steps, arm_steps}
use Rattle.master_script.specs.Slaves.{SlaveWords, is_measuring, is_clock, measuring, clocks}
use Rattle.master_script.specs.Steps.{learned, identified}
use Rattle.master_script.specs.Words.{Words}
use Rattle.master_script.specs.declared.step.Step.{Step}
use Rattle.master_script.specs.declared.step.Step.TheVariants.{Identify, Latch, Times, Set, Arm}

marked_few : (flags : ℕ → Bool) (n : ℕ) → length (filter flags (positions n)) ≤ n
marked_few flags n =
    let a = length-filter flags (positions n) in let b = count_by-le-length flags (positions n) in let c = length-range_with_len 0 n in omega (arith, a, b, c)

-- how often Identify is still asked
abbrev pub one_identify : Step → ℕ
one_identify (Identify p) = 1
one_identify step = 0

abbrev pub identifies : List Step → ℕ
identifies [] = 0
identifies (step ∷ rest) = one_identify step + identifies rest

pub none_times : (ps : List ℕ) (rest : List Step) → identifies (map Times ps ++ rest) ≡ identifies rest
none_times [] rest = refl
none_times (p ∷ ps) rest = let a = none_times ps rest in omega (arith, a)

pub none_set : (ps : List ℕ) → identifies (map Set ps) ≡ 0
none_set [] = refl
none_set (p ∷ ps) = let a = none_set ps in omega (arith, a)

none_arm : (ps : List ℕ) → identifies (map Arm ps) ≡ 0
none_arm [] = refl
none_arm (p ∷ ps) = let a = none_arm ps in omega (arith, a)

pub all_identify : (ps : List ℕ) → identifies (map Identify ps) ≡ length ps
all_identify [] = refl
all_identify (p ∷ ps) = let a = all_identify ps in omega (arith, a)

pub later_few : (ss : List SlaveWords) → length (later_steps ss) ≤ 2 + 2 * length ss
later_few ss =
    let a = marked_few (flag (map is_measuring ss)) (length ss) in
    let b = marked_few (flag (map is_clock ss)) (length ss) in
    let c = length-append (map Times (measuring ss)) (map Set (clocks ss)) in
    let d = length-map (measuring ss) Times in
    let e = length-map (clocks ss) Set in
    omega (arith, a, b, c, d, e)

pub later_none : (ss : List SlaveWords) → identifies (later_steps ss) ≡ 0
later_none ss = let a = none_times (measuring ss) (map Set (clocks ss)) in let b = none_set (clocks ss) in omega (arith, a, b)

pub arm_few : (ss : List SlaveWords) → length (arm_steps ss) ≤ length ss
arm_few ss = let b = marked_few (flag (map is_clock ss)) (length ss) in let e = length-map (clocks ss) Arm in omega (arith, b, e)

pub arm_none : (ss : List SlaveWords) → identifies (arm_steps ss) ≡ 0
arm_none ss = none_arm (clocks ss)

pub learned_slaves : (n : ℕ) (step : Step) (f : FrameValue) (w : Words) → length (learned n step f w).slaves ≡ length w.slaves + one_identify step
learned_slaves n (Identify p) f w = let a = length-append w.slaves (identified f ∷ []) in omega (arith, a)
learned_slaves n step f w = omega arith

pub learned_reference : (n : ℕ) (step : Step) (f : FrameValue) (w : Words) → (learned n step f w).reference ≡ w.reference
learned_reference n (Identify p) f w = refl
learned_reference n Latch f w = refl
learned_reference n (Times p) f w = refl
learned_reference n step f w = refl
