-- A segment without losses loses no step.
use Rattle.std.proofs.Common.{◌≡◌, ℕ, ◌+◌, Bool, true, false, List, [], ◌∷◌, None, is_some, refl, ap}
use Rattle.std.specs.Result.{result_err}
use Rattle.lost_step.specs.LostStep.{arm_steps, asked, behind_tries, commission_steps, first_arming, loses, lost_step_of}
use Rattle.master_script.specs.declared.step.Step.{Step}
use Rattle.loss_list.specs.Losses.{loss_at}
use Rattle.loss_list.specs.declared.loss_row.LossRow.{LossRow}
use Rattle.loss_list.specs.declared.loss_row.Phase.{Phase}
use Rattle.loss_list.specs.declared.loss_row.Phase.TheVariants.{Commission, Drift}
use Rattle.segment_file.specs.Segment.{SegmentValue}

never : (s : SegmentValue) → s.losses ≡ [] → (phase : Phase) (number : ℕ) → loses s phase number ≡ false
never s none phase number = ap (λ (ls : List LossRow). is_some (loss_at ls phase number)) none

none_asked : (lost : ℕ → Bool) → ((k : ℕ) → lost k ≡ false) → (a : ℕ) (steps : List Step) → result_err (asked lost a steps) ≡ None
unfolding asked behind_tries
none_asked lost off a [] = refl
none_asked lost off a (step ∷ rest) = let here = off a in rw here (none_asked lost off (a + 1) rest)

pub lossless : (s : SegmentValue) (with_arming : Bool) → s.losses ≡ [] → lost_step_of s with_arming ≡ None
unfolding lost_step_of
lossless s true none =
    let first = none_asked (loses s Commission) (never s none Commission) 1 (commission_steps s) in
    let second = none_asked (loses s Drift) (never s none Drift) (first_arming s) (arm_steps s) in
    rw (first, second) refl
lossless s false none =
    let first = none_asked (loses s Commission) (never s none Commission) 1 (commission_steps s) in
    rw first refl
