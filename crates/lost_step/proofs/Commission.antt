-- The exchanges of commissioning and of arming, a round at a time.
use Rattle.std.proofs.Common.{◌≡◌, ℕ, Bool, true, false, List, [], ◌∷◌, ◌++◌, length, map, Option, Some, None, refl, sym, ap, ◌∙◌}
use Rattle.std.specs.Prelude.{Result, Ok, Err, if◌then◌else◌}
use Rattle.std.specs.Option.{option_or}
use Rattle.std.specs.Result.{result_err}
use Rattle.dc_delay.specs.ShapeRows.{positions}
use Rattle.master_script.specs.declared.step.Step.{Step}
use Rattle.master_script.specs.declared.step.Step.TheVariants as step
use Rattle.loss_list.specs.declared.loss_row.Phase.TheVariants.{Commission, Drift}
use Rattle.segment_file.specs.Segment.{SegmentValue}
use Rattle.lost_step.specs.LostStep.{loses, asked, measuring_positions, clock_positions, commission_steps, arm_steps, first_arming, lost_in_arming, lost_step_of}
use Rattle.lost_step.specs.Rounds.{steps_of}
use Rattle.lost_step.specs.declared.tries.Round.TheVariants.{Identify, Times, Set, Arm}
use Rattle.lost_step.proofs.Asking.{then_ok, then_err}
use Rattle.lost_step.proofs.Turns.{all_take}

-- the steps of each round
identify_steps : (s : SegmentValue) → steps_of s Identify ≡ map step.Identify (positions (length s.rows))
identify_steps s = ap (map step.Identify) (all_take (positions (length s.rows)))

times_steps : (s : SegmentValue) → steps_of s Times ≡ map step.Times (measuring_positions s)
unfolding measuring_positions
times_steps s = refl

set_steps : (s : SegmentValue) → steps_of s Set ≡ map step.Set (clock_positions s)
unfolding clock_positions
set_steps s = refl

arming_steps : (s : SegmentValue) → steps_of s Arm ≡ arm_steps s
unfolding clock_positions
arming_steps s = refl

-- what is behind each of them
abbrev pub behind_times : SegmentValue → List Step
behind_times s = map step.Set (clock_positions s)

abbrev pub behind_latch : SegmentValue → List Step
behind_latch s = map step.Times (measuring_positions s) ++ behind_times s

abbrev pub behind_rate : SegmentValue → List Step
behind_rate s = step.Latch ∷ behind_latch s

abbrev pub behind_identify : SegmentValue → List Step
behind_identify s = step.Rate ∷ behind_rate s

abbrev pub behind_count : SegmentValue → List Step
behind_count s = map step.Identify (positions (length s.rows)) ++ behind_identify s

abbrev pub all_asked : SegmentValue → Result ℕ Step
all_asked s = asked (loses s Commission) 1 (commission_steps s)

module _ (s : SegmentValue) where
  -- a round is asked by its own list
  by_list : (a : ℕ) (xs ys : List Step) (r : Result ℕ Step) → r ≡ asked (loses s Commission) a xs → xs ≡ ys → r ≡ asked (loses s Commission) a ys
  by_list a xs ys r is same = is ∙ ap (asked (loses s Commission) a) same

  pub count_ok : (b : ℕ) → Ok b ≡ asked (loses s Commission) 1 (step.Count ∷ []) → all_asked s ≡ asked (loses s Commission) b (behind_count s)
  count_ok b is = then_ok (loses s Commission) (all_asked s) 1 b (step.Count ∷ []) (behind_count s) refl is

  pub count_err : (lost : Step) → Err lost ≡ asked (loses s Commission) 1 (step.Count ∷ []) → Err lost ≡ all_asked s
  count_err lost is = then_err (loses s Commission) (all_asked s) 1 lost (step.Count ∷ []) (behind_count s) refl is

  module _ (a : ℕ) (so_far : all_asked s ≡ asked (loses s Commission) a (behind_count s)) where
    pub identify_ok : (b : ℕ) → Ok b ≡ asked (loses s Commission) a (steps_of s Identify) → all_asked s ≡ asked (loses s Commission) b (behind_identify s)
    identify_ok b is =
        then_ok (loses s Commission) (all_asked s) a b (map step.Identify (positions (length s.rows))) (behind_identify s) so_far (by_list a _ _ (Ok b) is (identify_steps s))

    pub identify_err : (lost : Step) → Err lost ≡ asked (loses s Commission) a (steps_of s Identify) → Err lost ≡ all_asked s
    identify_err lost is =
        then_err (loses s Commission) (all_asked s) a lost (map step.Identify (positions (length s.rows))) (behind_identify s) so_far (by_list a _ _ (Err lost) is (identify_steps s))

  module _ (a : ℕ) (so_far : all_asked s ≡ asked (loses s Commission) a (behind_identify s)) where
    pub rate_ok : (b : ℕ) → Ok b ≡ asked (loses s Commission) a (step.Rate ∷ []) → all_asked s ≡ asked (loses s Commission) b (behind_rate s)
    rate_ok b is = then_ok (loses s Commission) (all_asked s) a b (step.Rate ∷ []) (behind_rate s) so_far is

    pub rate_err : (lost : Step) → Err lost ≡ asked (loses s Commission) a (step.Rate ∷ []) → Err lost ≡ all_asked s
    rate_err lost is = then_err (loses s Commission) (all_asked s) a lost (step.Rate ∷ []) (behind_rate s) so_far is

  module _ (a : ℕ) (so_far : all_asked s ≡ asked (loses s Commission) a (behind_rate s)) where
    pub latch_ok : (b : ℕ) → Ok b ≡ asked (loses s Commission) a (step.Latch ∷ []) → all_asked s ≡ asked (loses s Commission) b (behind_latch s)
    latch_ok b is = then_ok (loses s Commission) (all_asked s) a b (step.Latch ∷ []) (behind_latch s) so_far is

    pub latch_err : (lost : Step) → Err lost ≡ asked (loses s Commission) a (step.Latch ∷ []) → Err lost ≡ all_asked s
    latch_err lost is = then_err (loses s Commission) (all_asked s) a lost (step.Latch ∷ []) (behind_latch s) so_far is

  module _ (a : ℕ) (so_far : all_asked s ≡ asked (loses s Commission) a (behind_latch s)) where
    pub times_ok : (b : ℕ) → Ok b ≡ asked (loses s Commission) a (steps_of s Times) → all_asked s ≡ asked (loses s Commission) b (behind_times s)
    times_ok b is = then_ok (loses s Commission) (all_asked s) a b (map step.Times (measuring_positions s)) (behind_times s) so_far (by_list a _ _ (Ok b) is (times_steps s))

    pub times_err : (lost : Step) → Err lost ≡ asked (loses s Commission) a (steps_of s Times) → Err lost ≡ all_asked s
    times_err lost is = then_err (loses s Commission) (all_asked s) a lost (map step.Times (measuring_positions s)) (behind_times s) so_far (by_list a _ _ (Err lost) is (times_steps s))

  pub set_last : (a : ℕ) → all_asked s ≡ asked (loses s Commission) a (behind_times s) → (r : Result ℕ Step) → r ≡ asked (loses s Commission) a (steps_of s Set) → r ≡ all_asked s
  set_last a so_far r is = is ∙ ap (asked (loses s Commission) a) (set_steps s) ∙ sym so_far

  -- the lost step
  pub lost_early : (with_arming : Bool) (lost : Step) → Err lost ≡ all_asked s → Some lost ≡ lost_step_of s with_arming
  unfolding lost_step_of
  lost_early with_arming lost is = ap (λ (r : Result ℕ Step). option_or (result_err r) (if with_arming then lost_in_arming s else None)) is

  pub lost_nowhere : (with_arming : Bool) (b : ℕ) → Ok b ≡ all_asked s → with_arming ≡ false → None ≡ lost_step_of s with_arming
  unfolding lost_step_of
  lost_nowhere with_arming b is off =
      ap (λ (r : Result ℕ Step). option_or (result_err r) None) is ∙ ap (λ (w : Bool). option_or (result_err (all_asked s)) (if w then lost_in_arming s else None)) (sym off)

  pub lost_late : (with_arming : Bool) (b first : ℕ) (r : Result ℕ Step) (o : Option Step) → Ok b ≡ all_asked s → with_arming ≡ true → first ≡ first_arming s → r ≡ asked (loses s Drift) first (steps_of s Arm) → o ≡ result_err r
      → o ≡ lost_step_of s with_arming
  unfolding lost_step_of
  lost_late with_arming b first r o is on at r_is o_is =
      o_is
      ∙ ap (λ (x : Result ℕ Step). result_err x) (r_is ∙ ap (asked (loses s Drift) first) (arming_steps s) ∙ ap (λ (n : ℕ). asked (loses s Drift) n (arm_steps s)) at)
      ∙ ap (λ (x : Result ℕ Step). option_or (result_err x) (lost_in_arming s)) is
      ∙ ap (λ (w : Bool). option_or (result_err (all_asked s)) (if w then lost_in_arming s else None)) (sym on)
