use Rattle.std.proofs.Common.{◌≡◌, ℕ, ◌+◌, ◌-◌, ◌/◌, ◌<◌, ◌≤◌, arith, rules, sym, ◌∙◌, to_z, of_z, w64}
use Rattle.std.specs.Prelude.{min, max, unsigned_abs}
use Rattle.std.proofs.lemmas.Int.{to_z-of_z}
use Rattle.local_clock.specs.StepRule.{Steering, elapsed}
use Rattle.local_clock.specs.WorkedOff.{IsSteady}
use Rattle.local_clock.proofs.WorkedOff.{corrections_within}
use Rattle.local_clock.proofs.Elapsed.{elapsed_least, elapsed_most, elapsed_rises}
use Rattle.local_clock.proofs.AtOnce.{steering_at}
use Rattle.local_clock.proofs.steps.ticks_to_pass.Goals as goal

-- fewer ticks have not passed the gap either
fewer : (g m gap : ℕ) (s : Steering) (j : ℕ) → elapsed g m s < gap → j < m + 1 → elapsed g j s < gap
fewer g m gap s j past h =
    let e : j + (m - j) ≡ m = omega arith in
    let rise : elapsed g j s ≤ elapsed g m s = rw e at (elapsed_rises g j (m - j) s) in
    omega (arith, rise)

pub loop-low-init : goal.loop-low-init
loop-low-init c =
    let s = steering_at (to_z w64 (of_z w64 c.args.left)) c.args.count in
    let kept = to_z-of_z w64 c.args.left c.ranges.left in
    let steady : IsSteady c.args.g s = record { below = c.requires.below; rests = λ none. c.requires.rests (sym kept ∙ none) } in
    let size : c.unsigned_abs-size.result ≡ unsigned_abs s.left = c.unsigned_abs-size.ensures.value in
    let low : c.max-low.result ≡ max (c.args.gap / 11) ((c.args.gap - c.unsigned_abs-size.result) / 10) = search rules in
    let high : c.min-high.result ≡ min (c.args.gap / 9 + 1) (c.args.gap / 10 + c.unsigned_abs-size.result / 10 + 2) = search rules in
    record {
      order = omega (arith, low, high);
      within = omega (arith, high);
      reached =
          let nine = elapsed_least c.args.g c.min-high.result s in
          let near = (corrections_within c.args.g c.min-high.result s steady).1 in
          omega (arith, nine, near, size, high);
      before = λ j h.
          let eleven = elapsed_most c.args.g j s in
          let near = (corrections_within c.args.g j s steady).0 in
          omega (arith, eleven, near, size, low, h);
    }

pub loop-low-preserved : goal.loop-low-preserved
loop-low-preserved c = record {
  order = omega arith;
  within = c.loop-low.invariant.within;
  reached = c.loop-low.invariant.reached;
  before = λ j h.
      let e = c.ticked-elapsed.ensures.elapsed in
      fewer c.args.g (c.loop-low.low + (c.loop-low.high - c.loop-low.low) / 2) c.args.gap (steering_at (to_z w64 (of_z w64 c.args.left)) c.args.count) j (omega arith) h;
}
