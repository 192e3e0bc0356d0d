use Rattle.std.proofs.Common.{rules, ◌≡◌, ℕ, ◌+◌, ◌<◌, ◌≤◌, ◌%◌, ◌^◌, pos, arith, ap, ◌∙◌, subst, ◌<ℤ◌, to_z, of_z, w64}
use Rattle.std.specs.Prelude.{unsigned_abs}
use Rattle.std.proofs.lemmas.Int.{ints, to_z-of_z}
use Rattle.wrap_time.specs.WordDifference.{word_difference}
use Rattle.local_clock.specs.StepRule.{elapsed}
use Rattle.local_clock.specs.Reading.{steering_of}
use Rattle.local_clock.proofs.Reaching.{first_over}
use Rattle.local_clock.proofs.clock.LocalClock.first_reaching.Goals as goal

pub returns-clause-at : goal.returns-clause-at
returns-clause-at g c =
    let w = g.W.ClockWord.WIDTH in
    let v = g.W.ClockWord.number c.args.v in
    let first = c.ticked-step.result.0 in
    let kept = to_z-of_z w64 c.self.inside.left (search rules) in
    let at : (k : ℕ) → elapsed c.self.inside.g k (record { left = to_z w64 (of_z w64 c.self.inside.left); count = c.self.inside.count }) ≡ elapsed c.args.self.now.g k (steering_of c.args.self.now) =
    λ k. ap (λ l. elapsed c.self.inside.g k (record { left = l; count = c.self.inside.count })) kept ∙ ap (λ s. elapsed s.g k (steering_of s)) c.self.view_is in
    let one : first ≡ elapsed c.args.self.now.g 1 (steering_of c.args.self.now) = c.ticked-step.ensures.elapsed ∙ at 1 in
    let shown : g.W.ClockWord.number c.add.result ≡ (c.args.self.now.reading + first) % 2 ^ w =
    c.add.ensures ∙ ap (λ r. (r + first) % 2 ^ w) (ap (λ s. s.reading) c.self.view_is) in
    let is : to_z w64 (of_z w64 c.diff-ahead.result) ≡ word_difference w ((c.args.self.now.reading + first) % 2 ^ w) v =
    to_z-of_z w64 c.diff-ahead.result (search rules) ∙ c.diff-ahead.ensures.is ∙ ap (λ a. word_difference w a v) shown in
    let behind : to_z w64 (of_z w64 c.diff-ahead.result) <ℤ pos 0 = grind (arith, ints) in
    let negative : word_difference w ((c.args.self.now.reading + first) % 2 ^ w) v <ℤ pos 0 = subst (λ z. z <ℤ pos 0) is behind in (
      c.ticks_to_pass.result,
      (
        first_over w v c.args.self.now c.ticks_to_pass.result (first + c.unsigned_abs.result) first g.met.W.ClockWord.width_known one negative
            (ap (λ n. first + n) (c.unsigned_abs.ensures.value ∙ ap unsigned_abs is))
            (subst (λ n. first + c.unsigned_abs.result ≤ n) (at c.ticks_to_pass.result) c.ticks_to_pass.ensures.reached)
            (λ j low. subst (λ n. n < first + c.unsigned_abs.result) (at j) (c.ticks_to_pass.ensures.least j low)),
        c.instant_after-2.ensures.at,
      ),
    )
