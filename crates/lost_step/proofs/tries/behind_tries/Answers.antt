use Rattle.std.proofs.Common.{◌≡◌, ℕ, ◌+◌, ◌-◌, ◌<◌, Option, true, false, sym, ap, subst, ◌∙◌, below_more, arith}
use Rattle.std.specs.Prelude.{not}
use Rattle.std.specs.Option.{is_some}
use Rattle.lost_step.specs.LostStep.{loses}
use Rattle.lost_step.proofs.Asking.{behind_came, all_gone}
use Rattle.lost_step.proofs.tries.behind_tries.Goals as goal

pub loop-number-preserved : goal.loop-number-preserved
loop-number-preserved c =
    let lost = loses c.args.segment.now c.args.phase in
    let a = c.args.first in
    let n = c.loop-number.number in
    let low = c.loop-number.invariant.0 in
    let here : lost n ≡ true = ap (λ (o : Option ℕ). is_some o) (sym c.loss.ensures) ∙ c.is_none.ensures ∙ ap not c.if-is_none.false in
    let now : lost (a + (n - a)) ≡ true = subst (λ (k : ℕ). lost k ≡ true) (omega (arith, low)) here in
    let more : n + 1 - a ≡ n - a + 1 = omega (arith, low) in
    (omega (arith, low), subst (λ (m : ℕ). (k : ℕ) → k < m → lost (a + k) ≡ true) (sym more) (below_more _ _ c.loop-number.invariant.1 now))

pub returns-then-is_none : goal.returns-then-is_none
returns-then-is_none c =
    let lost = loses c.args.segment.now c.args.phase in
    let a = c.args.first in
    let n = c.loop-number.number in
    let low = c.loop-number.invariant.0 in
    let high = c.loop-number-test.true in
    let here : lost n ≡ false = ap (λ (o : Option ℕ). is_some o) (sym c.loss.ensures) ∙ c.is_none.ensures ∙ ap not c.if-is_none.true in
    sym (behind_came lost a n (n - a) (omega (arith, low)) (omega (arith, low, high)) c.loop-number.invariant.1 here)

pub returns : goal.returns
returns c =
    let a = c.args.first in
    let n = c.loop-number.number in
    let high = c.loop-number-test.false in
    sym (all_gone (loses c.args.segment.now c.args.phase) a (λ k few. c.loop-number.invariant.1 k (omega (arith, few, high))))
