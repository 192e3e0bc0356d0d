use Rattle.std.proofs.Common.{arith, ap, sym, ◌∙◌}
use Rattle.osc_clock.specs.Ticks.{ticks}
use Rattle.osc_clock.proofs.TickLaws.{not_after}
use Rattle.osc_clock.proofs.Gaps.{gap_some}
use Rattle.osc_clock.proofs.Kept.{stood}
use Rattle.osc_clock.proofs.ticker.Ticker.stand_at.Goals as goal

pub since-self-inside-requires-clause-before : goal.since-self-inside-requires-clause-before
since-self-inside-requires-clause-before c =
    let last = c.requires.last ∙ ap (λ s. ticks s.osc c.args.t) (sym c.self.view_is) in
    not_after c.self.inside.osc c.args.t c.args.tick c.self.invariant.running (omega (arith, last))

pub share-self-inside-requires : goal.share-self-inside-requires
share-self-inside-requires c =
    let some = gap_some c.self.inside.osc c.args.tick c.self.invariant.running in
    let is = c.steady_from-period.ensures.period in
    omega (arith, some, is)

pub invariant_of-self : goal.invariant_of-self
invariant_of-self c =
    let last = c.requires.last ∙ ap (λ s. ticks s.osc c.args.t) (sym c.self.view_is) in
    stood c.self.inside.osc c.args.t c.args.tick c.since-self-inside.result c.steady_from-period.result.0 c.steady_from-period.result.1
    c.saturating_sub-self-inside.result c.share-self-inside.result c.self.invariant.running last c.since-self-inside.ensures
    c.steady_from-period.ensures.period c.steady_from-period.ensures.until c.saturating_sub-self-inside.ensures c.share-self-inside.ensures
