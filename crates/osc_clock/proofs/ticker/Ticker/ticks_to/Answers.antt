use Rattle.std.proofs.Common.{arith, ap, ◌∙◌}
use Rattle.osc_clock.specs.Standing.{ticks_to}
use Rattle.osc_clock.proofs.Gaps.{gap_some}
use Rattle.osc_clock.proofs.Kept.{later, ticks_here, time_since}
use Rattle.osc_clock.proofs.ticker.Ticker.ticks_to.Goals as goal

pub overflow_sub-t : goal.overflow_sub-t
overflow_sub-t c = later c.self.inside _ c.args.t c.self.view_is c.requires

pub overflow_add-self-inside : goal.overflow_add-self-inside
overflow_add-self-inside c =
    let time = time_since c.self.inside c.args.t c.self.invariant (later c.self.inside _ c.args.t c.self.view_is c.requires) in
    omega (arith, time, c.ranges.t)

pub periods_in-ticks-requires-clause-some : goal.periods_in-ticks-requires-clause-some
periods_in-ticks-requires-clause-some c =
    let some = gap_some c.self.inside.osc c.self.inside.tick c.self.invariant.running in
    let period = c.self.invariant.period in
    omega (arith, some, period)

pub returns-then-ticks-self-clause-number : goal.returns-then-ticks-self-clause-number
returns-then-ticks-self-clause-number c =
    ticks_here c.self.inside c.args.t c.periods_in-ticks.result c.self.invariant (later c.self.inside _ c.args.t c.self.view_is c.requires)
    c.periods_in-ticks.ensures c.if-ticks-self.true
    ∙ ap (λ s. ticks_to s c.args.t) c.self.view_is
