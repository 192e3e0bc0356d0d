use Rattle.std.proofs.Common.{arith, ap}
use Rattle.osc_clock.specs.Ticks.{ticks}
use Rattle.osc_clock.proofs.TickLaws.{ticks_rise}
use Rattle.osc_clock.proofs.ticker.Ticker.count_to.Goals as goal

pub overflow_sub-result : goal.overflow_sub-result
overflow_sub-result c =
    let now = ap (λ v. v.instant) c.self.view_is in
    let rise = ticks_rise c.self.inside.osc c.self.inside.instant c.args.t c.self.invariant.running (omega (arith, now, c.requires)) in
    let tick = c.self.invariant.tick in
    omega (arith, rise, c.ticks_until.ensures.number, tick)

pub returns : goal.returns
returns c =
    let at = ap (λ v. ticks v.osc v.instant) c.self.view_is in
    let to = ap (λ v. ticks v.osc c.args.t) c.self.view_is in
    let tick = c.self.invariant.tick in
    omega (arith, c.ticks_until.ensures.number, tick, at, to)
