use Rattle.std.proofs.Common.{arith}
use Rattle.osc_clock.proofs.Kept.{passed_to, last_tick, ticks_fit, some_tick}
use Rattle.osc_clock.proofs.ticker.Ticker.pass.Goals as goal

pub overflow_mul-self : goal.overflow_mul-self
overflow_mul-self c =
    let way = passed_to c.self.inside c.args.self.now c.args.t c.args.ticks c.self.invariant c.self.view_is c.requires.later c.requires.number c.if-ticks-self.true in
    let fits = way.fits in
    let time = way.time in
    omega (arith, fits, time, c.ranges.t)

pub overflow_sub-self-then-ticks-self : goal.overflow_sub-self-then-ticks-self
overflow_sub-self-then-ticks-self c =
    (passed_to c.self.inside c.args.self.now c.args.t c.args.ticks c.self.invariant c.self.view_is c.requires.later c.requires.number c.if-ticks-self.true).fits

pub overflow_add-self-then-ticks-self : goal.overflow_add-self-then-ticks-self
overflow_add-self-then-ticks-self c =
    let way = passed_to c.self.inside c.args.self.now c.args.t c.args.ticks c.self.invariant c.self.view_is c.requires.later c.requires.number c.if-ticks-self.true in
    let tick = way.tick in
    omega (arith, tick, c.ranges.t)

pub invariant_of-self : goal.invariant_of-self
invariant_of-self c =
    (passed_to c.self.inside c.args.self.now c.args.t c.args.ticks c.self.invariant c.self.view_is c.requires.later c.requires.number c.if-ticks-self.true).kept

pub overflow_add-tick : goal.overflow_add-tick
overflow_add-tick c =
    let all = last_tick c.self.inside c.args.self.now c.args.t c.args.ticks c.self.invariant c.self.view_is c.requires.later c.requires.number in
    let few = ticks_fit c.args.self.now.osc c.args.t in
    omega (arith, all, few, c.ranges.t)

pub stand_at-requires-clause-some : goal.stand_at-requires-clause-some
stand_at-requires-clause-some c = some_tick c.self.inside c.args.ticks c.self.invariant (omega (arith, c.if-ticks-self.false))

pub stand_at-requires-clause-last : goal.stand_at-requires-clause-last
stand_at-requires-clause-last c =
    last_tick c.self.inside c.args.self.now c.args.t c.args.ticks c.self.invariant c.self.view_is c.requires.later c.requires.number
