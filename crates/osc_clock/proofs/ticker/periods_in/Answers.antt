use Rattle.std.proofs.Common.{◌≡◌, ◌+◌, ◌*◌, ◌/◌, ◌^◌, arith}
use Rattle.osc_clock.proofs.ByShare.{near, quotient}
use Rattle.osc_clock.proofs.ticker.periods_in.Goals as goal

pub overflow_sub-time : goal.overflow_sub-time
overflow_sub-time c = (near c.args.time c.args.period c.args.share c.from.result c.from-2.result c.requires.some c.ranges.time.fits c.requires.share c.from.ensures c.from-2.ensures).under

pub returns-then-time-least : goal.returns-then-time-least
returns-then-time-least c =
    let least = near c.args.time c.args.period c.args.share c.from.result c.from-2.result c.requires.some c.ranges.time.fits c.requires.share c.from.ensures c.from-2.ensures in
    let under = least.under in
    let low = c.if-time-least.true in
    quotient c.args.time c.args.period (c.from.result * c.from-2.result / 2 ^ 64) under (omega (arith, under, low))

pub returns-else-time-least : goal.returns-else-time-least
returns-else-time-least c =
    let n = c.from.result * c.from-2.result / 2 ^ 64 in
    let least = near c.args.time c.args.period c.args.share c.from.result c.from-2.result c.requires.some c.ranges.time.fits c.requires.share c.from.ensures c.from-2.ensures in
    let under = least.under in
    let over = least.over in
    let high = c.if-time-least.false in
    let next : (n + 1) * c.args.period ≡ n * c.args.period + c.args.period = omega arith in
    quotient c.args.time c.args.period (n + 1) (omega (arith, next, under, high)) (omega (arith, next, over))
