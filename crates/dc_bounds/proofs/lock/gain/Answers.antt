use Rattle.std.proofs.Common.{rules, ◌≡◌, ◌*◌, ◌≤◌, ◌/◌, arith, ap, ◌∙◌, refl}
use Rattle.std.proofs.lemmas.Nat.{mul-le}
use Rattle.std.proofs.Math.Nat.{div-le_self}
use Rattle.dc_bounds.specs.TickBounds.{jump, least_ticks}
use Rattle.dc_bounds.specs.LockNumbers.{period_fs}
use Rattle.dc_bounds.proofs.Sizes.{as_difference, jump_size, least_ticks_size}
use Rattle.dc_bounds.proofs.lock.gain.Goals as goal

pub returns : goal.returns
returns c =
    let length : c.from.result * c.period_fs.result ≡ c.args.k * period_fs c.args.frame_ns = search rules in
    let short : c.from.result * c.period_fs.result ≤ 16 * 10000000000000 = mul-le c.from.result c.period_fs.result 16 10000000000000 (omega (arith, c.from.ensures, c.requires.few)) (omega (arith, c.period_fs.ensures, c.requires.frame)) in
    let few = least_ticks_size c.args.ppm (c.from.result * c.period_fs.result) in
    let fewer = div-le_self c.least_ticks.result c.from-2.result in
    let far = jump_size c.args.ppm (c.from.result * c.period_fs.result) c.requires.rate in
    as_difference (c.least_ticks.result / c.from-2.result) c.jump.result (omega (arith, short, few, fewer, c.least_ticks.ensures)) (omega (arith, short, far, c.jump.ensures))
    ∙ (let n : c.least_ticks.result / c.from-2.result ≡ least_ticks c.args.ppm (c.args.k * period_fs c.args.frame_ns) / (c.args.speed / 64) =
    ap (λ x. x / c.from-2.result) (c.least_ticks.ensures ∙ ap (least_ticks c.args.ppm) length) ∙ ap (λ x. least_ticks c.args.ppm (c.args.k * period_fs c.args.frame_ns) / x) c.from-2.ensures in
    let q : c.jump.result ≡ jump c.args.ppm (c.args.k * period_fs c.args.frame_ns) = c.jump.ensures ∙ ap (jump c.args.ppm) length in
    rw (n, q) refl)
