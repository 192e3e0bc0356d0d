use Rattle.std.proofs.Common.{rules, ◌≡◌, ◌*◌, ◌+◌, ◌-◌, ap, ◌∙◌, refl}
use Rattle.std.specs.Int.{div_ceil, w128}
use Rattle.std.specs.Prelude.{unsigned_abs}
use Rattle.std.proofs.lemmas.Int.{to_z-of_z}
use Rattle.dc_bounds.specs.TickBounds.{jump}
use Rattle.dc_bounds.specs.LockNumbers.{lock_step, period_fs}
use Rattle.dc_bounds.proofs.lock.lock_count.Goals as goal

pub returns : goal.returns
returns c =
    let μ = unsigned_abs (lock_step c.args.ppm c.args.frame_ns c.args.speed c.args.loss_run) in
    let step : c.unsigned_abs-step.result ≡ μ = c.unsigned_abs-step.ensures.value ∙ ap unsigned_abs (to_z-of_z w128 c.lock_step.result (search rules) ∙ c.lock_step.ensures) in
    let periods : c.from-periods.result ≡ c.args.loss_run = c.from-periods.ensures in
    let period : c.period_fs.result ≡ period_fs c.args.frame_ns = c.period_fs.ensures in
    let far : c.jump.result ≡ jump c.args.ppm c.args.z_fs = c.jump.ensures in
    let near : c.jump-2.result ≡ jump c.args.ppm ((c.args.loss_run + 1) * period_fs c.args.frame_ns) = c.jump-2.ensures ∙ rw (periods, period) refl in
    let drift : c.saturating_sub-drift.result ≡ jump c.args.ppm c.args.z_fs - jump c.args.ppm ((c.args.loss_run + 1) * period_fs c.args.frame_ns) =
    c.saturating_sub-drift.ensures ∙ rw (far, near) refl in
    let times : c.div_ceil.result ≡ div_ceil (jump c.args.ppm c.args.z_fs - jump c.args.ppm ((c.args.loss_run + 1) * period_fs c.args.frame_ns)) μ = c.div_ceil.ensures ∙ rw (drift, step) refl in
    rw (periods, times) refl
