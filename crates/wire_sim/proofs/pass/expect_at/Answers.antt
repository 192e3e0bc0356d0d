use Rattle.std.proofs.Common.{ap, arith, ◌∙◌}
use Rattle.std.specs.Prelude.{slice_set}
use Rattle.frame_pass.specs.SegmentState.{changed_at, expecting}
use Rattle.wire_sim.proofs.Through.{one_changed}
use Rattle.wire_sim.proofs.pass.expect_at.Goals as goal

pub returns : goal.returns
returns c =
    let p = c.from.result in
    ap (slice_set c.args.slaves.now p) c.expect.ensures
    ∙ one_changed (expecting c.args.t) c.args.slaves.now p _ (omega (arith, c.requires, c.from.ensures))
    ∙ ap (λ q. changed_at q (expecting c.args.t) c.args.slaves.now) c.from.ensures
