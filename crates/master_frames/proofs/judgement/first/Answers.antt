use Rattle.std.proofs.Common.{◌∙◌, length}
use Rattle.dc_bounds.specs.Weight.{flag}
use Rattle.dc_delay.proofs.Exported.{found_later}
use Rattle.master_frames.proofs.judgement.first.Goals as goal

pub loop-position-preserved : goal.loop-position-preserved
loop-position-preserved c =
    c.loop-position.invariant ∙ found_later (flag c.args.clocks.now) (length c.args.clocks.now) c.loop-position.position c.loop-position-test.true c.if-clocks-position.false
