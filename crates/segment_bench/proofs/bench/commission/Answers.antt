use Rattle.std.proofs.Common.{subst, Some, None}
use Rattle.frame_pass.specs.SegmentState.{segment_step}
use Rattle.ecat_link.specs.Serves.{Serves}
use Rattle.master_script.specs.Kept.{StandsFor, Ends}
use Rattle.master_script.specs.Script.{Commission, script}
use Rattle.run_of_file.proofs.Exported.{commissioned_by}
use Rattle.segment_bench.proofs.bench.commission.Goals as goal

pub returns : goal.returns
returns c s new =
    commissioned_by s new.legal c.args.bench.now.master new.master c.commission.new.self.wire c.commission.new.self.master c.commission.ensures.answered.config c.commission.result
    (subst (λ w. Serves segment_step (script c.args.bench.now.master.config Commission) (StandsFor None c.args.bench.now.master) (Some w) (Some c.commission.new.self.wire)
    (Ends c.args.bench.now.master.config Commission c.commission.new.self.master c.commission.result)) new.wire (c.commission.ensures.serves c.requires.refusal))
