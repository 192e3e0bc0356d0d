use Rattle.ecat_frame.proofs.Filled.{holds_value}
use Rattle.ecat_frame.proofs.builder.Builder.count.Goals as goal

pub returns : goal.returns
returns c = (holds_value c.self.inside c.args.self.now c.self.invariant c.self.view_is).count
