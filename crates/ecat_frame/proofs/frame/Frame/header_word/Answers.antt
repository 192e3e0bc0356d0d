use Rattle.std.proofs.Common.{◌∙◌}
use Rattle.ecat_frame.proofs.Kept.{header_in-kept, keeps_value}
use Rattle.ecat_frame.proofs.frame.Frame.header_word.Goals as goal

pub returns-clause-is : goal.returns-clause-is
returns-clause-is c =
    c.read_word.ensures ∙ header_in-kept c.self.inside c.args.self.now (keeps_value c.self.inside c.args.self.now c.self.invariant c.self.view_is)
