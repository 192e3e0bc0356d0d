use Rattle.std.proofs.Common.{◌∙◌, ap}
use Rattle.std.specs.Prelude.{is_some}
use Rattle.loss_list.proofs.LossLemmas.{listed_by_loss}
use Rattle.loss_list.proofs.loss_list.LossList.lists.Goals as goal

pub returns : goal.returns
returns c = c.is_some.ensures ∙ ap is_some c.after.ensures ∙ listed_by_loss c.args.self.now c.args.phase c.args.number
