use Rattle.master_script.proofs.Trees.{tree_listed, tree_refused}
use Rattle.master_script.proofs.laws.trees_are_listed.Goals as goal

pub returns : goal.returns
returns c = record { ok = tree_listed; refused = tree_refused }
