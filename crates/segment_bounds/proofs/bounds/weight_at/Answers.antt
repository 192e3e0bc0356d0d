use Rattle.std.proofs.Common.{◌≡◌, rules}
use Rattle.segment_bounds.specs.Bounds.{weight_at}
use Rattle.segment_bounds.proofs.BoundLemmas.{few_weights}
use Rattle.segment_bounds.proofs.bounds.weight_at.Goals as goal

pub returns-clause-few : goal.returns-clause-few
returns-clause-few c =
    let is : c.weight.result ≡ weight_at c.args.segment.now c.args.row = search rules in
    rw is (few_weights c.args.segment.now c.args.row c.tree.ensures.legal c.requires)
