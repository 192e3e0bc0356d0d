use Rattle.std.proofs.Common.{subst}
use Rattle.cable_tree.specs.Refusals.{MayAnswer}
use Rattle.segment_file.proofs.FaultLemmas.{refused_tree}
use Rattle.segment_file.proofs.checks.tree_of.Goals as goal

pub returns-clause-err : goal.returns-clause-err
returns-clause-err c =
    let refused = subst (λ rows. MayAnswer rows c.in-Err.error) c.deref.ensures.value c.in-Err.ensures.refused in
    let same = subst (λ rows. MayAnswer rows c.in-Err.error) c.in_ok-rows.ensures refused in
    rw c.from.ensures (refused_tree _ c.in-Err.error same)
