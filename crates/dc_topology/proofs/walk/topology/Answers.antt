use Rattle.std.proofs.Common.{ap, refl}
use Rattle.std.specs.Prelude.{Err}
use Rattle.dc_topology.proofs.Outcomes.{same_tree, not_both, same_refusal}
use Rattle.dc_topology.proofs.walk.topology.Goals as goal

pub returns-in-Ok-clause-only : goal.returns-in-Ok-clause-only
returns-in-Ok-clause-only c = λ hung lists. (refl, same_tree c.args.statuses.now c.walk.new.out hung c.in-Ok.ensures.ok lists)

pub returns-in-Ok-clause-exactly : goal.returns-in-Ok-clause-exactly
returns-in-Ok-clause-exactly c = λ e refused. absurd (not_both c.args.statuses.now c.walk.new.out e c.in-Ok.ensures.ok refused)

pub returns-in-Err-clause-only : goal.returns-in-Err-clause-only
returns-in-Err-clause-only c = λ hung lists. absurd (not_both c.args.statuses.now hung c.in-Err.error lists c.in-Err.ensures.refused)

pub returns-in-Err-clause-exactly : goal.returns-in-Err-clause-exactly
returns-in-Err-clause-exactly c = λ e refused. ap Err (same_refusal c.args.statuses.now c.in-Err.error e c.in-Err.ensures.refused refused)
