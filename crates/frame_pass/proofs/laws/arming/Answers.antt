use Rattle.std.specs.Prelude.{◌≡◌, Option, Some, None, IfSome}
use Rattle.frame_pass.specs.SlaveState.{Timing}
use Rattle.sync_units.specs.SyncRule.{Armed}
use Rattle.sync_units.specs.KeptEdges.{Kept}
use Rattle.frame_pass.proofs.Arming.{HasUnit, armed_after, disarmed_after, armed_passed}
use Rattle.frame_pass.proofs.laws.arming.Goals as goal

both : (u : Option Armed) (l : Kept) (o : Option Timing) → IfSome o (HasUnit u l) → IfSome o (λ n. (n.unit ≡ u) × (n.edges ≡ l))
both u l None h = tt
both u l (Some m) h = (h.unit, h.edges)

pub returns-clause-arms : goal.returns-clause-arms
returns-clause-arms c = λ byte s m d is act on. both _ _ _ (armed_after byte s m d is act on)

pub returns-clause-disarms : goal.returns-clause-disarms
returns-clause-disarms c = λ byte s m d is act on. both _ _ _ (disarmed_after byte s m d is act on)

pub returns-clause-frame : goal.returns-clause-frame
returns-clause-frame c = armed_passed
