use Rattle.sync_units.proofs.Kept.{kept}
use Rattle.sync_units.proofs.KeptOfSignal.{kept_of_signal}
use Rattle.sync_units.proofs.laws.kept_edges.Goals as goal

pub returns : goal.returns
returns c = record { order = kept; each = kept_of_signal }
