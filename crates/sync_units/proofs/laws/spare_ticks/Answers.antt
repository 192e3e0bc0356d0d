use Rattle.sync_units.proofs.Spare.{unit_spared, edges_spared, left_spare}
use Rattle.sync_units.proofs.laws.spare_ticks.Goals as goal

pub returns : goal.returns
returns c = record { unit = unit_spared; edges = edges_spared; left = left_spare }
