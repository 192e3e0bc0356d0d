use Rattle.sync_units.proofs.Calls.{unit_in_turn, list_in_turn}
use Rattle.sync_units.proofs.laws.calls_in_turn.Goals as goal

pub returns : goal.returns
returns c = record { unit = unit_in_turn; list = list_in_turn }
