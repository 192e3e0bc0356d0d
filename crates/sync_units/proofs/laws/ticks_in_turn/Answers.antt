use Rattle.sync_units.proofs.Kept.{put_all-append}
use Rattle.sync_units.proofs.Calls.{unit_after-add, unit_edges-add}
use Rattle.sync_units.proofs.laws.ticks_in_turn.Goals as goal

pub returns : goal.returns
returns c = record { unit = unit_after-add; edges = unit_edges-add; list = put_all-append }
