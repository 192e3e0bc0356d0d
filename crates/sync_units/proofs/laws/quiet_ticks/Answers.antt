use Rattle.sync_units.proofs.Ticks.{quiet_after, quiet_none}
use Rattle.sync_units.proofs.laws.quiet_ticks.Goals as goal

pub returns : goal.returns
returns c = record { unit = quiet_after; edges = quiet_none }
