use Rattle.run_counts.proofs.Positions.{clocks_counted, measuring_counted}
use Rattle.run_counts.proofs.laws.positions_are_counted.Goals as goal

pub returns : goal.returns
returns c = record { measuring = measuring_counted; clocks = clocks_counted }
