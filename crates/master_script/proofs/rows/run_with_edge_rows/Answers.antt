use Rattle.master_script.proofs.Worked.{measured, ends, starts, start_bytes}
use Rattle.master_script.proofs.rows.run_with_edge_rows.Goals as goal

pub returns : goal.returns
returns c = record { measured = measured; ends = ends; starts = starts; start_bytes = start_bytes }
