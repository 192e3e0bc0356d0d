use Rattle.sync_units.proofs.Exact.{edge_unique, exact, exact_none}
use Rattle.sync_units.proofs.laws.exact_edges.Goals as goal

pub returns : goal.returns
returns c = record { edges = exact; none = exact_none; once = edge_unique }
