-- Edges that are made clock by clock.
use Rattle.std.specs.Prelude.{◌≡◌, ℕ, ◌<◌, ◌≤◌, true, List, length}
use Rattle.std.specs.List.{All}
use Rattle.segment_file.specs.Segment.{SegmentValue, is_clock}
use Rattle.sync_units.specs.declared.edge.Signal.{Signal}
use Rattle.edge_report.specs.Edges.{AreEdges, HasSignal, edges_of}
use Rattle.edge_report.specs.Slaves.{slave_at}
use Rattle.edge_report.specs.declared.slave_edge.SlaveEdge.{SlaveEdge}

-- a clock stands at a position
pub record IsClockAt (s : SegmentValue) (p : ℕ) : Type 0 where
  pub within : p < length s.rows
  pub clock : is_clock (slave_at s p) ≡ true

-- they are edges, up to this position, and each signal there has so many
pub record IsRunTo (s : SegmentValue) (p k : ℕ) (edges : List SlaveEdge) : Type 0 where
  pub are : AreEdges s edges
  pub last : All (λ e. e.position ≤ p) edges
  pub counts : (signal : Signal) → HasSignal (slave_at s p) signal → length (edges_of p signal edges) ≡ k

-- they are edges of the slaves before this position
pub record IsRunBefore (s : SegmentValue) (p : ℕ) (edges : List SlaveEdge) : Type 0 where
  pub are : AreEdges s edges
  pub before : All (λ e. e.position < p) edges
