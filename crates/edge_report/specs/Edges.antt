-- The edges of a run.
use Rattle.std.specs.Prelude.{◌≡◌, ℕ, ◌+◌, ◌<◌, ◌≤◌, Bool, true, ◌&&◌, nat_eq, List, length, map, unwrap_or, IsSome}
use Rattle.std.specs.List.{All, filter, range_with_len}
use Rattle.std.specs.List.Sorted.{IsNonDecreasingBy}
use Rattle.segment_file.specs.Segment.{RowValue, SegmentValue, is_clock}
use Rattle.sync_units.specs.declared.edge.Signal.{Signal}
use Rattle.sync_units.specs.declared.edge.Signal.TheVariants.{Sync0, Sync1}
use Rattle.edge_report.specs.Slaves.{slave_at}
use Rattle.edge_report.specs.declared.slave_edge.SlaveEdge.{SlaveEdge}

-- the total shift of a signal against the cycle, in ns: the slave's shift, and for SYNC1 its time after SYNC0 on top
abbrev pub shift_of : RowValue → Signal → ℕ
shift_of r Sync0 = r.shift_ns
shift_of r Sync1 = r.shift_ns + unwrap_or r.sync1_ns 0

-- that of the signal that has an edge
abbrev pub total_shift : SegmentValue → SlaveEdge → ℕ
total_shift s e = shift_of (slave_at s e.position) e.edge.signal

-- SYNC0 comes before SYNC1
abbrev pub rank : Signal → ℕ
rank Sync0 = 0
rank Sync1 = 1

-- an edge is of the signal of the slave at a position
abbrev pub is_of : ℕ → Signal → SlaveEdge → Bool
is_of p signal e = nat_eq e.position p && nat_eq (rank e.edge.signal) (rank signal)

-- the edges of one signal
abbrev pub edges_of : ℕ → Signal → List SlaveEdge → List SlaveEdge
edges_of p signal edges = filter (is_of p signal) edges

-- a slave has a signal: a clock has SYNC0, and SYNC1 where it is asked for
abbrev pub HasSignal : RowValue → Signal → Type 0
HasSignal r Sync0 = is_clock r ≡ true
HasSignal r Sync1 = (is_clock r ≡ true) × IsSome r.sync1_ns

-- an edge of a signal that a slave of the segment has
pub record IsEdge (s : SegmentValue) (e : SlaveEdge) : Type 0 where
  pub position : e.position < length s.rows
  pub signal : HasSignal (slave_at s e.position) e.edge.signal

-- the indices of a signal's edges are 0, 1, 2 and so on, and there are at most so many
pub record AreCounted (cycles : ℕ) (edges : List SlaveEdge) : Type 0 where
  pub indices : map (λ e. e.edge.index) edges ≡ range_with_len 0 (length edges)
  pub most : length edges ≤ cycles

-- the edges of a run of a segment: they stand by position, and of each signal there are at most as many as cycles
pub record AreEdges (s : SegmentValue) (edges : List SlaveEdge) : Type 0 where
  pub each : All (IsEdge s) edges
  pub order : IsNonDecreasingBy (λ e. e.position) edges
  pub counted : (p : ℕ) (signal : Signal) → AreCounted s.head.cycles (edges_of p signal edges)
