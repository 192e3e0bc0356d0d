-- The rows of the edges, written by `csv`: fields are parted by commas, and a line feed ends each line.
use Rattle.std.specs.Prelude.{ℕ, Bool, ◌&&◌, nat_eq, List, [], ◌∷◌, ◌++◌, length, codes, decimal}
use Rattle.std.specs.List.{filter, flat_map, range_with_len}
use Rattle.csv.specs.Writing.{default_writer, row_text}
use Rattle.segment_file.specs.Segment.{SegmentValue}
use Rattle.sync_units.specs.declared.edge.Signal.{Signal}
use Rattle.sync_units.specs.declared.edge.Signal.TheVariants.{Sync0, Sync1}
use Rattle.edge_report.specs.Edges.{is_of, total_shift}
use Rattle.edge_report.specs.Slaves.{slave_at}
use Rattle.edge_report.specs.declared.slave_edge.SlaveEdge.{SlaveEdge}

-- `cycle,id,signal,time_fs,shift_ns`
unfoldable pub header_row : List ℕ
header_row = row_text default_writer (codes "cycle" ∷ codes "id" ∷ codes "signal" ∷ codes "time_fs" ∷ codes "shift_ns" ∷ [])

abbrev pub signal_text : Signal → List ℕ
signal_text Sync0 = codes "sync0"
signal_text Sync1 = codes "sync1"

abbrev pub row_fields : ℕ → List ℕ → List ℕ → ℕ → ℕ → List (List ℕ)
row_fields index id signal time shift = decimal index ∷ id ∷ signal ∷ decimal time ∷ decimal shift ∷ []

-- the row of an edge: its index, the slave's id, the signal, its true time (fs) and its total shift (ns)
unfoldable pub edge_row : SegmentValue → SlaveEdge → List ℕ
edge_row s e =
    row_text default_writer (row_fields e.edge.index (slave_at s e.position).id (signal_text e.edge.signal) e.edge.time_fs
    (total_shift s e))

-- an edge is the one of this index of this signal
abbrev pub is_at : ℕ → ℕ → Signal → SlaveEdge → Bool
is_at index p signal e = nat_eq e.edge.index index && is_of p signal e

-- the edges of an index at a position: SYNC0, and then SYNC1
abbrev pub edges_at : List SlaveEdge → ℕ → ℕ → List SlaveEdge
edges_at edges index p = filter (is_at index p Sync0) edges ++ filter (is_at index p Sync1) edges

-- the edges by index, then by position
abbrev pub by_index : ℕ → ℕ → List SlaveEdge → List SlaveEdge
by_index cycles slaves edges =
    flat_map (λ index. flat_map (edges_at edges index) (range_with_len 0 slaves)) (range_with_len 0 cycles)

unfoldable pub edges_in_order : SegmentValue → List SlaveEdge → List SlaveEdge
edges_in_order s edges = by_index s.head.cycles (length s.rows) edges

-- the header and the rows of all edges
abbrev pub edge_rows : SegmentValue → List SlaveEdge → List ℕ
edge_rows s edges = header_row ++ flat_map (edge_row s) (edges_in_order s edges)
