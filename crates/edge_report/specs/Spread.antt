-- How far apart the edges of one index are, their shifts taken off, and how far they may be.
use Rattle.std.specs.Prelude.{ℕ, ◌+◌, ◌*◌, Bool, not, ◌&&◌, nat_eq, if◌then◌else◌, List}
use Rattle.segment_bounds.specs.Window.{apart, greatest, signal, window_between}
use Rattle.segment_bounds.specs.declared.signal.Signal.{Signal}
use Rattle.segment_file.specs.Segment.{SegmentValue, row_at}
use Rattle.edge_report.specs.Edges.{total_shift}
use Rattle.edge_report.specs.declared.slave_edge.SlaveEdge.{SlaveEdge}

-- edges of one index on two different slaves
abbrev pub are_compared : SlaveEdge → SlaveEdge → Bool
are_compared a b = nat_eq a.edge.index b.edge.index && not (nat_eq a.position b.position)

-- the difference of two times less that of the total shifts, in size and in fs; what is subtracted stands on the other side
abbrev pub gap_between : SegmentValue → SlaveEdge → SlaveEdge → ℕ
gap_between s a b = apart (a.edge.time_fs + 1000000 * total_shift s b) (b.edge.time_fs + 1000000 * total_shift s a)

abbrev pub spread_between : SegmentValue → SlaveEdge → SlaveEdge → ℕ
spread_between s a b = if are_compared a b then gap_between s a b else 0

-- the greatest over all pairs, in fs; 0 where there is no pair
unfoldable pub spread_of : SegmentValue → List SlaveEdge → ℕ
spread_of s edges = greatest (spread_between s) edges

-- the signal that has an edge
abbrev pub signal_of : SegmentValue → SlaveEdge → Signal
signal_of s e = signal (row_at s e.position) (total_shift s e)

-- the window of two edges: W of their signals, in fs
abbrev pub allowed_between : SegmentValue → SlaveEdge → SlaveEdge → ℕ
allowed_between s a b = if are_compared a b then window_between s (signal_of s a) (signal_of s b) else 0

-- the greatest over the same pairs, in fs; 0 where there is no pair
unfoldable pub allowed_of : SegmentValue → List SlaveEdge → ℕ
allowed_of s edges = greatest (allowed_between s) edges
