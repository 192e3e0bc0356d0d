-- The edges that the wire of a bench has kept.
use Rattle.std.specs.Prelude.{ℕ, List, [], length, map, slice_get}
use Rattle.std.specs.List.{flat_map, range_with_len}
use Rattle.std.specs.Option.{option_map_or}
use Rattle.edge_report.specs.declared.slave_edge.SlaveEdge.{SlaveEdge}
use Rattle.frame_pass.specs.SegmentState.{SegmentState}
use Rattle.segment_file.specs.Segment.{SegmentValue}
use Rattle.sync_units.specs.declared.edge.Edge.{Edge}
use Rattle.wire_sim.specs.Seen.{edges_kept}

-- an edge with the slave that raised it
abbrev pub at_slave : ℕ → Edge → SlaveEdge
at_slave position edge = record { position = position; edge = edge }

-- the edges of the slave at a position
abbrev pub own_edges : ℕ → List Edge → List SlaveEdge
own_edges p edges = map (at_slave p) edges

-- all that it has kept
abbrev pub kept_at : SegmentState → ℕ → List Edge
kept_at w p = option_map_or edges_kept (slice_get w.slaves p) []

-- by position
unfoldable pub edges_told : SegmentValue → SegmentState → List SlaveEdge
edges_told s w = flat_map (λ p. own_edges p (kept_at w p)) (range_with_len 0 (length s.rows))
