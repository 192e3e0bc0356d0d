-- The edges of an index as the code carries them along: the least and the greatest of the last slave's instants, and of those before it.
use Rattle.std.specs.Prelude.{ℕ, ◌+◌, ◌-◌, ◌*◌, ◌^◌, min, max, nat_eq, if◌then◌else◌}
use Rattle.segment_file.specs.Segment.{SegmentValue}
use Rattle.edge_report.specs.Edges.{total_shift}
use Rattle.edge_report.specs.declared.extremes.Extremes.{Extremes}
use Rattle.edge_report.specs.declared.meeting.Meeting.{Meeting}
use Rattle.edge_report.specs.declared.slave_edge.SlaveEdge.{SlaveEdge}

-- the instant of an edge, moved to a total shift of one second, in fs
abbrev pub moved : SegmentValue → SlaveEdge → ℕ
moved s e = e.edge.time_fs + 1000000 * (1000000000 - total_shift s e)

-- the extremes of no instant, of one, and of those of both
abbrev pub no_instant : Extremes
no_instant = record { least = 2 ^ 128 - 1; greatest = 0 }

abbrev pub at_instant : ℕ → Extremes
at_instant x = record { least = x; greatest = x }

abbrev pub joined : Extremes → Extremes → Extremes
joined a b = record { least = min a.least b.least; greatest = max a.greatest b.greatest }

-- how far an instant is from the farthest of some, 0 where there is none
abbrev pub reach : ℕ → Extremes → ℕ
reach x e = max (e.greatest - x) (x - e.least)

-- no edge yet
abbrev pub no_edge : Meeting
no_edge = record { position = 0; own = no_instant; earlier = no_instant }

-- with the slave at a position as the last one
abbrev pub turned : ℕ → Meeting → Meeting
turned p m = if nat_eq m.position p then m else record { position = p; own = no_instant; earlier = joined m.earlier m.own }

-- with one more instant of its
abbrev pub with_own : ℕ → Meeting → Meeting
with_own x m = record m { own = joined m.own (at_instant x) }
