-- The spread and the window of a list are those of two of its edges.
use Rattle.std.specs.Prelude.{◌≡◌, ◌<◌, ◌≤◌, List}
use Rattle.std.specs.List.{Contains}
use Rattle.std.proofs.Common.{arith}
use Rattle.segment_file.specs.Segment.{SegmentValue}
use Rattle.edge_report.specs.Spread.{allowed_between, allowed_of, spread_between, spread_of}
use Rattle.edge_report.specs.declared.slave_edge.SlaveEdge.{SlaveEdge}
use Rattle.edge_report.proofs.Firsts.{either, itself}
use Rattle.edge_report.proofs.Pairs.{at_least, reached, within}
use Rattle.edge_report.proofs.Reaching.{either_way, none_itself}

pub no_farther : (s : SegmentValue) (edges : List SlaveEdge) (a b : SlaveEdge) → Contains edges a → Contains edges b → spread_between s a b ≤ spread_of s edges
unfolding spread_of
no_farther s edges a b here there = at_least (spread_between s) (either_way s) (none_itself s) edges a b here there

pub no_wider : (s : SegmentValue) (edges : List SlaveEdge) (a b : SlaveEdge) → Contains edges a → Contains edges b → allowed_between s a b ≤ allowed_of s edges
unfolding allowed_of
no_wider s edges a b here there = at_least (allowed_between s) (either s) (itself s) edges a b here there

pub all_within : (s : SegmentValue) (edges : List SlaveEdge) → ((a b : SlaveEdge) → Contains edges a → Contains edges b → spread_between s a b ≤ allowed_between s a b)
    → spread_of s edges ≤ allowed_of s edges
unfolding spread_of
all_within s edges each =
    within (spread_between s) (allowed_of s edges) edges (λ a b here there. let h = each a b here there in let w = no_wider s edges a b here there in omega (arith, h, w))

pub spread_reached : (s : SegmentValue) (edges : List SlaveEdge) → 0 < spread_of s edges
    → (a : SlaveEdge) × (b : SlaveEdge) × Contains edges a × Contains edges b × (spread_between s a b ≡ spread_of s edges)
unfolding spread_of
spread_reached s edges some = reached (spread_between s) edges some

pub window_reached : (s : SegmentValue) (edges : List SlaveEdge) → 0 < allowed_of s edges
    → (a : SlaveEdge) × (b : SlaveEdge) × Contains edges a × Contains edges b × (allowed_between s a b ≡ allowed_of s edges)
unfolding allowed_of
window_reached s edges some = reached (allowed_between s) edges some
