-- The measured delays of a segment.
use Rattle.std.specs.Prelude.{◌≡◌, ℕ, List, map, Option, is_some}
use Rattle.cable_tree.specs.FrameOrder.{order}
use Rattle.segment_file.specs.Segment.{SegmentValue, clock_at, tree_rows}

-- one entry for each position, and a delay exactly where a clock stands
abbrev pub AreDelays : SegmentValue → List (Option ℕ) → Type 0
AreDelays s delays = map is_some delays ≡ map (clock_at s.rows) (order (tree_rows s.rows))
