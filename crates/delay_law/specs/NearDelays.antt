-- Measured delays within the delay bound of the true ones.
use Rattle.std.specs.Prelude.{◌≡◌, ℕ, ◌*◌, ◌<◌, List, Option, Some, None, length, slice_index_or}
use Rattle.dc_bounds.specs.TickFacts.{IsNear}
use Rattle.segment_bounds.specs.Bounds.{wire_delay_at, delay_bound_at}
use Rattle.segment_file.specs.Segment.{SegmentValue, row_at}

-- |1,000,000·delay - D| ≤ B at each position that has a delay (ns), where D and B are those of the slave there (fs)
abbrev pub AreNear : SegmentValue → List (Option ℕ) → Type 0
AreNear s delays = (p d : ℕ) → p < length s.rows → slice_index_or delays p None ≡ Some d
    → IsNear (1000000 * d) (wire_delay_at s (row_at s p)) (delay_bound_at s (row_at s p))
