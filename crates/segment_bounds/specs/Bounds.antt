-- How near the numbers of a segment's clocks are to the truth. Clocks are named by their rows.
use Rattle.std.specs.Prelude.{ℕ, ◌-◌, nat_eq, if◌then◌else◌, unwrap_or}
use Rattle.cable_tree.specs.PathSums.{arrive, round_trip}
use Rattle.dc_bounds.specs.Weight.{weight}
use Rattle.dc_bounds.specs.DelayBound.{delay_bound}
use Rattle.dc_bounds.specs.CopyBound.{copy_bound}
use Rattle.segment_file.specs.Segment.{SegmentValue, tree_rows, measures_at, clock_at, reference_row}

-- the reference; a legal segment has one
abbrev pub reference_row_of : SegmentValue → ℕ
reference_row_of s = unwrap_or (reference_row s.rows) 0

-- w: how many differences of two latches stand between the clock's measured delay and its true one
abbrev pub weight_at : SegmentValue → ℕ → ℕ
weight_at s r = weight (tree_rows s.rows) (measures_at s.rows) (clock_at s.rows) r

-- B, in fs
unfoldable pub delay_bound_at : SegmentValue → ℕ → ℕ
delay_bound_at s r = delay_bound s.head.ppm (weight_at s r) (round_trip (tree_rows s.rows))

-- D, in fs: from the arrival of a frame at the reference to that at the clock
unfoldable pub wire_delay_at : SegmentValue → ℕ → ℕ
wire_delay_at s r = arrive (tree_rows s.rows) r - arrive (tree_rows s.rows) (reference_row_of s)

-- X, in fs: 0 at the reference
unfoldable pub copy_bound_at : SegmentValue → ℕ → ℕ
copy_bound_at s r =
    if nat_eq r (reference_row_of s) then 0
    else copy_bound s.head.ppm s.head.frame_ns s.head.loss_run (delay_bound_at s r) (wire_delay_at s r)
