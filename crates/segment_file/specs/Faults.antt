-- What is wrong with a segment whose slaves are a tree: the first of these faults, in this order.
use Rattle.std.specs.Prelude.{ℕ, ◌+◌, ◌-◌, ◌*◌, nat_le, nat_lt, ℤ, pos, int_lt, Bool, not, ◌&&◌, ◌||◌, List, [], map, Option, Some, None, option_map, if◌then◌else◌, slice_index_or}
use Rattle.std.specs.List.{find, list_all}
use Rattle.std.specs.Option.{is_none}
use Rattle.cable_tree.specs.FrameOrder.{order}
use Rattle.cable_tree.specs.PathSums.{round_trip}
use Rattle.cable_tree.specs.Row.{Row}
use Rattle.dc_bounds.specs.TickBounds.{tick_fs, tolerance}
use Rattle.dc_bounds.specs.LockNumbers.{period_fs, lock_step, lock_count, reach_fs}
use Rattle.dc_bounds.specs.RunNumbers.{run_frames}
use Rattle.dc_bounds.specs.Measurable.{unmeasurable}
use Rattle.segment_shape.specs.Head.{HeadValue}
use Rattle.loss_list.specs.declared.loss_row.LossRow.{LossRow}
use Rattle.segment_file.specs.Segment.{RowValue, SegmentValue, CountsValue, tree_rows, is_measuring, measures_at, counts_of, reference_row}
use Rattle.segment_file.specs.Runs.{first_run}

pub data Fault : Type 0 where
  rate : List ℕ → Fault
  no_reference : Fault
  unmeasured : List ℕ → Fault
  too_slow : Fault
  no_lock : Fault
  lead : Fault
  loss_run : ℕ → Fault
  too_much : Fault

abbrev pub first_of : Option Fault → Option Fault → Option Fault
first_of (Some fault) later = Some fault
first_of None later = later

abbrev pub fault_if : Fault → Bool → Option Fault
fault_if fault b = if b then Some fault else None

-- a period within ppm of 10 ns
abbrev pub is_within : ℕ → ℕ → Bool
is_within ppm period = nat_le (tick_fs - tolerance ppm) period && nat_le period (tick_fs + tolerance ppm)

-- the clock of a slave has a period outside the ppm, at first or later, or its first tick comes after its first period
abbrev pub is_off : ℕ → RowValue → Bool
is_off ppm r =
    is_measuring r && not (nat_le r.phase_fs r.period_fs && is_within ppm r.period_fs
    && list_all (λ change. is_within ppm change.period) r.rates)

-- the id of a row
abbrev pub id_at : List RowValue → ℕ → List ℕ
id_at rows r = slice_index_or (map (λ row. row.id) rows) r []

-- of the clocks: one is off, there is none, or a slave cannot be measured
unfoldable pub clock_fault : ℕ → List RowValue → Option Fault
clock_fault ppm rows =
    first_of (option_map (λ r. rate r.id) (find (is_off ppm) rows))
    (first_of (fault_if no_reference (is_none (reference_row rows)))
    (option_map (λ r. unmeasured (id_at rows r)) (unmeasurable (tree_rows rows) (measures_at rows) (order (tree_rows rows)))))

-- μ of the head
abbrev pub step_of : HeadValue → ℤ
step_of h = lock_step h.ppm h.frame_ns h.speed h.loss_run

-- K, by the counts of the segment
abbrev pub lock_in : HeadValue → CountsValue → ℕ
lock_in h c = lock_count h.ppm h.frame_ns h.speed h.loss_run (reach_fs c.measuring c.clocks h.loss_run h.frame_ns)

-- the drift frames of the run phase
abbrev pub frames_of_run : HeadValue → CountsValue → ℕ
frames_of_run h c = run_frames c.clocks h.loss_run h.frame_ns h.cycle_ns h.cycles

-- how far ahead a start may lie where a 32-bit clock is armed, in ns
abbrev pub ahead_ns : HeadValue → CountsValue → ℕ
ahead_ns h c = (3 * c.clocks + h.loss_run + 4) * h.frame_ns + 3 * h.cycle_ns

-- of the times: a frame does not come back within a period, the clocks need not come together, or a start may lie too far ahead
unfoldable pub time_fault : HeadValue → CountsValue → List Row → Option Fault
time_fault h c rows =
    first_of (fault_if too_slow (nat_le (period_fs h.frame_ns) (round_trip rows)))
    (first_of (fault_if no_lock (int_lt (step_of h) (pos 1)))
    (fault_if lead (nat_le 2000000000 (ahead_ns h c))))

-- the frames of a run in which each exchange takes its three tries
abbrev pub most_frames : HeadValue → CountsValue → ℕ
most_frames h c =
    3 * (c.slaves + c.measuring + c.clocks + 3) + lock_in h c + h.loss_run + 1 + 3 * c.clocks + frames_of_run h c

-- of the frames: too many drift frames are lost in a row, or there are too many frames or edges
unfoldable pub frame_fault : HeadValue → CountsValue → List LossRow → Option Fault
frame_fault h c losses =
    first_of (option_map loss_run (first_run losses (h.loss_run + 1)))
    (fault_if too_much (nat_lt 100000 (most_frames h c) || nat_lt 200000 (h.cycles * c.signals)))

abbrev pub fault_of : SegmentValue → Option Fault
fault_of s =
    first_of (clock_fault s.head.ppm s.rows)
    (first_of (time_fault s.head (counts_of s.rows) (tree_rows s.rows))
    (frame_fault s.head (counts_of s.rows) s.losses))
