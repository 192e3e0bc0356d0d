-- A segment: its slaves with their cables and the oscillators of their clocks, and the frames that are lost.
use Rattle.std.specs.Prelude.{ℕ, ◌+◌, Bool, List, [], length, map, count_by, slice_index, slice_index_or, Option, None, is_some}
use Rattle.esc_regs.specs.declared.clock_kind.ClockKind.{ClockKind}
use Rattle.esc_regs.specs.declared.clock_kind.ClockKind.TheVariants as kind
use Rattle.osc_clock.specs.Ticks.{Rate, Oscillator}
use Rattle.cable_tree.specs.declared.port.Above.{Above}
use Rattle.cable_tree.specs.FrameOrder.{order}
use Rattle.cable_tree.specs.Row.{Row}
use Rattle.segment_shape.specs.Head.{HeadValue}
use Rattle.esc_regs.specs.Kinds.{measures, has_clock}
use Rattle.loss_list.specs.declared.loss_row.LossRow.{LossRow}
use Rattle.dc_bounds.specs.Weight.{flag, reference}

-- a slave; the numbers of its clock are 0, empty or None where it has none
pub record RowValue : Type 0 where
  pub id : List ℕ
  pub kind : ClockKind
  pub tp_ns : ℕ
  pub tf_ns : ℕ
  pub cable_ps : ℕ
  pub above : Option Above
  pub start : ℕ
  pub phase_fs : ℕ
  pub period_fs : ℕ
  pub rates : List Rate
  pub shift_ns : ℕ
  pub sync1_ns : Option ℕ

pub record SegmentValue : Type 0 where
  pub head : HeadValue
  pub rows : List RowValue
  pub losses : List LossRow

-- the slaves as a tree of cables
abbrev pub tree_row : RowValue → Row
tree_row r = record { above = r.above; tp_ns = r.tp_ns; tf_ns = r.tf_ns; cable_ps = r.cable_ps }

abbrev pub tree_rows : List RowValue → List Row
tree_rows rows = map tree_row rows

-- what stands past the last row
abbrev pub no_row : RowValue
no_row = record {
  id = [];
  kind = kind.None;
  tp_ns = 0;
  tf_ns = 0;
  cable_ps = 0;
  above = None;
  start = 0;
  phase_fs = 0;
  period_fs = 0;
  rates = [];
  shift_ns = 0;
  sync1_ns = None;
}

-- the row of a number
abbrev pub row_of : SegmentValue → ℕ → RowValue
row_of s r = slice_index_or s.rows r no_row

-- the number of the row at a position, which is a place in frame order, counted from 0
abbrev pub row_at : SegmentValue → ℕ → ℕ
row_at s p = slice_index (order (tree_rows s.rows)) p

-- the oscillator of a slave that measures
abbrev pub oscillator : RowValue → Oscillator
oscillator r = record { phase = r.phase_fs; period = r.period_fs; rates = r.rates }

-- the slave takes receive times
abbrev pub is_measuring : RowValue → Bool
is_measuring r = measures r.kind

-- the slave is a clock
abbrev pub is_clock : RowValue → Bool
is_clock r = has_clock r.kind

-- the same by the number of the row
abbrev pub measures_at : List RowValue → ℕ → Bool
measures_at rows = flag (map is_measuring rows)

abbrev pub clock_at : List RowValue → ℕ → Bool
clock_at rows = flag (map is_clock rows)

-- N_m, the slaves that measure
abbrev pub measuring : List RowValue → ℕ
measuring rows = count_by is_measuring rows

-- N_c, the clocks
abbrev pub clocks : List RowValue → ℕ
clocks rows = count_by is_clock rows

-- SYNC0 of each clock, and SYNC1 where it is asked for
abbrev pub signals : List RowValue → ℕ
signals rows = clocks rows + count_by (λ r. is_some r.sync1_ns) rows

-- how many slaves, measuring slaves, clocks and signals there are
pub record CountsValue : Type 0 where
  pub slaves : ℕ
  pub measuring : ℕ
  pub clocks : ℕ
  pub signals : ℕ

abbrev pub counts_of : List RowValue → CountsValue
counts_of rows = record { slaves = length rows; measuring = measuring rows; clocks = clocks rows; signals = signals rows }

-- the row of the first clock in frame order
abbrev pub reference_row : List RowValue → Option ℕ
reference_row rows = reference (tree_rows rows) (clock_at rows)
