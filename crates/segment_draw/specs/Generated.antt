-- The segment that is made of draws.
use Rattle.std.specs.Prelude.{ℕ, ◌+◌, ◌-◌, ◌*◌, ◌%◌, ◌==◌, Bool, not, ◌&&◌, List, [], ◌∷◌, ◌++◌, length, max, Option, Some, None, codes, decimal, if◌then◌else◌}
use Rattle.std.specs.List.{list_any}
use Rattle.cable_tree.specs.FrameOrder.{is_at}
use Rattle.cable_tree.specs.declared.port.Above.{Above}
use Rattle.cable_tree.specs.declared.port.Port.{Port}
use Rattle.cable_tree.specs.declared.port.Port.TheVariants.{P1, P2, P3}
use Rattle.esc_regs.specs.declared.clock_kind.ClockKind.{ClockKind}
use Rattle.esc_regs.specs.declared.clock_kind.ClockKind.TheVariants as kind
use Rattle.segment_shape.specs.Head.{HeadValue}
use Rattle.esc_regs.specs.Kinds.{measures}
use Rattle.segment_file.specs.Segment.{RowValue, SegmentValue, clock_at}
use Rattle.segment_draw.specs.Draws.{Draws, draws_from, seeded}

-- the id of a row: S and its number
abbrev pub name : ℕ → List ℕ
name row = codes "S" ++ decimal row

-- a row that is not the first is clockless where its draw is a multiple of 4; a clock has 32 bits where its draw is odd
unfoldable pub kind_of : ℕ → Draws → ClockKind
kind_of row d = if not (row == 0) && d.clockless % 4 == 0 then kind.None else (if d.narrow % 2 == 1 then kind.C32 else kind.C64)

-- a cable ends at this port already
abbrev pub is_taken : List RowValue → ℕ → Port → Bool
is_taken rows row port = list_any (λ r. is_at row port r.above) rows

-- the first free port of 1, 2 and 3
unfoldable pub free_port : List RowValue → ℕ → Option Port
free_port rows row =
    if not (is_taken rows row P1) then Some P1
    else (if not (is_taken rows row P2) then Some P2
    else (if not (is_taken rows row P3) then Some P3 else None))

-- port 1 of the row before this one
abbrev pub behind : ℕ → Above
behind row = record { row = row - 1; port = P1 }

-- a port of this earlier row, where it has a free one
abbrev pub at_port : ℕ → ℕ → Option Port → Above
at_port row parent None = behind row
at_port row parent (Some port) = record { row = parent; port = port }

-- the parent that is drawn among the rows before this one
abbrev pub drawn_parent : ℕ → Draws → ℕ
drawn_parent row d = d.parent % max row 1

-- where the cable of a row that is not the first ends
unfoldable pub above_of : List RowValue → Draws → Above
above_of rows d =
    let parent = drawn_parent (length rows) d in
    if d.branch % 4 == 0 && clock_at rows parent then at_port (length rows) parent (free_port rows parent) else behind (length rows)

unfoldable pub start_of : ClockKind → Draws → ℕ
start_of kind.C64 d = 8589934592 * d.start_high + d.start_low
start_of kind.C32 d = 2 * d.start_high + d.start_low % 2
start_of k d = 0

-- SYNC1, where the draw is odd
abbrev pub sync1_of : ℕ → Option ℕ
sync1_of ns = if ns % 2 == 1 then Some ns else None

-- a number that belongs to clocks, 0 at other slaves: of the kinds that are drawn, those that measure are the clocks
abbrev pub of_clock : ClockKind → ℕ → ℕ
of_clock k n = if measures k then n else 0

-- the row that follows these
abbrev pub row_of : List RowValue → Draws → RowValue
row_of rows d =
    let k = kind_of (length rows) d in
    record {
      id = name (length rows);
      kind = k;
      tp_ns = 300 + d.tp % 50;
      tf_ns = 280 + d.tf % 50;
      cable_ps = 5000 + d.cable % 95001;
      above = if length rows == 0 then None else Some (above_of rows d);
      start = start_of k d;
      phase_fs = of_clock k (1 + d.phase % 9999500);
      period_fs = of_clock k (9999500 + d.period % 1001);
      rates = [];
      shift_ns = of_clock k (d.shift % 1000000);
      sync1_ns = if measures k then sync1_of (d.sync1 % 1000000) else None;
    }

-- these rows, and one for each of these draws
unfoldable pub rows_from : List RowValue → List Draws → List RowValue
rows_from rows [] = rows
rows_from rows (d ∷ ds) = rows_from (rows ++ row_of rows d ∷ []) ds

-- the head of every such segment
abbrev pub drawn_head : HeadValue
drawn_head = record {
  version = 1;
  ppm = 50;
  frame_ns = 1000000;
  speed = 4096;
  loss_run = 2;
  epoch_ns = 800000000000000000;
  cycle_ns = 1000000;
  cycles = 4;
}

-- a segment of a slave for each of these draws
abbrev pub drawn_segment : List Draws → SegmentValue
drawn_segment ds = record { head = drawn_head; rows = rows_from [] ds; losses = [] }

-- *Generated segment* of n slaves by a seed
abbrev pub generated : ℕ → ℕ → SegmentValue
generated n seed = drawn_segment (draws_from n (seeded seed))
