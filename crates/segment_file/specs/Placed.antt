-- A shape whose slaves hang at rows, in place of ids.
use Rattle.std.specs.Prelude.{ℕ, ◌==◌, List, map, option_map, if◌then◌else◌}
use Rattle.std.specs.List.{position_or_len}
use Rattle.std.specs.Str.{bytes_eq}
use Rattle.cable_tree.specs.declared.port.Above.{Above}
use Rattle.cable_tree.specs.declared.port.Port.{Port}
use Rattle.cable_tree.specs.declared.port.Port.TheVariants.{P1, P2, P3}
use Rattle.segment_shape.specs.Slaves.{ParentValue, SlaveValue}
use Rattle.segment_shape.specs.ShapeOf.{ShapeValue}
use Rattle.segment_file.specs.Segment.{RowValue, SegmentValue}

abbrev pub port_numbered : ℕ → Port
port_numbered n = if n == 1 then P1 else (if n == 2 then P2 else P3)

-- the row that has an id, or the number of rows where none has it
abbrev pub row_with : List (List ℕ) → List ℕ → ℕ
row_with ids id = position_or_len (bytes_eq id) ids

abbrev pub above_in : List (List ℕ) → ParentValue → Above
above_in ids p = record { row = row_with ids p.id; port = port_numbered p.port }

abbrev pub placed_row : List (List ℕ) → SlaveValue → RowValue
placed_row ids s = record {
  id = s.id;
  kind = s.kind;
  tp_ns = s.tp_ns;
  tf_ns = s.tf_ns;
  cable_ps = s.cable_ps;
  above = option_map (above_in ids) s.parent;
  start = s.start;
  phase_fs = s.phase_fs;
  period_fs = s.period_fs;
  rates = s.rates;
  shift_ns = s.shift_ns;
  sync1_ns = s.sync1_ns;
}

abbrev pub placed_rows : List SlaveValue → List RowValue
placed_rows slaves = map (placed_row (map (λ s. s.id) slaves)) slaves

abbrev pub placed : ShapeValue → SegmentValue
placed shape = record { head = shape.head; rows = placed_rows shape.slaves; losses = shape.losses }
