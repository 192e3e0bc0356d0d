-- The file that says a segment, as it is written: its slaves hang at ids again. And its text.
use Rattle.std.specs.Prelude.{ℕ, List, map, option_map}
use Rattle.serde_json.specs.Data.{Data}
use Rattle.cable_tree.specs.declared.port.Above.{Above}
use Rattle.cable_tree.specs.declared.port.Port.{Port}
use Rattle.cable_tree.specs.declared.port.Port.TheVariants.{P1, P2, P3}
use Rattle.segment_shape.specs.Slaves.{ParentValue, SlaveValue}
use Rattle.segment_shape.specs.ShapeOf.{ShapeValue}
use Rattle.segment_shape.specs.Written.{file_data, file_text}
use Rattle.segment_file.specs.Segment.{RowValue, SegmentValue}
use Rattle.segment_file.specs.Faults.{id_at}

abbrev pub port_number : Port → ℕ
port_number P1 = 1
port_number P2 = 2
port_number P3 = 3

-- a parent by its id
abbrev pub parent_of : List RowValue → Above → ParentValue
parent_of rows a = record { id = id_at rows a.row; port = port_number a.port }

abbrev pub written_row : List RowValue → RowValue → SlaveValue
written_row rows r = record {
  id = r.id;
  kind = r.kind;
  tp_ns = r.tp_ns;
  tf_ns = r.tf_ns;
  cable_ps = r.cable_ps;
  parent = option_map (parent_of rows) r.above;
  start = r.start;
  phase_fs = r.phase_fs;
  period_fs = r.period_fs;
  rates = r.rates;
  shift_ns = r.shift_ns;
  sync1_ns = r.sync1_ns;
}

-- the shape that says a segment
abbrev pub written : SegmentValue → ShapeValue
written s = record { head = s.head; slaves = map (written_row s.rows) s.rows; losses = s.losses }

-- and the JSON value
abbrev pub segment_data : SegmentValue → Data
segment_data s = file_data (written s)

-- and its text, which ends with a line feed
abbrev pub segment_text : SegmentValue → List ℕ
segment_text s = file_text (written s)
