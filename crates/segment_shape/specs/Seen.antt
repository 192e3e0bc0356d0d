-- What was read, as the definitions see it.
use Rattle.std.specs.Prelude.{map, option_map}
use Rattle.segment_shape.specs.Head.{HeadValue}
use Rattle.segment_shape.specs.Slaves.{ParentValue, PlaceValue, TimesValue, SlaveValue}
use Rattle.segment_shape.specs.ShapeOf.{ShapeValue}
use Rattle.segment_shape.specs.declared.segment_head.Head.{Head}
use Rattle.segment_shape.specs.declared.slave_row.Parent.{Parent}
use Rattle.segment_shape.specs.declared.slave_row.ShapeRow.{ShapeRow}
use Rattle.segment_shape.specs.declared.slave_row.RowBase.{RowBase}
use Rattle.segment_shape.specs.declared.slave_row.Times.{Times}
use Rattle.segment_shape.specs.declared.shape.Shape.{Shape}

abbrev pub head_seen : Head → HeadValue
head_seen h = record {
  version = h.version;
  ppm = h.ppm;
  frame_ns = h.frame_ns;
  speed = h.speed;
  loss_run = h.loss_run;
  epoch_ns = h.epoch_ns;
  cycle_ns = h.cycle_ns;
  cycles = h.cycles;
}

abbrev pub parent_seen : Parent → ParentValue
parent_seen p = record { id = p.id.bytes; port = p.port }

abbrev pub place_seen : RowBase → PlaceValue
place_seen p = record {
  id = p.id.bytes;
  kind = p.kind;
  tp_ns = p.tp_ns;
  tf_ns = p.tf_ns;
  cable_ps = p.cable_ps;
  parent = option_map parent_seen p.parent;
}

abbrev pub times_seen : Times → TimesValue
times_seen t = record {
  start = t.start;
  phase_fs = t.phase_fs;
  period_fs = t.period_fs;
  rates = t.rates.items;
  shift_ns = t.shift_ns;
  sync1_ns = t.sync1_ns;
}

abbrev pub row_seen : ShapeRow → SlaveValue
row_seen r = record {
  id = r.id.bytes;
  kind = r.kind;
  tp_ns = r.tp_ns;
  tf_ns = r.tf_ns;
  cable_ps = r.cable_ps;
  parent = option_map parent_seen r.parent;
  start = r.start;
  phase_fs = r.phase_fs;
  period_fs = r.period_fs;
  rates = r.rates.items;
  shift_ns = r.shift_ns;
  sync1_ns = r.sync1_ns;
}

abbrev pub shape_seen : Shape → ShapeValue
shape_seen s = record { head = head_seen s.head; slaves = map row_seen s.rows.items; losses = s.losses }
