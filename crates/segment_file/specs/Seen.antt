-- What a segment holds, as the definitions see it.
use Rattle.segment_file.specs.Segment.{RowValue, CountsValue}
use Rattle.segment_file.specs.declared.counts.Counts.{Counts}
use Rattle.segment_file.specs.declared.slave_row.SlaveRow.{SlaveRow}

abbrev pub row_seen : SlaveRow → RowValue
row_seen r = record {
  id = r.id.bytes;
  kind = r.kind;
  tp_ns = r.tp_ns;
  tf_ns = r.tf_ns;
  cable_ps = r.cable_ps;
  above = r.above;
  start = r.start;
  phase_fs = r.phase_fs;
  period_fs = r.period_fs;
  rates = r.rates.items;
  shift_ns = r.shift_ns;
  sync1_ns = r.sync1_ns;
}

abbrev pub counts_seen : Counts → CountsValue
counts_seen c = record { slaves = c.slaves; measuring = c.measuring; clocks = c.clocks; signals = c.signals }
