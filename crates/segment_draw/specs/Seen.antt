-- Draws, as the definitions see them.
use Rattle.segment_draw.specs.Draws.{Draws}
use Rattle.segment_draw.specs.declared.draws.Draws.{Draws as Numbers}

abbrev pub draws_seen : Numbers → Draws
draws_seen d = record {
  clockless = d.clockless;
  narrow = d.narrow;
  tp = d.tp;
  tf = d.tf;
  cable = d.cable;
  branch = d.branch;
  parent = d.parent;
  start_high = d.start_high;
  start_low = d.start_low;
  period = d.period;
  phase = d.phase;
  shift = d.shift;
  sync1 = d.sync1;
}
