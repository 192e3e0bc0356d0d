use Rattle.std.proofs.Common.{◌≡◌, ◌≤◌, [], None}
use Rattle.ecat_link.specs.RoseBy.{RoseBy}
use Rattle.ecat_link.specs.Serves.{Serves}
use Rattle.master_steps.specs.ConfigRange.{value_of}
use Rattle.master_steps.specs.Known.{words_of}
use Rattle.dc_master.specs.Places.{AtRest, HasSent}
use Rattle.master_steps.specs.Asking.{IsCounted}
use Rattle.master_steps.proofs.Exported.{sent_of}
use Rattle.dc_master.proofs.drift.settle.Given as goal
use Rattle.master_script.specs.Progress.{Settling}
use Rattle.master_script.specs.Script.{Settle, script}
use Rattle.master_script.proofs.Exported.{AtSettle}

abbrev pub invariant-loop-number : goal.invariant-loop-number
invariant-loop-number g l = record {
  serves : Serves g.L.Link.step (script (value_of l.config) Settle) (AtRest (value_of l.config) Settling l.fn.notes.counters (words_of l.fn.notes.learned) [])
      (g.L.Link.state l.fn.link) (g.L.Link.state l.link) (AtSettle (value_of l.config) (sent_of l.notes.counters) (words_of l.notes.learned));
  words : words_of l.notes.learned ≡ record (words_of l.fn.notes.learned) { time = l.notes.learned.time };
  delays : l.notes.delays.items ≡ l.fn.notes.delays.items;
  sent : HasSent l.fn.notes.counters l.notes.counters l._number;
  drifts : l.notes.counters.drifts ≡ l._number;
  later : g.L.Link.lost l.fn.link ≤ g.L.Link.lost l.link;
  counted : IsCounted l.fn.notes.counters l.notes.counters (g.L.Link.lost l.fn.link) (g.L.Link.lost l.link);
  rose : l.notes.learned.time ≡ None → RoseBy l._number (g.L.Link.lost l.fn.link) (g.L.Link.lost l.link);
}
