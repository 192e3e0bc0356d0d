use Rattle.std.proofs.Common.{◌≡◌, ◌≤◌, [], None}
use Rattle.ecat_link.specs.Serves.{Serves}
use Rattle.master_steps.specs.ConfigRange.{value_of}
use Rattle.master_steps.specs.Known.{words_of}
use Rattle.dc_master.specs.Places.{AtRest, HasSent}
use Rattle.master_steps.specs.Asking.{IsCounted}
use Rattle.master_steps.proofs.Exported.{sent_of}
use Rattle.dc_master.proofs.drift.run.Given as goal
use Rattle.master_script.specs.Progress.{Running, progress}
use Rattle.master_script.specs.Script.{Run, script}
use Rattle.master_script.proofs.Exported.{run_at}

abbrev pub invariant-loop-number : goal.invariant-loop-number
invariant-loop-number g l = record {
  serves : Serves g.L.Link.step (script (value_of l.config) (Run l.frames)) (AtRest (value_of l.config) Running l.fn.notes.counters (words_of l.fn.notes.learned) [])
      (g.L.Link.state l.fn.link) (g.L.Link.state l.link) (λ es. progress (value_of l.config) es ≡ run_at (sent_of l.notes.counters) l._number (words_of l.fn.notes.learned) None);
  words : words_of l.notes.learned ≡ words_of l.fn.notes.learned;
  delays : l.notes.delays.items ≡ l.fn.notes.delays.items;
  sent : HasSent l.fn.notes.counters l.notes.counters l._number;
  later : g.L.Link.lost l.fn.link ≤ g.L.Link.lost l.link;
  counted : IsCounted l.fn.notes.counters l.notes.counters (g.L.Link.lost l.fn.link) (g.L.Link.lost l.link);
}
