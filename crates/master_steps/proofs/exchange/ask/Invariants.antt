use Rattle.std.proofs.Common.{◌≡◌, ◌+◌, ◌≤◌, ◌∷◌, List}
use Rattle.ecat_link.specs.RoseBy.{RoseBy}
use Rattle.ecat_link.specs.Serves.{Serves}
use Rattle.master_steps.specs.ConfigRange.{value_of}
use Rattle.master_steps.specs.Asking.{Asks, IsCounted, call_of, phase_of}
use Rattle.master_steps.proofs.Trying.{Tried}
use Rattle.master_steps.proofs.exchange.ask.Given as goal
use Rattle.master_script.specs.Progress.{drift_one}
use Rattle.master_script.specs.Script.{script}
use Rattle.master_script.specs.Steps.{frame_of}
use Rattle.master_script.specs.Words.{Words}
use Rattle.master_script.specs.declared.step.Step.{Step}

abbrev pub invariant-loop-try : goal.invariant-loop-try
invariant-loop-try g l = record {
  serves : (w : Words) (rest : List Step) → l.sent ≡ frame_of (value_of l.config) w l.step
      → Serves g.L.Link.step (script (value_of l.config) (call_of l.step)) (Asks (value_of l.config) (phase_of l.step) l.fn.counters w (l.step ∷ rest))
      (g.L.Link.state l.fn.link) (g.L.Link.state l.link) (Tried (value_of l.config) w l.step rest l._try l.counters);
  sent : l.counters.sent ≡ l.fn.counters.sent + l._try;
  fewer : l.counters.lost ≤ l.counters.sent;
  drifts : l.counters.drifts ≤ l.counters.sent;
  still : drift_one (phase_of l.step) ≡ 0 → l.counters.drifts ≡ l.fn.counters.drifts;
  all : drift_one (phase_of l.step) ≡ 1 → l.counters.drifts + l.fn.counters.sent ≡ l.fn.counters.drifts + l.counters.sent;
  later : g.L.Link.lost l.fn.link ≤ g.L.Link.lost l.link;
  counted : IsCounted l.fn.counters l.counters (g.L.Link.lost l.fn.link) (g.L.Link.lost l.link);
  rose : RoseBy l._try (g.L.Link.lost l.fn.link) (g.L.Link.lost l.link);
}
