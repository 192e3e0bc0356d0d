use Rattle.std.proofs.Common.{◌≡◌, ◌*◌, ◌≤◌, length, map}
use Rattle.ecat_link.specs.Serves.{Serves}
use Rattle.dc_bounds.specs.Weight.{flag}
use Rattle.master_steps.specs.ConfigRange.{value_of}
use Rattle.master_steps.specs.Known.{words_of}
use Rattle.dc_master.specs.Places.{HasSent}
use Rattle.master_steps.specs.Asking.{Asks, IsCounted}
use Rattle.master_frames.proofs.Exported.{left}
use Rattle.dc_master.proofs.commission.set_clocks.Given as goal
use Rattle.master_script.specs.Progress.{Commissioning}
use Rattle.master_script.specs.Script.{Commission, script}
use Rattle.master_script.specs.Slaves.{clocks, is_clock}
use Rattle.master_script.specs.declared.step.Step.TheVariants.{Set}

abbrev pub invariant-loop-position : goal.invariant-loop-position
invariant-loop-position g l =
    let ss = (words_of l.fn.notes.learned).slaves in
    let flags = flag (map is_clock ss) in
    record {
      serves : Serves g.L.Link.step (script (value_of l.config) Commission)
          (Asks (value_of l.config) Commissioning l.fn.notes.counters (words_of l.fn.notes.learned) (map Set (clocks (words_of l.fn.notes.learned).slaves)))
          (g.L.Link.state l.fn.link) (g.L.Link.state l.link)
          (Asks (value_of l.config) Commissioning l.notes.counters (words_of l.notes.learned) (map Set (left flags (length ss) l.position)));
      words : words_of l.notes.learned ≡ words_of l.fn.notes.learned;
      delays : l.notes.delays.items ≡ l.fn.notes.delays.items;
      sent : HasSent l.fn.notes.counters l.notes.counters (3 * l.position);
      drifts : l.notes.counters.drifts ≡ l.fn.notes.counters.drifts;
      later : g.L.Link.lost l.fn.link ≤ g.L.Link.lost l.link;
      counted : IsCounted l.fn.notes.counters l.notes.counters (g.L.Link.lost l.fn.link) (g.L.Link.lost l.link);
    }
