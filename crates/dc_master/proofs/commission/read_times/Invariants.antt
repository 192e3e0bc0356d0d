use Rattle.std.proofs.Common.{◌≡◌, ◌*◌, ◌<◌, ◌≤◌, ℕ, List, [], ◌++◌, false, length, map}
use Rattle.ecat_link.specs.Serves.{Serves}
use Rattle.dc_bounds.specs.Weight.{flag}
use Rattle.dc_delay.specs.Latched.{measures}
use Rattle.master_steps.specs.ConfigRange.{value_of}
use Rattle.master_steps.specs.Known.{words_of}
use Rattle.dc_master.specs.Places.{HasSent}
use Rattle.master_steps.specs.Asking.{Asks, IsCounted}
use Rattle.master_frames.proofs.Exported.{left}
use Rattle.dc_master.proofs.commission.read_times.Given as goal
use Rattle.master_script.specs.Progress.{Commissioning}
use Rattle.master_script.specs.Script.{Commission, script}
use Rattle.master_script.specs.Slaves.{is_measuring, measuring}
use Rattle.master_script.specs.declared.step.Step.{Step}
use Rattle.master_script.specs.declared.step.Step.TheVariants.{Times}

abbrev pub invariant-loop-position : goal.invariant-loop-position
invariant-loop-position g l =
    let ss = (words_of l.fn.notes.learned).slaves in
    let flags = flag (map is_measuring ss) in
    record {
      serves : (rest : List Step) → Serves g.L.Link.step (script (value_of l.config) Commission)
          (Asks (value_of l.config) Commissioning l.fn.notes.counters (words_of l.fn.notes.learned) (map Times (measuring ss) ++ rest))
          (g.L.Link.state l.fn.link) (g.L.Link.state l.link)
          (Asks (value_of l.config) Commissioning l.notes.counters (words_of l.notes.learned) (map Times (left flags (length ss) l.position) ++ rest));
      slaves : (words_of l.notes.learned).slaves ≡ ss;
      reference : (words_of l.notes.learned).reference ≡ (words_of l.fn.notes.learned).reference;
      latches : length (words_of l.notes.learned).latches ≡ length (words_of l.fn.notes.learned).latches;
      read : (p : ℕ) → p < l.position → measures (words_of l.notes.learned).latches p ≡ flags p;
      unread : (p : ℕ) → l.position ≤ p → measures (words_of l.notes.learned).latches p ≡ false;
      delays : l.notes.delays.items ≡ [];
      sent : HasSent l.fn.notes.counters l.notes.counters (3 * l.position);
      drifts : l.notes.counters.drifts ≡ l.fn.notes.counters.drifts;
      later : g.L.Link.lost l.fn.link ≤ g.L.Link.lost l.link;
      counted : IsCounted l.fn.notes.counters l.notes.counters (g.L.Link.lost l.fn.link) (g.L.Link.lost l.link);
    }
