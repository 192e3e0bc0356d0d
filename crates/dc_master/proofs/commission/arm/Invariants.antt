use Rattle.std.proofs.Common.{◌≡◌, ◌*◌, ◌≤◌, length, map}
use Rattle.ecat_link.specs.Serves.{Serves}
use Rattle.dc_bounds.specs.Weight.{flag}
use Rattle.master_steps.specs.ConfigRange.{value_of}
use Rattle.master_steps.specs.Known.{words_of}
use Rattle.dc_master.specs.Places.{HasSent}
use Rattle.master_steps.specs.Asking.{Asks, IsCounted}
use Rattle.master_frames.proofs.Exported.{left}
use Rattle.dc_master.proofs.commission.arm.Given as goal
use Rattle.master_script.specs.Progress.{Arming, arm_steps}
use Rattle.master_script.specs.Script.{Arm as ArmCall, script}
use Rattle.master_script.specs.Slaves.{is_clock}
use Rattle.master_script.specs.declared.step.Step.TheVariants.{Arm}

abbrev pub invariant-loop-position : goal.invariant-loop-position
invariant-loop-position g l =
    let ss = (words_of l.fn.notes.learned).slaves in
    let flags = flag (map is_clock ss) in
    record {
      serves : Serves g.L.Link.step (script (value_of l.config) ArmCall)
          (Asks (value_of l.config) Arming l.fn.notes.counters (words_of l.fn.notes.learned) (arm_steps (words_of l.fn.notes.learned).slaves))
          (g.L.Link.state l.fn.link) (g.L.Link.state l.link)
          (Asks (value_of l.config) Arming l.notes.counters (words_of l.notes.learned) (map Arm (left flags (length ss) l.position)));
      words : words_of l.notes.learned ≡ words_of l.fn.notes.learned;
      delays : l.notes.delays.items ≡ l.fn.notes.delays.items;
      sent : HasSent l.fn.notes.counters l.notes.counters (3 * l.position);
      later : g.L.Link.lost l.fn.link ≤ g.L.Link.lost l.link;
      counted : IsCounted l.fn.notes.counters l.notes.counters (g.L.Link.lost l.fn.link) (g.L.Link.lost l.link);
    }
