use Rattle.std.proofs.Common.{◌≡◌, ◌+◌, ◌-◌, ◌*◌, ◌≤◌, [], length, map, None}
use Rattle.std.specs.List.{range_with_len}
use Rattle.ecat_link.specs.Serves.{Serves}
use Rattle.master_steps.specs.ConfigRange.{value_of}
use Rattle.master_steps.specs.Known.{words_of}
use Rattle.dc_master.specs.Places.{HasSent}
use Rattle.master_steps.specs.Asking.{Asks, IsCounted}
use Rattle.dc_master.proofs.commission.identify_slaves.Given as goal
use Rattle.master_script.specs.Progress.{Commissioning, first_steps}
use Rattle.master_script.specs.Script.{Commission, script}
use Rattle.master_script.specs.declared.step.Step.TheVariants.{Identify}

abbrev pub invariant-loop-position : goal.invariant-loop-position
invariant-loop-position g l = record {
  serves : Serves g.L.Link.step (script (value_of l.config) Commission)
      (Asks (value_of l.config) Commissioning l.fn.notes.counters (words_of l.fn.notes.learned) (first_steps (value_of l.config)))
      (g.L.Link.state l.fn.link) (g.L.Link.state l.link)
      (Asks (value_of l.config) Commissioning l.notes.counters (words_of l.notes.learned) (map Identify (range_with_len l.position (length l.config.kinds.items - l.position))));
  slaves : length (words_of l.notes.learned).slaves ≡ l.position;
  reference : (words_of l.notes.learned).reference ≡ None;
  latches : (words_of l.notes.learned).latches ≡ (words_of l.fn.notes.learned).latches;
  delays : l.notes.delays.items ≡ [];
  sent : HasSent l.fn.notes.counters l.notes.counters (3 + 3 * l.position);
  drifts : l.notes.counters.drifts ≡ l.fn.notes.counters.drifts;
  later : g.L.Link.lost l.fn.link ≤ g.L.Link.lost l.link;
  counted : IsCounted l.fn.notes.counters l.notes.counters (g.L.Link.lost l.fn.link) (g.L.Link.lost l.link);
}
