use Rattle.std.proofs.Common.{◌≡◌, length, map, take}
use Rattle.master_frames.proofs.judgement.clocks.Given as goal
use Rattle.master_script.specs.Slaves.{is_clock}

abbrev pub invariant-loop-slave : goal.invariant-loop-slave
invariant-loop-slave l = record {
  items : l.clocks.items ≡ map is_clock (take l.slave-index l.slaves);
  count : length l.clocks.items ≡ l.slave-index;
}
