use Rattle.std.proofs.Common.{◌≡◌, length, map, take}
use Rattle.master_frames.proofs.judgement.measuring.Given as goal
use Rattle.master_script.specs.Slaves.{is_measuring}

abbrev pub invariant-loop-slave : goal.invariant-loop-slave
invariant-loop-slave l = record {
  items : l.measuring.items ≡ map is_measuring (take l.slave-index l.slaves);
  count : length l.measuring.items ≡ l.slave-index;
}
