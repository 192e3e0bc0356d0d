use Rattle.std.proofs.Common.{◌≡◌, length, map, take}
use Rattle.master_frames.proofs.judgement.statuses.Given as goal
use Rattle.master_script.specs.Slaves.{SlaveWords}

abbrev pub invariant-loop-slave : goal.invariant-loop-slave
invariant-loop-slave l = record {
  items : l.statuses.items ≡ map (λ (s : SlaveWords). s.status) (take l.slave-index l.slaves);
  count : length l.statuses.items ≡ l.slave-index;
}
