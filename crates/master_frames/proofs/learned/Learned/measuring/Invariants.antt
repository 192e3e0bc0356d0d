use Rattle.std.proofs.Common.{◌≡◌, ◌+◌, ◌≤◌, length, map}
use Rattle.dc_bounds.specs.Weight.{flag}
use Rattle.master_frames.proofs.Left.{left}
use Rattle.master_frames.proofs.learned.Learned.measuring.Given as goal
use Rattle.master_script.specs.Slaves.{is_measuring, measuring}

abbrev pub invariant-loop-position : goal.invariant-loop-position
invariant-loop-position l = record {
  count : l.count + length (left (flag (map is_measuring l.self.slaves.items)) (length l.self.slaves.items) l.position) ≡ length (measuring l.self.slaves.items);
  few : l.count ≤ l.position;
}
