use Rattle.std.proofs.Common.{◌≡◌, ◌++◌, take, drop, length, ◌||◌}
use Rattle.frame_pass.specs.FramePass.{slave_behind, datagrams_after, are_latching}
use Rattle.wire_sim.proofs.pass.answer_all.Given as goal

-- what the rest will do now is what all do at first
abbrev pub invariant-loop-k : goal.invariant-loop-k
invariant-loop-k l = record {
  count : length l.frame.datagrams ≡ l.count;
  room : length l.room ≡ length l.fn.room;
  slave : slave_behind l.slave (drop l.k l.frame.datagrams) ≡ slave_behind l.fn.slave l.fn.frame.datagrams;
  frame : record l.frame { datagrams = take l.k l.frame.datagrams ++ datagrams_after l.slave (drop l.k l.frame.datagrams) }
      ≡ record l.fn.frame { datagrams = datagrams_after l.fn.slave l.fn.frame.datagrams };
  latches : (l.latches || are_latching l.slave (drop l.k l.frame.datagrams)) ≡ are_latching l.fn.slave l.fn.frame.datagrams;
}
