use Rattle.std.proofs.Common.{◌≡◌, ◌-◌, ◌++◌, length, take, drop}
use Rattle.frame_pass.specs.FramePass.{slaves_passed, datagrams_behind}
use Rattle.wire_sim.proofs.pass.pass.Given as goal

-- what was passed, and what the rest will give, is what all give
abbrev pub invariant-loop-i : goal.invariant-loop-i
invariant-loop-i l = record {
  size : length l.slaves ≡ length l.fn.slaves;
  room : length l.room ≡ length l.fn.room;
  slaves : take l.i l.slaves ++ slaves_passed (l.count - l.i) l.sent l.end (drop l.i l.slaves) l.frame.datagrams
      ≡ slaves_passed l.count l.sent l.end l.fn.slaves l.fn.frame.datagrams;
  frame : record l.frame { datagrams = datagrams_behind (l.count - l.i) l.sent (drop l.i l.slaves) l.frame.datagrams }
      ≡ record l.fn.frame { datagrams = datagrams_behind l.count l.sent l.fn.slaves l.fn.frame.datagrams };
}
