use Rattle.std.proofs.Common.{◌≡◌, ◌++◌, take, drop, length}
use Rattle.frame_pass.specs.DatagramAtSlave.{merged}
use Rattle.wire_sim.proofs.datagram.merge.Given as goal

abbrev pub invariant-loop-k : goal.invariant-loop-k
invariant-loop-k l = record {
  size : length l.room ≡ length l.fn.room;
  room : take l.k l.room ++ merged (drop l.k l.payload) (drop l.k l.room) ≡ merged l.payload l.fn.room;
}
