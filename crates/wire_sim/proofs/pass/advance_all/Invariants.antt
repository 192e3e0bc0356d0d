use Rattle.std.proofs.Common.{◌≡◌, ◌++◌, length, map, take, drop}
use Rattle.frame_pass.specs.Advancing.{advanced_to}
use Rattle.wire_sim.proofs.pass.advance_all.Given as goal

abbrev pub invariant-loop-i : goal.invariant-loop-i
invariant-loop-i l = record {
  count : length l.slaves ≡ length l.fn.slaves;
  slaves : take l.i l.slaves ++ map (advanced_to l.t) (drop l.i l.slaves) ≡ map (advanced_to l.t) l.fn.slaves;
}
