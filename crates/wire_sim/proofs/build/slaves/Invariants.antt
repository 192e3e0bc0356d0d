use Rattle.std.proofs.Common.{◌≡◌, map, take}
use Rattle.segment_start.specs.Start.{slave_of}
use Rattle.wire_sim.proofs.build.slaves.Given as goal

abbrev pub invariant-loop-row : goal.invariant-loop-row
invariant-loop-row l = l.slaves.items ≡ map (slave_of l.segment) (take l.row-index l.row-items)
