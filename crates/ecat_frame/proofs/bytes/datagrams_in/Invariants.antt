use Rattle.std.proofs.Common.{◌-◌}
use Rattle.ecat_frame.proofs.Counted.{AreCounted}
use Rattle.ecat_frame.proofs.bytes.datagrams_in.Given as goal

abbrev pub invariant-loop-at : goal.invariant-loop-at
invariant-loop-at l = AreCounted l.bytes l.end l.at l.count

abbrev pub decreases-loop-at : goal.decreases-loop-at
decreases-loop-at l = l.end - l.at
