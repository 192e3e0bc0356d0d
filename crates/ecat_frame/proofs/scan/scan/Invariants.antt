use Rattle.std.proofs.Common.{take}
use Rattle.ecat_frame.specs.InsideScan.{LeadsTo, part_of}
use Rattle.ecat_frame.proofs.scan.scan.Given as goal

abbrev pub invariant-loop-at : goal.invariant-loop-at
invariant-loop-at l = LeadsTo (take l.at l.bytes) (part_of l.place)
