use Rattle.std.proofs.Common.{◌≡◌, map, take}
use Rattle.segment_file.specs.Segment.{row_of}
use Rattle.run_of_file.specs.MasterOfFile.{kind_of}
use Rattle.segment_bench.proofs.config.kinds.Given as goal

abbrev pub invariant-loop-row : goal.invariant-loop-row
invariant-loop-row l = l.kinds.items ≡ map (λ r. kind_of (row_of l.segment r)) (take l.row-index l.row-items)
