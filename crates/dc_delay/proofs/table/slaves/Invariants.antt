use Rattle.std.proofs.Common.{◌≡◌, map}
use Rattle.std.specs.List.{range_with_len}
use Rattle.dc_delay.specs.Table.{told}
use Rattle.dc_delay.proofs.table.slaves.Given as goal

abbrev pub invariant-loop-position : goal.invariant-loop-position
invariant-loop-position l = l.slaves.items ≡ map (told l.shape l.kinds l.latches) (range_with_len 0 l.position)
