use Rattle.std.proofs.Common.{◌≡◌, map}
use Rattle.std.specs.List.{range_with_len}
use Rattle.dc_delay.specs.Latched.{measures}
use Rattle.dc_delay.proofs.table.measuring.Given as goal

abbrev pub invariant-loop-position : goal.invariant-loop-position
invariant-loop-position l = l.measuring.items ≡ map (measures l.latches) (range_with_len 0 l.position)
