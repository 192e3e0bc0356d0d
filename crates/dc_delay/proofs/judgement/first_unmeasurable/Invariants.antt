use Rattle.std.proofs.Common.{◌≡◌, ◌-◌, length}
use Rattle.std.specs.List.{range_with_len}
use Rattle.dc_bounds.specs.Weight.{flag}
use Rattle.dc_delay.specs.Refusals.{first_unmeasurable}
use Rattle.dc_delay.specs.ShapeRows.{hanging}
use Rattle.dc_delay.proofs.Finding.{unmeasurable_from}
use Rattle.dc_delay.proofs.judgement.first_unmeasurable.Given as goal

abbrev pub invariant-loop-position : goal.invariant-loop-position
invariant-loop-position l =
    first_unmeasurable l.shape (flag l.measuring)
    ≡ unmeasurable_from (hanging l.shape) (flag l.measuring) l.is_first (range_with_len l.position (length l.shape - l.position))
