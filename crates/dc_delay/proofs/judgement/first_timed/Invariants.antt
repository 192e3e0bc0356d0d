use Rattle.std.proofs.Common.{◌≡◌, ◌-◌, length}
use Rattle.std.specs.List.{find, range_with_len}
use Rattle.dc_bounds.specs.Weight.{flag}
use Rattle.dc_delay.specs.Refusals.{first_timed}
use Rattle.dc_delay.proofs.judgement.first_timed.Given as goal

abbrev pub invariant-loop-position : goal.invariant-loop-position
invariant-loop-position l =
    first_timed l.shape (flag l.timed) ≡ find (flag l.timed) (range_with_len l.position (length l.shape - l.position))
