use Rattle.std.proofs.Common.{◌≡◌, ◌-◌, length}
use Rattle.std.specs.List.{find, range_with_len}
use Rattle.dc_bounds.specs.Weight.{flag}
use Rattle.dc_delay.specs.ShapeRows.{positions}
use Rattle.master_frames.proofs.judgement.first.Given as goal

abbrev pub invariant-loop-position : goal.invariant-loop-position
invariant-loop-position l = find (flag l.clocks) (positions (length l.clocks)) ≡ find (flag l.clocks) (range_with_len l.position (length l.clocks - l.position))
