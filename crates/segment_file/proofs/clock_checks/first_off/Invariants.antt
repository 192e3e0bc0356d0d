use Rattle.std.proofs.Common.{◌≡◌, drop, map}
use Rattle.std.specs.List.{find}
use Rattle.segment_file.specs.Faults.{is_off}
use Rattle.segment_file.specs.Seen.{row_seen}
use Rattle.segment_file.proofs.clock_checks.first_off.Given as goal

abbrev pub invariant-loop-row : goal.invariant-loop-row
invariant-loop-row l =
    find (is_off l.ppm) (map row_seen (drop l.row-index l.rows)) ≡ find (is_off l.ppm) (map row_seen l.rows)
