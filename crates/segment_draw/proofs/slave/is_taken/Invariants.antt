use Rattle.std.proofs.Common.{◌≡◌, false, map, take}
use Rattle.segment_file.specs.Seen.{row_seen}
use Rattle.segment_draw.specs.Generated.{is_taken}
use Rattle.segment_draw.proofs.slave.is_taken.Given as goal

abbrev pub invariant-loop-earlier : goal.invariant-loop-earlier
invariant-loop-earlier l = is_taken (map row_seen (take l.earlier-index l.rows)) l.row l.port ≡ false
