use Rattle.std.proofs.Common.{◌≡◌, ◌<◌, ◌-◌, [], map, length}
use Rattle.segment_file.specs.Seen.{row_seen}
use Rattle.segment_draw.specs.Draws.{draws_from, seeded}
use Rattle.segment_draw.specs.Generated.{rows_from}
use Rattle.segment_draw.proofs.segment.slaves.Given as goal

abbrev pub invariant-loop : goal.invariant-loop
invariant-loop l = record {
  rows : rows_from [] (draws_from l.n (seeded l.seed)) ≡ rows_from (map row_seen l.rows.items) (draws_from (l.n - l.counter) l.state);
  low : l.state < 2147483647;
  count : length l.rows.items ≡ l.counter;
}
