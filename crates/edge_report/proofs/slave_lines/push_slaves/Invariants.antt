use Rattle.std.proofs.Common.{◌≡◌, ◌++◌, string_bytes}
use Rattle.std.specs.List.{flat_map, range_with_len}
use Rattle.edge_report.specs.SlaveLine.{line_among}
use Rattle.edge_report.proofs.slave_lines.push_slaves.Given as goal

abbrev pub invariant-loop-position : goal.invariant-loop-position
invariant-loop-position l = string_bytes l.text ≡ string_bytes l.fn.text ++ flat_map (line_among l.segment l.delays) (range_with_len 0 l.position)
