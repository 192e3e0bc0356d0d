use Rattle.std.proofs.Common.{get_or, sym, ap, ◌∙◌}
use Rattle.segment_file.specs.Seen.{row_seen}
use Rattle.wire_sim.proofs.Starting.{way_short, row_is, start_low, runs}
use Rattle.wire_sim.proofs.build.slave.Goals as goal

pub unit-requires-clause-start : goal.unit-requires-clause-start
unit-requires-clause-start c =
    let s = c.args.segment.now in
    let row = c.index-rows-from.result in
    start_low s c.args.row (row_seen row) c.rows.ensures.legal c.requires
    (row_is c.rows.result.now s.rows c.args.row row c.rows.ensures.is c.requires ∙ ap row_seen (ap (λ k. get_or c.rows.result.now k row) (sym c.from.ensures) ∙ sym c.index-rows-from.is))

pub unit-requires-clause-running : goal.unit-requires-clause-running
unit-requires-clause-running c =
    let s = c.args.segment.now in
    let row = c.index-rows-from.result in
    runs s c.args.row (row_seen row) c.rows.ensures.legal c.requires
    (row_is c.rows.result.now s.rows c.args.row row c.rows.ensures.is c.requires ∙ ap row_seen (ap (λ k. get_or c.rows.result.now k row) (sym c.from.ensures) ∙ sym c.index-rows-from.is))

pub visits-requires-clause-short : goal.visits-requires-clause-short
visits-requires-clause-short c = rw c.tree-tree.ensures.is (way_short c.args.segment.now c.tree-tree.ensures.legal)

pub new-requires : goal.new-requires
new-requires c = rw c.registers.ensures.kind c.in_ok-unit.ensures.width
