use Rattle.std.proofs.Common.{arith, ◌∙◌}
use Rattle.osc_clock.proofs.Pieces.{row_after}
use Rattle.osc_clock.proofs.Walks.{way_row, way_next, way_fits, way_last, way_end}
use Rattle.osc_clock.proofs.osc.Osc.instant_of.Goals as goal
use Rattle.osc_clock.proofs.osc.Osc.instant_of.Goals.{else-loop-row-test, then-loop-row-test+then-tick-row}

pub after-at-requires : goal.after-at-requires
after-at-requires c =
    let way = way_row _ _ _ _ _ _ _ _ _ c.loop-row-test.true c.row-item.is c.row.view_is c.loop-row.invariant in
    way_fits _ _ _ _ _ _ _ way (row_after _ _ _ _ _ way.piece) (omega arith)

pub loop-row-preserved : goal.loop-row-preserved
loop-row-preserved c =
    rw c.after-at.ensures (way_next _ _ _ _ _ _ _ c.if-tick-row.false (omega arith) (way_row _ _ _ _ _ _ _ _ _ c.loop-row-test.true c.row-item.is c.row.view_is c.loop-row.invariant))

pub after-requires : goal.after-requires
after-requires c = way_fits _ _ _ _ _ _ _ c.loop-row.invariant c.loop-row.invariant.low (omega arith)

pub returns : goal.returns
returns c =
    c.after.ensures ∙ elim c.loop-row-test.branch [
      | else-loop-row-test w ↦ way_end _ _ _ _ _ _ _ w.loop-row-test.false c.loop-row.invariant
      | then-loop-row-test+then-tick-row w ↦
          let way = way_row _ _ _ _ _ _ _ _ _ w.loop-row-test.true w.row-item.is w.row.view_is c.loop-row.invariant in
          let later = way.piece.later in
          way_last _ _ _ _ _ _ way (w.if-tick-row.true, later.1, later.2)
    ]
