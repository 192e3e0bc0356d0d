use Rattle.std.proofs.Common.{arith}
use Rattle.osc_clock.proofs.Pieces.{row_after}
use Rattle.osc_clock.proofs.Walks.{before_none, before_first, before_row, before_next, before_small, before_last, before_end}
use Rattle.osc_clock.proofs.osc.Osc.ticks_until.Goals as goal
use Rattle.osc_clock.proofs.osc.Osc.ticks_until.Goals.{Then-reached-row, Else-reached-row}

pub returns-then-t-self-clause-number : goal.returns-then-t-self-clause-number
returns-then-t-self-clause-number c = rw (← c.self.view_is) (before_none _ c.args.t c.self.invariant.running c.if-t-self.true)

pub loop-row-init : goal.loop-row-init
loop-row-init c = rw (← c.self.view_is) (before_first _ c.args.t c.self.invariant.running c.if-t-self.false)

pub nonzero_div-reached : goal.nonzero_div-reached
nonzero_div-reached c = c.loop-row.invariant.piece.positive

pub overflow_add-reached : goal.overflow_add-reached
overflow_add-reached c = let small = before_small _ _ _ _ _ _ c.loop-row.invariant in omega (arith, small)

pub returns-then-reached-row-clause-number : goal.returns-then-reached-row-clause-number
returns-then-reached-row-clause-number c =
    let before = before_row _ _ _ _ _ _ _ _ _ c.loop-row-test.true c.row-item.is c.row.view_is c.loop-row.invariant in
    let later = before.piece.later in
    before_last _ _ _ _ _ _ before (c.if-reached-row.true, later.1, later.2)

pub overflow_sub-left-in-loop-row : goal.overflow_sub-left-in-loop-row
overflow_sub-left-in-loop-row c =
    row_after _ _ _ _ _ (before_row _ _ _ _ _ _ _ _ _ c.loop-row-test.true c.row-item.is c.row.view_is c.loop-row.invariant).piece

pub loop-row-preserved : goal.loop-row-preserved
loop-row-preserved c =
    before_next _ _ _ _ _ _ _ c.if-reached-row.false (before_row _ _ _ _ _ _ _ _ _ c.loop-row-test.true c.row-item.is c.row.view_is c.loop-row.invariant)

pub nonzero_div-result : goal.nonzero_div-result
nonzero_div-result c = c.loop-row.invariant.piece.positive

pub overflow_add-result : goal.overflow_add-result
overflow_add-result c = let small = before_small _ _ _ _ _ _ c.loop-row.invariant in omega (arith, small)

pub returns-clause-number : goal.returns-clause-number
returns-clause-number c = before_end _ _ _ _ _ _ _ c.loop-row-test.false c.loop-row.invariant
