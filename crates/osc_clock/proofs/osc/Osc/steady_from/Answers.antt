use Rattle.osc_clock.proofs.Steady.{left_first, left_row, left_next, left_gap, left_until, end_gap, end_until}
use Rattle.osc_clock.proofs.osc.Osc.steady_from.Goals as goal

pub loop-row-init : goal.loop-row-init
loop-row-init c = rw (← c.self.view_is) (left_first _ c.args.tick c.self.invariant.running c.requires)

pub returns-then-tick-row-clause-period : goal.returns-then-tick-row-clause-period
returns-then-tick-row-clause-period c =
    left_gap _ _ _ _ _ c.if-tick-row.true (left_row _ _ _ _ _ _ _ c.loop-row-test.true c.row-item.is c.row.view_is c.loop-row.invariant)

pub returns-then-tick-row-clause-until : goal.returns-then-tick-row-clause-until
returns-then-tick-row-clause-until c =
    left_until _ _ _ _ _ c.if-tick-row.true (left_row _ _ _ _ _ _ _ c.loop-row-test.true c.row-item.is c.row.view_is c.loop-row.invariant)

pub loop-row-preserved : goal.loop-row-preserved
loop-row-preserved c =
    left_next _ _ _ _ _ c.if-tick-row.false (left_row _ _ _ _ _ _ _ c.loop-row-test.true c.row-item.is c.row.view_is c.loop-row.invariant)

pub returns-clause-period : goal.returns-clause-period
returns-clause-period c = end_gap _ _ _ _ _ c.loop-row-test.false c.loop-row.invariant

pub returns-clause-until : goal.returns-clause-until
returns-clause-until c = end_until _ _ _ _ _ c.loop-row-test.false c.loop-row.invariant
