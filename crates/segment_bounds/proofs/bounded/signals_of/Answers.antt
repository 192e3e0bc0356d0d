use Rattle.std.proofs.Common.{◌+◌, ◌++◌, ◌∙◌, ap, sym, arith, append_assoc, drop, map}
use Rattle.segment_file.specs.Legal.{IsClock}
use Rattle.segment_file.specs.Seen.{row_seen}
use Rattle.segment_bounds.specs.Bounded.{bounded}
use Rattle.segment_bounds.specs.Window.{signals_at, signals_from}
use Rattle.segment_bounds.proofs.SignalLemmas.{of_row, signals_on}
use Rattle.segment_bounds.proofs.bounded.signals_of.Goals as goal

pub push_signals-requires-clause-slave : goal.push_signals-requires-clause-slave
push_signals-requires-clause-slave c =
    of_row (IsClock c.args.segment.now.head.cycle_ns) c.rows-slave-items.result.now c.args.segment.now.rows c.loop-row.row c.slave-item.result c.rows-slave-items.ensures.is c.loop-row-test.true
    c.slave-item.is c.rows-slave-items.ensures.legal.clocks

pub loop-row-preserved : goal.loop-row-preserved
loop-row-preserved c =
    let s = c.args.segment.now in
    let at = map (bounded s) (signals_at c.loop-row.row (row_seen c.slave-item.result)) in
    let rest = map (bounded s) (signals_from (c.loop-row.row + 1) (drop (c.loop-row.row + 1) s.rows)) in
    let on = signals_on s c.rows-slave-items.result.now s.rows c.loop-row.row c.slave-item.result c.rows-slave-items.ensures.is c.loop-row-test.true c.slave-item.is in
    record {
      same = ap (λ xs. xs ++ rest) c.push_signals.ensures.is ∙ append_assoc c.loop-row.signals.items at rest ∙ ap (λ xs. c.loop-row.signals.items ++ xs) (sym on) ∙ c.loop-row.invariant.same;
      few = omega (arith, c.push_signals.ensures.few, c.loop-row.invariant.few);
      each = c.push_signals.ensures.each;
    }
