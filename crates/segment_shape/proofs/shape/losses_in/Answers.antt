use Rattle.std.proofs.Common.{◌∙◌, sym, arith}
use Rattle.std.specs.Prelude.{codes}
use Rattle.std.proofs.lemmas.List.{length-append}
use Rattle.segment_shape.specs.FaultPaths.{path_of_row}
use Rattle.segment_shape.specs.Losses.{loss_in}
use Rattle.segment_shape.proofs.RowLemmas.{rows_kept, rows_refused, rows_end}
use Rattle.segment_shape.proofs.shape.losses_in.Goals as goal

pub returns-in-Err-clause-err : goal.returns-in-Err-clause-err
returns-in-Err-clause-err c =
    sym c.loop-value.invariant.rows
    ∙ rows_refused (codes "losses") (loss_in c.args.slaves) c.loop-value.losses c.args.values.now c.loop-value.value-index c.value-item.result (path_of_row c.in-Err.fault) c.len.result
    c.loss_path.result.bytes c.loop-value-test.true c.value-item.is c.in-Err.ensures.err c.len.ensures c.loss_path.ensures

pub loop-value-preserved : goal.loop-value-preserved
loop-value-preserved c = record {
  rows = rw c.in_ok-push-in-Ok.ensures.ok
      (rows_kept (codes "losses") (loss_in c.args.slaves) c.loop-value.losses c.args.values.now c.loop-value.value-index c.value-item.result c.in-Ok.row
      c.loop-value-test.true c.value-item.is c.in-Ok.ensures.ok
      ∙ c.loop-value.invariant.rows);
  each = simp (c.in_ok-push-in-Ok.ensures.ok, length-append) (omega (arith, c.loop-value.invariant.each));
}

pub returns-clause-ok : goal.returns-clause-ok
returns-clause-ok c =
    sym c.loop-value.invariant.rows
    ∙ rows_end (codes "losses") (loss_in c.args.slaves) c.loop-value.losses c.args.values.now c.loop-value.value-index (omega arith)
