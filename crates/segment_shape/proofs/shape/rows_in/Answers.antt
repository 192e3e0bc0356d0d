use Rattle.std.proofs.Common.{◌≡◌, ◌∙◌, ◌++◌, ◌∷◌, [], sym, map, length, arith}
use Rattle.std.specs.Prelude.{codes}
use Rattle.std.proofs.lemmas.List.{length-append, length-map, map-append}
use Rattle.segment_shape.specs.FaultPaths.{path_of_slave}
use Rattle.segment_shape.specs.Slaves.{slave_in}
use Rattle.segment_shape.specs.Seen.{row_seen}
use Rattle.segment_shape.proofs.RowLemmas.{rows_kept, rows_refused, rows_end}
use Rattle.segment_shape.proofs.shape.rows_in.Goals as goal

pub returns-in-Err-clause-err : goal.returns-in-Err-clause-err
returns-in-Err-clause-err c =
    let read = slave_in c.args.head.version c.args.head.cycle_ns in
    let places : c.len.result ≡ length c.loop-value.rows.items = omega arith in
    sym c.loop-value.invariant.rows
    ∙ rows_refused (codes "slaves") read (map row_seen c.loop-value.rows.items) c.args.values.now c.loop-value.value-index c.value-item.result (path_of_slave c.in-Err.fault) c.len.result
    c.slave_path.result.bytes c.loop-value-test.true c.value-item.is c.in-Err.ensures.err (places ∙ sym (length-map c.loop-value.rows.items row_seen)) c.slave_path.ensures

pub loop-value-preserved : goal.loop-value-preserved
loop-value-preserved c =
    let pushed : c.push.new.self.items ≡ c.loop-value.rows.items ++ c.in-Ok.row ∷ [] = rw c.if-is_err.ensures.negation at c.push.ensures.items in
    let read = slave_in c.args.head.version c.args.head.cycle_ns in
    record {
      rows = rw (pushed, map-append)
          (rows_kept (codes "slaves") read (map row_seen c.loop-value.rows.items) c.args.values.now c.loop-value.value-index c.value-item.result (row_seen c.in-Ok.row)
          c.loop-value-test.true c.value-item.is c.in-Ok.ensures.ok
          ∙ c.loop-value.invariant.rows);
      each = simp (pushed, length-append) (omega (arith, c.loop-value.invariant.each));
    }

pub returns-clause-ok : goal.returns-clause-ok
returns-clause-ok c =
    sym c.loop-value.invariant.rows
    ∙ rows_end (codes "slaves") (slave_in c.args.head.version c.args.head.cycle_ns) (map row_seen c.loop-value.rows.items) c.args.values.now c.loop-value.value-index (omega arith)
