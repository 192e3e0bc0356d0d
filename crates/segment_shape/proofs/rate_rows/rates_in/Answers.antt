use Rattle.std.proofs.Common.{◌∙◌, ◌+◌, sym, ap, arith, refl}
use Rattle.std.specs.Prelude.{codes}
use Rattle.serde_json.specs.View.{view}
use Rattle.segment_shape.specs.Rates.{rate_in, rate_behind, last_tick}
use Rattle.segment_shape.specs.FaultPaths.{path_of_row}
use Rattle.segment_shape.proofs.RowLemmas.{rows_kept, rows_refused, rows_end}
use Rattle.segment_shape.proofs.RateLemmas.{last_tick-push}
use Rattle.segment_shape.proofs.rate_rows.rates_in.Goals as goal

pub returns-in-Err-clause-err : goal.returns-in-Err-clause-err
returns-in-Err-clause-err c =
    let behind = ap (λ tick. rate_behind tick (view c.value-item.result)) (sym c.loop-value.invariant.last) ∙ c.in-Err.ensures.err in
    sym c.loop-value.invariant.rows
    ∙ rows_refused (codes "rates") rate_in c.loop-value.rates.items c.args.values.now c.loop-value.value-index c.value-item.result (path_of_row c.in-Err.fault) c.len.result _
    c.loop-value-test.true c.value-item.is behind c.len.ensures.value refl

pub loop-value-preserved : goal.loop-value-preserved
loop-value-preserved c =
    let tick = ap (λ r. r.tick) c.row.view_is in
    let behind = ap (λ tick. rate_behind tick (view c.value-item.result)) (sym c.loop-value.invariant.last) ∙ c.in-Ok.ensures.ok in
    record {
      rows = rw c.push.ensures.items
          (rows_kept (codes "rates") rate_in c.loop-value.rates.items c.args.values.now c.loop-value.value-index c.value-item.result c.in-Ok.row
          c.loop-value-test.true c.value-item.is behind
          ∙ c.loop-value.invariant.rows);
      each = c.push.ensures.len ∙ ap (λ n. n + 1) c.loop-value.invariant.each;
      last = tick ∙ sym (ap (last_tick 0) c.push.ensures.items ∙ last_tick-push 0 c.loop-value.rates.items c.in-Ok.row);
      room = omega (arith, tick, c.in-Ok.ensures.within);
    }

pub returns-clause-ok : goal.returns-clause-ok
returns-clause-ok c =
    sym c.loop-value.invariant.rows
    ∙ rows_end (codes "rates") rate_in c.loop-value.rates.items c.args.values.now c.loop-value.value-index (omega arith)
