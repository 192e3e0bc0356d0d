use Rattle.std.proofs.Common.{◌≡◌, ◌++◌, [], ◌∷◌, length, arith, sym, ap, ◌∙◌}
use Rattle.std.specs.Prelude.{Some}
use Rattle.std.proofs.lemmas.List.FromFn.{length-map-range_with_len, map-range_with_len_more}
use Rattle.dc_bounds.specs.Weight.{flag}
use Rattle.dc_delay.specs.Table.{table_laps, table_measures, table_rows}
use Rattle.dc_delay.proofs.Listing.{delay_if, put_timed, put_other}
use Rattle.dc_delay.proofs.measured.put_delays.Goals as goal
use Rattle.dc_delay.proofs.measured.put_delays.Goals.{then-is_timed, else-is_timed}

pub push-requires : goal.push-requires
push-requires c =
    let ss = c.args.slaves.now in
    let f = delay_if (table_rows ss) (table_measures ss) (flag c.args.timed.now) (table_laps ss) (Some c.args.reference) in
    let many = ap length c.loop-position.invariant ∙ length-map-range_with_len f 0 c.loop-position.position in
    omega (arith, many, c.requires.few, c.requires.timed)

pub loop-position-preserved : goal.loop-position-preserved
loop-position-preserved c =
    let ss = c.args.slaves.now in
    let k = c.loop-position.position in
    let f = delay_if (table_rows ss) (table_measures ss) (flag c.args.timed.now) (table_laps ss) (Some c.args.reference) in
    let put : c.if-is_timed.push ≡ f k = elim c.if-is_timed.branch [
      | then-is_timed w ↦
          w.push-is ∙ ap Some w.delay.ensures
          ∙ put_timed (table_rows ss) (table_measures ss) (flag c.args.timed.now) (table_laps ss) c.args.reference k w.way.result.ahead w.way.result.back
          c.way-to_reference.result.ahead c.way-to_reference.result.back w.if-is_timed.true
          w.way.ensures.ahead w.way.ensures.back c.way-to_reference.ensures.ahead c.way-to_reference.ensures.back
      | else-is_timed w ↦ w.push-is ∙ put_other (table_rows ss) (table_measures ss) (flag c.args.timed.now) (table_laps ss) (Some c.args.reference) k w.if-is_timed.false
    ] in
    c.push.ensures.items ∙ ap (λ o. c.loop-position.out.items ++ (o ∷ [])) put ∙ ap (λ xs. xs ++ (f k ∷ [])) c.loop-position.invariant ∙ sym (map-range_with_len_more f 0 k k (omega arith))
