use Rattle.std.specs.Prelude.{◌≡◌, ◌≤◌, max, get_or}
use Rattle.std.proofs.Common.{arith, rules, subst}
use Rattle.std.specs.List.{All}
use Rattle.std.proofs.lemmas.List.{take_all}
use Rattle.std.proofs.lemmas.List.Elements.{All-more, All-weaker}
use Rattle.loss_list.specs.declared.loss_row.Phase.TheVariants.{Commission}
use Rattle.loss_list.specs.declared.loss_row.LossRow.{LossRow}
use Rattle.segment_file.proofs.drift_runs.last_listed.Goals as goal

pub loop-row-preserved : goal.loop-row-preserved
loop-row-preserved c =
    let none : LossRow = record { phase = Commission; number = 0; after = 0 } in
    let more : c.max-last.result ≡ max c.loop-row.last (get_or c.args.rows.now c.loop-row.row-index none).number = search rules in
    All-more (λ (row : LossRow). row.number ≤ c.max-last.result) c.args.rows.now c.loop-row.row-index none c.loop-row-test.true
    (All-weaker (λ (row : LossRow). row.number ≤ c.loop-row.last) (λ (row : LossRow). row.number ≤ c.max-last.result) (λ row le. omega (arith, le, more)) _ c.loop-row.invariant)
    (omega (arith, more))

pub returns : goal.returns
returns c =
    let test = c.loop-row-test.false in
    subst (All (λ (row : LossRow). row.number ≤ c.loop-row.last)) (take_all c.loop-row.row-index c.args.rows.now (omega (arith, test))) c.loop-row.invariant
