use Rattle.std.proofs.Common.{◌∷◌, [], sym, ap, ◌∙◌, arith}
use Rattle.std.specs.Option.{ok_or}
use Rattle.lost_step.specs.LostStep.{loses}
use Rattle.lost_step.proofs.Asking.{one_asked, asked_near}
use Rattle.lost_step.proofs.tries.ask.Goals as goal

pub returns-clause-is : goal.returns-clause-is
returns-clause-is c =
    let lost = loses c.args.segment.now c.args.phase in
    c.ok_or.ensures.value ∙ ap (λ o. ok_or o c.args.step) c.behind_tries.ensures ∙ sym (one_asked lost c.args.first c.args.step)

pub returns-clause-few : goal.returns-clause-few
returns-clause-few c =
    let lost = loses c.args.segment.now c.args.phase in
    asked_near lost c.args.first 1 (c.args.step ∷ []) c.ok_or.result
    (c.ok_or.ensures.value ∙ ap (λ o. ok_or o c.args.step) c.behind_tries.ensures ∙ sym (one_asked lost c.args.first c.args.step)) (omega arith)
