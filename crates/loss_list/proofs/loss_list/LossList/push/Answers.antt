use Rattle.std.proofs.Common.{◌≡◌, ◌∙◌, Some, sym, ap, subst}
use Rattle.std.specs.Prelude.{slice_set}
use Rattle.std.specs.Option.{option_or}
use Rattle.loss_list.specs.Losses.{loss_at}
use Rattle.loss_list.specs.LossTable.{IsTable, table_place}
use Rattle.loss_list.proofs.LossLemmas.{pushed_table}
use Rattle.loss_list.proofs.loss_list.LossList.push.Goals as goal

pub invariant_of-self-2 : goal.invariant_of-self-2
invariant_of-self-2 c =
    let rows = c.self.inside.rows.items in
    let r = c.args.row in
    let table = c.reach.new.table.items in
    let place = c.table_place-place.result in
    let kept : IsTable rows table = λ phase number. c.reach.ensures.same (table_place phase number) ∙ c.self.invariant phase number in
    let new : c.or.result ≡ option_or (loss_at rows r.phase r.number) (Some r.after) =
    c.or.ensures ∙ ap (λ o. option_or o (Some r.after)) (c.after-known.ensures ∙ ap (λ rs. loss_at rs r.phase r.number) (sym c.self.view_is)) in
    subst (λ rs. IsTable rs (slice_set table place c.or.result)) (sym c.in_ok-push.ensures.items)
    (pushed_table rows r table place c.or.result kept c.table_place-place.ensures.is c.in_ok-reach.ensures.long new)
