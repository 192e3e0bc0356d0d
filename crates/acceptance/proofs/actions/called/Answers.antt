use Rattle.std.proofs.Common.{◌≡◌, ◌∙◌, map, string_bytes, subst, sym}
use Rattle.acceptance.specs.Runs.{HoldsRun}
use Rattle.acceptance.proofs.actions.called.Goals as goal

pub remakes-requires : goal.remakes-requires
remakes-requires c =
    let o = c.in_ok-called.called.outcome in
    let b = c.in_ok-called.called.bench in
    let words : c.deref.result.now ≡ c.deref-2.result.now = c.deref.ensures.value ∙ sym c.deref-2.ensures.value in
    subst (λ ws. HoldsRun (map string_bytes ws) c.deref-3.result.now o b) words
    (subst (λ xs. HoldsRun (map string_bytes c.deref.result.now) xs o b) (sym c.deref-3.ensures.value) c.in_ok-called.ensures)
