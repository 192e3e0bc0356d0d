use Rattle.std.proofs.Common.{◌≡◌, Err, rules, ap, ◌∙◌, subst, inl, inr}
use Rattle.cable_tree.specs.Segment.{IsTree}
use Rattle.cable_tree.proofs.Refused.{refusal_same, tree_unrefused}
use Rattle.cable_tree.proofs.tree.Tree.new.Goals as goal

pub returns-in_err-wiring-clause-exactly : goal.returns-in_err-wiring-clause-exactly
returns-in_err-wiring-clause-exactly c =
    let answered : c.from_residual.result ≡ Err c.in_err-wiring.field-0.0 = search rules in
    λ e refused. elim (refusal_same c.args.rows.now c.in_err-wiring.field-0.0 e c.in_err-wiring.ensures.err refused) [
      | inl same ↦ inl (answered ∙ ap Err same)
      | inr memory ↦ inr (answered ∙ ap Err memory)
    ]

pub returns-clause-exactly : goal.returns-clause-exactly
returns-clause-exactly c = λ e refused.
    absurd (tree_unrefused c.args.rows.now e (subst (λ rs. IsTree rs) c.in_ok-wiring.ensures.ok c.in_ok-wiring.ensures.segment.tree) refused)
