use Rattle.std.proofs.Common.{length, arith, refl, sym, ◌∙◌, Some, None, ◌≡◌, ◌-◌, ◌+◌, subst}
use Rattle.std.proofs.lemmas.Bool.{false≢true}
use Rattle.cable_tree.specs.Segment.{LeadsToRoot}
use Rattle.cable_tree.proofs.Checked.{above_here, parent_within, leads_at_root, leads_up, leads_down, leads_nowhere}
use Rattle.cable_tree.proofs.checks.leads_to_root.Goals as goal

pub loop-step-init : goal.loop-step-init
loop-step-init c =
    let n = length c.args.rows.now in
    let e : n ≡ n - 0 = omega arith in
    record { within = c.requires.within; same = (λ h. subst (λ s. LeadsToRoot c.args.rows.now s c.args.row) e h, λ h. subst (λ s. LeadsToRoot c.args.rows.now s c.args.row) (sym e) h) }

pub returns-in-None : goal.returns-in-None
returns-in-None c =
    let at = above_here c.args.rows.now c.loop-step.at c.index-rows-at.result None c.loop-step.invariant.within c.index-rows-at.is (sym c.in-None.is ∙ c.above.ensures.above) in
    let leads = leads_at_root c.args.rows.now (length c.args.rows.now) c.loop-step._step c.loop-step.at c.loop-step-test.true at in
    (λ _. c.loop-step.invariant.same.1 leads, λ _. refl)

pub loop-step-preserved : goal.loop-step-preserved
loop-step-preserved c =
    let rows = c.args.rows.now in
    let n = length c.args.rows.now in
    let at = above_here rows c.loop-step.at c.index-rows-at.result (Some c.in-Some.above) c.loop-step.invariant.within c.index-rows-at.is (sym c.in-Some.is ∙ c.above.ensures.above) in
    let parent = parent_within rows c.loop-step.at c.in-Some.above c.requires.parents c.loop-step.invariant.within at in
    let to : c.in-Some.above.row ≡ c.from-at.result = sym c.from-at.ensures in
    record {
      within = omega arith;
      same = (
        λ h. subst (λ r. LeadsToRoot rows (n - (c.loop-step._step + 1)) r) to (leads_up rows n c.loop-step._step c.loop-step.at c.in-Some.above c.loop-step-test.true at (c.loop-step.invariant.same.0 h)),
        λ h. c.loop-step.invariant.same.1 (leads_down rows n c.loop-step._step c.loop-step.at c.in-Some.above c.loop-step-test.true at (subst (λ r. LeadsToRoot rows (n - (c.loop-step._step + 1)) r) (sym to) h)),
      );
    }

pub returns : goal.returns
returns c =
    let rows = c.args.rows.now in
    let e : length rows - c.loop-step._step ≡ 0 = omega arith in
    (λ h. absurd (false≢true h), λ h. absurd (leads_nowhere rows c.loop-step.at (subst (λ s. LeadsToRoot rows s c.loop-step.at) e (c.loop-step.invariant.same.0 h))))
