use Rattle.std.proofs.Common.{◌<◌, ◌≤◌, length, arith, sym, ap, refl, ◌∙◌}
use Rattle.std.specs.Prelude.{Bool, ◌+◌, ◌-◌}
use Rattle.std.specs.List.{range_with_len}
use Rattle.dc_bounds.specs.Weight.{flag}
use Rattle.dc_delay.specs.ShapeRows.{hanging}
use Rattle.dc_delay.proofs.Finding.{begins, unmeasurable_from, unmeasurable_first, unmeasurable_here, unmeasurable_later, unmeasurable_none}
use Rattle.dc_delay.proofs.judgement.first_unmeasurable.Goals as goal
use Rattle.dc_delay.proofs.judgement.first_unmeasurable.Goals.{then-is_first, else-is_first+else-is_unmeasurable}

pub loop-position-init : goal.loop-position-init
loop-position-init c = begins (hanging c.args.shape.now) (flag c.args.measuring.now) (length c.args.shape.now)

pub returns-then-is_unmeasurable : goal.returns-then-is_unmeasurable
returns-then-is_unmeasurable c =
    let rows = hanging c.args.shape.now in
    let m = flag c.args.measuring.now in
    let n = length c.args.shape.now in
    let k = c.loop-position.position in
    let less : k < n = omega (arith, c.len-position-end.ensures.is, c.loop-position-test.true) in
    sym (c.loop-position.invariant
    ∙ ap (λ b. unmeasurable_from rows m b (range_with_len k (n - k))) c.if-is_first.false
    ∙ unmeasurable_here rows m n k less (sym c.is_unmeasurable.ensures ∙ c.if-is_unmeasurable.true))

pub loop-position-preserved : goal.loop-position-preserved
loop-position-preserved c =
    let rows = hanging c.args.shape.now in
    let m = flag c.args.measuring.now in
    let n = length c.args.shape.now in
    let k = c.loop-position.position in
    let less : k < n = omega (arith, c.len-position-end.ensures.is, c.loop-position-test.true) in
    let start = λ (b : Bool). unmeasurable_from rows m b (range_with_len k (n - k)) in
    let end = λ (b : Bool). unmeasurable_from rows m b (range_with_len (k + 1) (n - (k + 1))) in
    elim c.if-is_first.branch [
      | then-is_first w ↦
          c.loop-position.invariant ∙ ap start w.if-is_first.true ∙ unmeasurable_first rows m n k (m k) less refl ∙ ap end (sym w.is_first-is)
      | else-is_first+else-is_unmeasurable w ↦
          c.loop-position.invariant ∙ ap start w.if-is_first.false
          ∙ unmeasurable_later rows m n k less (sym w.is_unmeasurable.ensures ∙ w.if-is_unmeasurable.false)
          ∙ ap end (sym (w.is_first-is ∙ w.if-is_first.false))
    ]

pub returns : goal.returns
returns c =
    let over : length c.args.shape.now ≤ c.loop-position.position = omega (arith, c.len-position-end.ensures.is, c.loop-position-test.false) in
    sym (c.loop-position.invariant
    ∙ unmeasurable_none (hanging c.args.shape.now) (flag c.args.measuring.now) c.loop-position.is_first (length c.args.shape.now) c.loop-position.position over)
