use Rattle.std.specs.Prelude.{◌≡◌, ℕ, ◌+◌, ◌%◌, ◌^◌, pos, ◌<ℤ◌, ◌≤ℤ◌, unsigned_abs}
use Rattle.std.proofs.Common.{arith, rules, ap, ap₂, ◌∙◌, w64}
use Rattle.std.proofs.lemmas.Int.{ints, to_z-of_z}
use Rattle.wrap_time.specs.WordDifference.{word_difference}
use Rattle.sync_units.specs.ClockCopy.{copy_of}
use Rattle.sync_units.proofs.Spare.{spare_behind, spare_reached}
use Rattle.sync_units.proofs.next_due.NextDue.spare.Goals as goal

pub returns-then-ahead-lt0 : goal.returns-then-ahead-lt0
returns-then-ahead-lt0 g c =
    let w = g.W.ClockWord.WIDTH in
    let shown : g.W.ClockWord.number c.add.result ≡ copy_of w c.args.clock.now (g.W.ClockWord.number c.args.offset) =
    c.add.ensures ∙ ap₂ (λ (r o : ℕ). (r + o) % 2 ^ w) c.reading.ensures c.value.ensures.number in
    let due : g.W.ClockWord.number c.self.inside.value ≡ c.args.self.now.value = ap (λ d. d.value) c.self.view_is in
    let kept = to_z-of_z w64 c.diff-ahead.result (search rules) in
    let is : c.diff-ahead.result ≡ word_difference w (copy_of w c.args.clock.now (g.W.ClockWord.number c.args.offset)) c.args.self.now.value =
    c.diff-ahead.ensures.is ∙ ap₂ (word_difference w) shown due in
    let negative : c.diff-ahead.result <ℤ pos 0 = grind (arith, ints) in
    rw (← is) (spare_behind c.diff-ahead.result c.unsigned_abs.result negative (c.unsigned_abs.ensures.value ∙ ap unsigned_abs kept))

pub returns-else-ahead-lt0 : goal.returns-else-ahead-lt0
returns-else-ahead-lt0 g c =
    let w = g.W.ClockWord.WIDTH in
    let shown : g.W.ClockWord.number c.add.result ≡ copy_of w c.args.clock.now (g.W.ClockWord.number c.args.offset) =
    c.add.ensures ∙ ap₂ (λ (r o : ℕ). (r + o) % 2 ^ w) c.reading.ensures c.value.ensures.number in
    let due : g.W.ClockWord.number c.self.inside.value ≡ c.args.self.now.value = ap (λ d. d.value) c.self.view_is in
    let is : c.diff-ahead.result ≡ word_difference w (copy_of w c.args.clock.now (g.W.ClockWord.number c.args.offset)) c.args.self.now.value =
    c.diff-ahead.ensures.is ∙ ap₂ (word_difference w) shown due in
    let high : pos 0 ≤ℤ c.diff-ahead.result = grind (arith, ints) in
    rw (← is) (spare_reached c.diff-ahead.result high)
