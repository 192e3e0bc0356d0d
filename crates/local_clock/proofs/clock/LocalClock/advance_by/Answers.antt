use Rattle.std.proofs.Common.{sym, ◌∙◌, w64, rules}
use Rattle.std.proofs.lemmas.Int.{to_z-of_z}
use Rattle.local_clock.proofs.clock.LocalClock.advance_by.Goals as goal

pub invariant_of-self : goal.invariant_of-self
invariant_of-self g c =
    let kept = c.self.invariant in
    let s = c.ticked-elapsed.ensures.steady in
    let e = to_z-of_z w64 c.ticked-elapsed.result.1 (search rules) in
    (s.0, λ h. s.1 (sym e ∙ h), rw e s.2, g.met.W.ClockWord.word_of_number _, kept.4, rw c.pass.ensures kept.5)
