use Rattle.std.proofs.Common.{rules, ◌≡◌, ◌+◌, ◌≤◌, ◌^◌, sym, ap, ◌∙◌, subst, inl, inr}
use Rattle.std.proofs.lemmas.Bool.{cases_lt}
use Rattle.osc_clock.specs.Ticks.{IsRunning, ticks}
use Rattle.local_clock.specs.FirstReaching.{tick_after, within_time}
use Rattle.local_clock.proofs.Within.{later_within, no_tick_within}
use Rattle.local_clock.proofs.clock.LocalClock.instant_after.Goals as goal

pub returns-in_err-tick-clause-at : goal.returns-in_err-tick-clause-at
returns-in_err-tick-clause-at g c =
    let over : 2 ^ 64 ≤ c.ticks.result + c.args.k = elim (cases_lt (c.ticks.result + c.args.k) (2 ^ 64)) [
      | inl fits ↦ absurd (c.in_err-tick.ensures fits)
      | inr over ↦ over
    ] in
    let run = subst (λ v. IsRunning v.osc) c.self.view_is c.self.invariant.5 in
    let is = c.ticks.ensures ∙ ap (λ v. ticks v.osc v.instant) c.self.view_is in
    c.from_residual.ensures ∙ sym (no_tick_within c.args.self.now c.ticks.result c.args.k run is over)

pub returns-clause-later : goal.returns-clause-later
returns-clause-later g c =
    let run = subst (λ v. IsRunning v.osc) c.self.view_is c.self.invariant.5 in
    let is : c.ok.result ≡ within_time (tick_after c.args.self.now c.args.k) = search rules in
    rw is (later_within c.args.self.now c.args.k run c.requires)
