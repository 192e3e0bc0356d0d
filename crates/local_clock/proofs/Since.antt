-- What a clock has become since it received a difference.
use Rattle.std.specs.Prelude.{◌≡◌, ℕ, ◌+◌, ◌-◌, ◌<◌, ◌≤◌, List, [], ◌∷◌, ◌++◌, ℤ}
use Rattle.std.proofs.Common.{arith, refl, ap, sym, ◌∙◌, subst}
use Rattle.std.proofs.lemmas.Int.{ints}
use Rattle.osc_clock.specs.Ticks.{IsRunning, ticks}
use Rattle.local_clock.specs.StepRule.{steered, elapsed}
use Rattle.local_clock.specs.Reading.{Clock, Happening, AreUntil, after_event, received, ticks_to}
use Rattle.local_clock.specs.LocalTime.{local_time, whole_advanced, whole_clock_at}
use Rattle.local_clock.specs.Since.{IsSince, receipt}
use Rattle.local_clock.proofs.History.{is_until}
use Rattle.local_clock.proofs.ManyTicks.{ticks_balance}
use Rattle.local_clock.proofs.WorkedOff.{worked_off}
use Rattle.local_clock.proofs.LocalTime.{whole_here, whole_in_turn, whole_stands}

module _ (c : Clock) (events : List Happening) (at : ℕ) (d : ℤ) (t : ℕ) (run : IsRunning c.osc) (early : c.instant ≤ at) (late : at ≤ t) (until : AreUntil at events)
    (some : 0 < (whole_clock_at c events at).g) where
  abbrev then : Clock
  then = whole_clock_at c events at

  abbrev again : Clock
  again = record then { left = d; count = 0 }

  -- the clock at t goes on from there
  goes_on : whole_clock_at c (events ++ receipt at d ∷ []) t ≡ whole_advanced t again
  goes_on =
      let turn = whole_in_turn at t c events (receipt at d ∷ []) run early late until (let le : at ≤ at = omega arith in (le, tt)) in
      let first = is_until at t late in
      let standing : whole_advanced at then ≡ then = subst (λ (i : ℕ). whole_advanced i then ≡ then) (whole_stands at c events).0 (whole_here then) in
      sym turn ∙ rw first (ap (λ (a : Clock). whole_advanced t (after_event (received d) a)) standing)

  abbrev k : ℕ
  k = ticks c.osc t - ticks c.osc at

  ticks_are : ticks_to again t ≡ k
  ticks_are = let s = whole_stands at c events in rw (s.0, s.1) refl

  abbrev left : ℤ
  left = (steered then.g k (record { left = d; count = 0 })).left

  pub since_receipt : IsSince c events at d t
  since_receipt =
      let n = ticks_are in
      let reads : local_time c (events ++ receipt at d ∷ []) t ≡ then.reading + elapsed then.g k (record { left = d; count = 0 }) =
      ap (λ (a : Clock). a.reading) goes_on ∙ ap (λ (j : ℕ). then.reading + elapsed then.g j (record { left = d; count = 0 })) n in
      let b = ticks_balance then.g k (record { left = d; count = 0 }) in
      let w = worked_off d then.g k some in
      let size = w.0 in
      record {
        left = left;
        time = omega (arith, ints, reads, b);
        size = omega (arith, size);
        sign = w.1;
      }
