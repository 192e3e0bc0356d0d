-- The local time without wrap of a clock that is brought resets alone: 10 ns a tick.
use Rattle.std.proofs.Common.{◌≡◌, ℕ, ◌+◌, ◌*◌, ◌≤◌, List, [], ◌∷◌, ◌++◌, refl, sym, ap, subst, ◌∙◌, arith, inl, inr}
use Rattle.std.specs.Prelude.{pos, if◌then◌else◌}
use Rattle.std.specs.List.{AllByRecursion}
use Rattle.std.proofs.lemmas.Bool.{cases_lt}
use Rattle.frame_pass.specs.Rest.{AreResets, IsReset}
use Rattle.local_clock.specs.LocalTime.{local_time, whole_advanced, whole_clock_at}
use Rattle.local_clock.specs.Reading.{AreInOrder, Clock, Event, Happening, after_event, received, reset, steering_of, ticks_to}
use Rattle.local_clock.specs.StepRule.{Steering, elapsed, steered}
use Rattle.local_clock.proofs.Exported.{event_instant, is_after, is_until, rests, whole_stands}
use Rattle.osc_clock.specs.Ticks.{IsRunning, Oscillator, ticks}
use Rattle.osc_clock.proofs.Exported.{ticks_rise}

-- events after t are none yet
pub whole_not_yet : (t : ℕ) (c : Clock) (before later : List Happening) → AreInOrder (t + 1) later → whole_clock_at c (before ++ later) t ≡ whole_clock_at c before t
whole_not_yet t c [] [] from = refl
whole_not_yet t c [] (h ∷ rest) from = let e = is_after h.instant t (omega (arith, from.0)) in rw e refl
whole_not_yet t c (h ∷ rest) later from = elim (cases_lt t h.instant) [
  | inr until ↦ let e = is_until h.instant t until in rw e (whole_not_yet t (after_event h.event (whole_advanced h.instant c)) rest later from)
  | inl after ↦ let e = is_after h.instant t after in rw e refl
]

-- of events in order the later ones are in order, from a time on that none of them is before
pub order_later : (x y : ℕ) (before later : List Happening) → AreInOrder x (before ++ later) → AllByRecursion (λ (h : Happening). y ≤ h.instant) later → AreInOrder y later
order_later x y [] [] order late = tt
order_later x y [] (h ∷ rest) order late = (late.0, order.1)
order_later x y (h ∷ before) later order late = order_later h.instant y before later order.1 late

module _ (x : ℕ) (o : Oscillator) (run : IsRunning o) where
  record CountsWhole (c : Clock) : Type 0 where
    osc : c.osc ≡ o
    left : c.left ≡ pos 0
    reading : c.reading ≡ x + 10 * ticks o c.instant

  ns_rest : (g k : ℕ) (s : Steering) → s.left ≡ pos 0 → elapsed g k s ≡ 10 * k
  ns_rest g k s e = ap (λ l. elapsed g k (record { left = l; count = s.count })) e ∙ (rests g k s.count).1

  left_rest : (g k : ℕ) (s : Steering) → s.left ≡ pos 0 → (steered g k s).left ≡ pos 0
  left_rest g k s e = ap (λ l. (steered g k (record { left = l; count = s.count })).left) e ∙ ap (λ (z : Steering). z.left) (rests g k s.count).0

  in_sum : (t : ℕ) (c : Clock) → c.instant ≤ t → c.osc ≡ o → x + 10 * ticks o c.instant + 10 * ticks_to c t ≡ x + 10 * ticks o t
  in_sum t c late is = let rise = ticks_rise o c.instant t run late in rw is (omega (arith, rise))

  whole_on : (t : ℕ) (c : Clock) → c.instant ≤ t → CountsWhole c → CountsWhole (whole_advanced t c)
  whole_on t c late h = record {
    osc = h.osc;
    left = left_rest c.g (ticks_to c t) (steering_of c) h.left;
    reading = ap (λ n. c.reading + n) (ns_rest c.g (ticks_to c t) (steering_of c) h.left) ∙ ap (λ n. n + 10 * ticks_to c t) h.reading ∙ in_sum t c late h.osc;
  }

  whole_event : (v : Event) (c : Clock) → IsReset v → CountsWhole c → CountsWhole (after_event v c)
  whole_event (received d) c a h = absurd a
  whole_event (reset g) c a h = record { osc = h.osc; left = refl; reading = h.reading }

  whole_at : (t : ℕ) (c : Clock) (es : List Happening) → c.instant ≤ t → AreInOrder c.instant es → AreResets es → CountsWhole c → CountsWhole (whole_clock_at c es t)
  whole_at t c [] late order resets h = whole_on t c late h
  whole_at t c (e ∷ es) late order resets h =
      let d = after_event e.event (whole_advanced e.instant c) in
      let now : d.instant ≡ e.instant = event_instant e.event (whole_advanced e.instant c) in
      elim (cases_lt t e.instant) [
        | inl before ↦ subst (λ b. CountsWhole (if b then whole_clock_at d es t else whole_advanced t c)) (sym (is_after e.instant t before)) (whole_on t c late h)
        | inr past ↦
            subst (λ b. CountsWhole (if b then whole_clock_at d es t else whole_advanced t c)) (sym (is_until e.instant t past))
            (whole_at t d es (omega (arith, now, past)) (subst (λ i. AreInOrder i es) (sym now) order.1) resets.1
            (whole_event e.event (whole_advanced e.instant c) resets.0 (whole_on e.instant c order.0 h)))
      ]

  -- from true time 0 on
  pub whole_rests : (t : ℕ) (c : Clock) (es : List Happening) → c.osc ≡ o → c.left ≡ pos 0 → c.instant ≡ 0 → c.reading ≡ x → AreInOrder 0 es → AreResets es → local_time c es t ≡ x + 10 * ticks o t
  whole_rests t c es osc left began reading order resets =
      let none : ticks o c.instant ≡ 0 = ap (ticks o) began in
      let counts : CountsWhole c = record { osc = osc; left = left; reading = omega (arith, reading, none) } in
      let h = whole_at t c es (omega (arith, began)) (subst (λ i. AreInOrder i es) (sym began) order) resets counts in
      h.reading ∙ ap (λ i. x + 10 * ticks o i) (whole_stands t c es).0
