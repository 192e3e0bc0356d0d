-- A clock that receives no difference goes on counting 10 ns a tick.
use Rattle.std.proofs.Common.{◌≡◌, ℕ, ◌+◌, ◌*◌, ◌%◌, ◌^◌, ◌≤◌, List, [], ◌∷◌, refl, sym, ap, ◌∙◌, arith, subst, inl, inr}
use Rattle.std.specs.Prelude.{pos, if◌then◌else◌}
use Rattle.std.proofs.lemmas.Bool.{cases_lt}
use Rattle.osc_clock.specs.Ticks.{Oscillator, IsRunning, ticks}
use Rattle.osc_clock.proofs.Exported.{ticks_rise}
use Rattle.local_clock.specs.StepRule.{Steering, elapsed, steered}
use Rattle.local_clock.specs.Reading.{AreInOrder, Clock, Event, Happening, advanced, after_event, clock_at, received, reset, steering_of, ticks_to}
use Rattle.local_clock.proofs.Exported.{is_after, is_until, rests}
use Rattle.wrap_time.proofs.Exported.{sum_of_cut}
use Rattle.frame_pass.specs.Rest.{AreResets, IsReset}

module _ (x w : ℕ) (o : Oscillator) (run : IsRunning o) where
  -- it counts 10 ns a tick from x on
  pub record Counts (c : Clock) : Type 0 where
    pub osc : c.osc ≡ o
    pub left : c.left ≡ pos 0
    pub reading : c.reading ≡ (x + 10 * ticks o c.instant) % 2 ^ w

  ns_rest : (g k : ℕ) (s : Steering) → s.left ≡ pos 0 → elapsed g k s ≡ 10 * k
  ns_rest g k s e = ap (λ l. elapsed g k (record { left = l; count = s.count })) e ∙ (rests g k s.count).1

  left_rest : (g k : ℕ) (s : Steering) → s.left ≡ pos 0 → (steered g k s).left ≡ pos 0
  left_rest g k s e = ap (λ l. (steered g k (record { left = l; count = s.count })).left) e ∙ ap (λ (z : Steering). z.left) (rests g k s.count).0

  in_sum : (t : ℕ) (c : Clock) → c.instant ≤ t → c.osc ≡ o → x + 10 * ticks o c.instant + 10 * ticks_to c t ≡ x + 10 * ticks o t
  in_sum t c late is = let rise = ticks_rise o c.instant t run late in rw is (omega (arith, rise))

  pub counts_on : (t : ℕ) (c : Clock) → c.instant ≤ t → Counts c → Counts (advanced w t c)
  counts_on t c late h = record {
    osc = h.osc;
    left = left_rest c.g (ticks_to c t) (steering_of c) h.left;
    reading = ap (λ n. (c.reading + n) % 2 ^ w) (ns_rest c.g (ticks_to c t) (steering_of c) h.left)
        ∙ ap (λ n. (n + 10 * ticks_to c t) % 2 ^ w) h.reading
        ∙ sum_of_cut w (x + 10 * ticks o c.instant) (10 * ticks_to c t)
        ∙ ap (λ n. n % 2 ^ w) (in_sum t c late h.osc);
  }

  counts_event : (v : Event) (c : Clock) → IsReset v → Counts c → Counts (after_event v c)
  counts_event (received d) c a h = absurd a
  counts_event (reset g) c a h = record { osc = h.osc; left = refl; reading = h.reading }

  same_instant : (v : Event) (c : Clock) → IsReset v → (after_event v c).instant ≡ c.instant
  same_instant (received d) c a = absurd a
  same_instant (reset g) c a = refl

  pub counts_at : (t : ℕ) (c : Clock) (es : List Happening) → c.instant ≤ t → AreInOrder c.instant es → AreResets es → Counts c → Counts (clock_at w c es t)
  counts_at t c [] late order resets h = counts_on t c late h
  counts_at t c (e ∷ es) late order resets h =
      let d = after_event e.event (advanced w e.instant c) in
      let now : d.instant ≡ e.instant = same_instant e.event (advanced w e.instant c) resets.0 in
      elim (cases_lt t e.instant) [
        | inl before ↦ subst (λ b. Counts (if b then clock_at w d es t else advanced w t c)) (sym (is_after e.instant t before)) (counts_on t c late h)
        | inr past ↦
            subst (λ b. Counts (if b then clock_at w d es t else advanced w t c)) (sym (is_until e.instant t past))
            (counts_at t d es (omega (arith, now, past)) (subst (λ i. AreInOrder i es) (sym now) order.1) resets.1
            (counts_event e.event (advanced w e.instant c) resets.0 (counts_on e.instant c order.0 h)))
      ]
