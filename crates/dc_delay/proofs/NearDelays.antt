-- The measured delay of a clock, against the true one: over the ways down from the slave where those to the clock and to the
-- reference part.
use Rattle.std.specs.Prelude.{◌≡◌, ℕ, ◌+◌, ◌-◌, ◌*◌, ◌/◌, ◌<◌, ◌≤◌, Bool, true, false, ◌||◌, nat_eq, if◌then◌else◌, Option, Some, None, List, length, slice_index}
use Rattle.std.specs.List.{All}
use Rattle.std.proofs.Common.{arith, rules, refl, sym, ap, ◌∙◌, ◌⊎◌, inl, inr}
use Rattle.std.proofs.lemmas.Bool.{cases_lt, false≢true, eqb-true}
use Rattle.std.proofs.lemmas.Bool.Decides.{nat_tests}
use Rattle.cable_tree.specs.declared.port.Above.{Above}
use Rattle.cable_tree.specs.declared.port.Port.{Port}
use Rattle.cable_tree.specs.Row.{Row, IsRow}
use Rattle.cable_tree.specs.Segment.{IsTree}
use Rattle.cable_tree.specs.FrameOrder.{order}
use Rattle.cable_tree.specs.PathSums.{arrive, round_trip}
use Rattle.cable_tree.proofs.Exported.{order_pair, place_of}
use Rattle.dc_bounds.specs.DelayBound.{delay_bound}
use Rattle.dc_bounds.specs.TickBounds.{tick_gap}
use Rattle.dc_bounds.specs.TickFacts.{IsNear}
use Rattle.dc_bounds.specs.Weight.{measuring_parent, is_over, is_over_step, meeting_step, meeting, reference, weight, weight_below, weight_to}
use Rattle.dc_bounds.specs.Measurable.{unmeasurable}
use Rattle.dc_bounds.proofs.Exported.{reference_within, reference_timed, reference_first, weightless, parent_measures}
use Rattle.dc_delay.specs.MeasuredDelay.{ahead, back, delay, delay_from}
use Rattle.dc_delay.specs.LatchLaw.{AreAllLatched}
use Rattle.dc_delay.proofs.Recursions.{climb_measuring, over_is, meeting_is}
use Rattle.dc_delay.proofs.AddedUp.{weighed}
use Rattle.dc_delay.proofs.Order.{has_parent, measurable_after, are_measurable}

-- one halving at the end, and 0 where the difference is negative
halved : (up down d v : ℕ) → IsNear (1000000 * up) (1000000 * down + 2 * d) v → IsNear (1000000 * ((up - down) / 2)) d ((v + 1000000) / 2)
halved up down d v n =
    elim (cases_lt up down) [
      | inl lt ↦
          let none : (up - down) / 2 ≡ 0 = omega arith in
          record { above = omega (arith, n.above, n.below, none); below = omega (arith, n.above, n.below, none) }
      | inr le ↦ record { above = omega (arith, n.above, n.below); below = omega (arith, n.above, n.below) }
    ]

-- from two ways down from one slave
two_ways : (up down up' down' at p q a a' u v g : ℕ)
    → IsNear (1000000 * (up + q) + 2 * at) (1000000 * (down + p) + 2 * a) (u * g)
    → IsNear (1000000 * (up' + q) + 2 * at) (1000000 * (down' + p) + 2 * a') (v * g)
    → a' ≤ a → IsNear (1000000 * (up + down')) (1000000 * (down + up') + 2 * (a - a')) ((u + v) * g)
two_ways up down up' down' at p q a a' u v g n m order =
    let w : (u + v) * g ≡ u * g + v * g = omega arith in
    record { above = omega (arith, n.above, m.below, w); below = omega (arith, n.below, m.above, w) }

-- the reference itself
pub reference_alone : (rows : List Row) (measures timed : ℕ → Bool) (q : ℕ) → reference rows timed ≡ Some q
    → (weight rows measures timed q ≡ 0) × ((laps : ℕ → Port → ℕ) → delay rows measures timed laps (order rows) q ≡ 0)
reference_alone rows measures timed q first = (
  (weightless rows measures timed q q first).1 refl,
  λ laps. ap (λ o. delay_from rows measures laps o q) first ∙ omega arith,
)

module _ (rows : List Row) (tree : IsTree rows) (slaves : All IsRow rows) (measures : ℕ → Bool) (none : unmeasurable rows measures (order rows) ≡ None) where
  abbrev over : ℕ → ℕ → Bool
  over c r = is_over rows measures c r

  over_self : (r : ℕ) → r < length rows → over r r ≡ true
  over_self r within = let here : nat_eq r r ≡ true = search (rules, nat_tests) in over_is rows tree measures r r within ∙ rw here refl

  over_higher : (c r : ℕ) (a : Above) → r < length rows → measuring_parent rows measures r ≡ Some a → over c a.row ≡ true → over c r ≡ true
  over_higher c r a within up higher = over_is rows tree measures c r within ∙ ap (λ o. nat_eq r c || is_over_step (over c) o) up ∙ ap (λ b. nat_eq r c || b) higher ∙ or_true (nat_eq r c)
    where
      or_true : (b : Bool) → (b || true) ≡ true
      or_true true = refl
      or_true false = refl

  -- of two slaves one arrives first
  apart : (q r : ℕ) → q < length rows → r < length rows → nat_eq r q ≡ false → (arrive rows q < arrive rows r) ⊎ (arrive rows r < arrive rows q)
  apart q r q_within r_within other =
      let i = place_of rows tree q q_within in
      let j = place_of rows tree r r_within in
      let ei = ap (arrive rows) i.2 in
      let ej = ap (arrive rows) j.2 in
      elim (cases_lt i.0 j.0) [
        | inl lt ↦ inl (let rise = order_pair rows tree slaves i.0 j.0 lt j.1 in omega (arith, rise, ei, ej))
        | inr le ↦ elim (cases_lt j.0 i.0) [
          | inl gt ↦ inr (let rise = order_pair rows tree slaves j.0 i.0 gt i.1 in omega (arith, rise, ei, ej))
          | inr ge ↦ absurd (differ q r other (sym j.2 ∙ ap (slice_index (order rows)) (let same : j.0 ≡ i.0 = omega arith in same) ∙ i.2))
        ]
      ]
    where
      differ : (q r : ℕ) → nat_eq r q ≡ false → r ≡ q → ⊥
      differ q r other same = let here : nat_eq r q ≡ true = search (rules, nat_tests) in false≢true (sym other ∙ here)

  -- a measuring slave that has no measuring parent is over all of them
  abbrev IsUnder : ℕ → ℕ → Type 0
  IsUnder c r = measures r ≡ true → over c r ≡ true

  under_at : (c : ℕ) → c < length rows → measures c ≡ true → measuring_parent rows measures c ≡ None
      → (r : ℕ) → r < length rows → ((a : Above) → measuring_parent rows measures r ≡ Some a → IsUnder c a.row) → (same : Bool) → nat_eq r c ≡ same → IsUnder c r
  under_at c c_within c_measures top r within higher true same = λ measured. over_is rows tree measures c r within ∙ ap (λ b. b || is_over_step (over c) (measuring_parent rows measures r)) same
  under_at c c_within c_measures top r within higher false other = λ measured.
      elim (apart c r c_within within other) [
        | inl first ↦
            let up = has_parent rows tree measures r within (measurable_after rows tree measures slaves none c r c_within within c_measures measured first) in
            over_higher c r up.0 within up.1 (higher up.0 up.1 (parent_measures rows measures (length rows) r up.0 up.1))
        | inr later ↦
            let up = has_parent rows tree measures c c_within (measurable_after rows tree measures slaves none r c within c_within measured c_measures later) in
            absurd (let clash = sym top ∙ up.1 in cc)
      ]

  under : (c : ℕ) → c < length rows → measures c ≡ true → measuring_parent rows measures c ≡ None → (r : ℕ) → r < length rows → IsUnder c r
  under c c_within c_measures top = climb_measuring rows tree measures (IsUnder c) (λ r within higher. under_at c c_within c_measures top r within higher (nat_eq r c) refl)

  module _ (q : ℕ) (q_within : q < length rows) (q_measures : measures q ≡ true) where
    abbrev meet : ℕ → ℕ
    meet r = meeting rows measures q r

    -- the ways to two measuring slaves meet in one that is over both
    abbrev Meets : ℕ → Type 0
    Meets r = measures r ≡ true → (over (meet r) q ≡ true) × (over (meet r) r ≡ true)

    meets_at : (r : ℕ) → r < length rows → (o : Option Above) → measuring_parent rows measures r ≡ o → ((a : Above) → measuring_parent rows measures r ≡ Some a → Meets a.row)
        → (b : Bool) → over r q ≡ b → Meets r
    meets_at r within o up higher true e = λ measured.
        let here : meet r ≡ r = meeting_is rows tree measures q r within ∙ ap (λ b. if b then r else meeting_step r meet (measuring_parent rows measures r)) e in
        (ap (λ c. over c q) here ∙ e, ap (λ c. over c r) here ∙ over_self r within)
    meets_at r within None up higher false e = λ measured. absurd (false≢true (sym e ∙ under r within measured up q q_within q_measures))
    meets_at r within (Some a) up higher false e = λ measured.
        let there : meet r ≡ meet a.row = meeting_is rows tree measures q r within ∙ ap (λ b. if b then r else meeting_step r meet (measuring_parent rows measures r)) e ∙ ap (meeting_step r meet) up in
        let above = higher a up (parent_measures rows measures (length rows) r a up) in
        (ap (λ c. over c q) there ∙ above.0, ap (λ c. over c r) there ∙ over_higher (meet a.row) r a within up above.1)

    meets : (r : ℕ) → r < length rows → Meets r
    meets = climb_measuring rows tree measures Meets (λ r within higher. meets_at r within (measuring_parent rows measures r) refl higher (over r q) refl)

  module _ (timed : ℕ → Bool) (clocks : (r : ℕ) → r < length rows → timed r ≡ true → measures r ≡ true) (q : ℕ) (first : reference rows timed ≡ Some q) where
    within_tree : q < length rows
    within_tree = reference_within rows tree slaves timed q first

    q_measures : measures q ≡ true
    q_measures = clocks q within_tree (reference_timed rows tree slaves timed q first)

    weight_is : (r : ℕ) → weight rows measures timed r ≡ weight_below rows measures (meeting rows measures q r) r + weight_below rows measures (meeting rows measures q r) q
    weight_is r = ap (weight_to rows measures r) first

    module _ (laps : ℕ → Port → ℕ) (g : ℕ) (latched : AreAllLatched rows measures g laps) where
      abbrev measured : ℕ → ℕ
      measured r = delay rows measures timed laps (order rows) r

      measured_is : (r : ℕ) → measured r ≡ ((ahead rows measures laps r + back rows measures laps q) - (back rows measures laps r + ahead rows measures laps q)) / 2
      measured_is r = ap (λ o. delay_from rows measures laps o r) first

      pub near : (r : ℕ) → r < length rows → timed r ≡ true → IsNear (1000000 * measured r) (arrive rows r - arrive rows q) ((weight rows measures timed r * g + 1000000) / 2)
      near r within is =
          let r_measures = clocks r within is in
          let c = meeting rows measures q r in
          let both = meets q within_tree q_measures r within r_measures in
          let possible = are_measurable rows tree measures slaves none in
          let n = weighed rows tree measures laps g latched possible c r within r_measures both.1 in
          let m = weighed rows tree measures laps g latched possible c q within_tree q_measures both.0 in
          let apart = two_ways (ahead rows measures laps r) (back rows measures laps r) (ahead rows measures laps q) (back rows measures laps q) (arrive rows c) (ahead rows measures laps c) (back rows measures laps c)
          (arrive rows r) (arrive rows q) (weight_below rows measures c r) (weight_below rows measures c q) g n m (reference_first rows tree slaves timed q first r within is) in
          let half = halved (ahead rows measures laps r + back rows measures laps q) (back rows measures laps r + ahead rows measures laps q) (arrive rows r - arrive rows q)
          ((weight_below rows measures c r + weight_below rows measures c q) * g) apart in
          moved _ _ _ _ _ (ap (λ d. 1000000 * d) (measured_is r)) (ap (λ w. (w * g + 1000000) / 2) (weight_is r)) half
        where
          moved : (a b d v w : ℕ) → a ≡ b → v ≡ w → IsNear b d w → IsNear a d v
          moved a b d v w p e n = record { above = omega (arith, n.above); below = omega (arith, n.below) }

      exact : (r : ℕ) → weight rows measures timed r ≡ 0 → IsNear (1000000 * measured r) (arrive rows r - arrive rows q) 0
      exact r light =
          let same : r ≡ q = (weightless rows measures timed q r first).0 light in
          let a = ap (ahead rows measures laps) same in
          let b = ap (back rows measures laps) same in
          let t = ap (arrive rows) same in
          let d = measured_is r in
          let zero : measured r ≡ 0 = omega (arith, d, a, b) in
          record { above = omega (arith, zero, t); below = omega (arith, zero, t) }

    -- with G of the round trip it is the delay bound
    pub bounded : (laps : ℕ → Port → ℕ) (ppm : ℕ) → AreAllLatched rows measures (tick_gap ppm (round_trip rows)) laps → (r : ℕ) → r < length rows → timed r ≡ true
        → IsNear (1000000 * delay rows measures timed laps (order rows) r) (arrive rows r - arrive rows q) (delay_bound ppm (weight rows measures timed r) (round_trip rows))
    bounded laps ppm latched r within is = by (nat_eq (weight rows measures timed r) 0) refl
      where
        by : (b : Bool) → nat_eq (weight rows measures timed r) 0 ≡ b → IsNear (1000000 * delay rows measures timed laps (order rows) r) (arrive rows r - arrive rows q) (if b then 0 else (weight rows measures timed r * tick_gap ppm (round_trip rows) + 1000000) / 2)
        by true e = exact laps (tick_gap ppm (round_trip rows)) latched r (eqb-true (weight rows measures timed r) 0 e)
        by false e = near laps (tick_gap ppm (round_trip rows)) latched r within is
