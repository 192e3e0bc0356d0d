-- From what a shape tells by positions to the rows of its tree.
use Rattle.std.specs.Prelude.{◌≡◌, ℕ, ◌+◌, ◌-◌, ◌*◌, ◌/◌, ◌<◌, ◌≤◌, ◌^◌, Bool, true, Some, None, List, length, slice_index, slice_index_or}
use Rattle.std.specs.List.{All, find}
use Rattle.std.specs.Option.{option_map}
use Rattle.std.proofs.Common.{arith, sym, ap, ◌∙◌, subst}
use Rattle.std.proofs.lemmas.List.{length-map}
use Rattle.cable_tree.specs.declared.port.Port.{Port}
use Rattle.cable_tree.specs.Row.{Row, IsRow}
use Rattle.cable_tree.specs.Segment.{IsTree}
use Rattle.cable_tree.specs.FrameOrder.{order}
use Rattle.cable_tree.specs.PathSums.{arrive, round_trip}
use Rattle.cable_tree.specs.Positions.{IsByPosition, places, placed, position_of, renumbered}
use Rattle.cable_tree.proofs.Exported.{none_some, order_whole, order_within, are_slaves, arrive_here}
use Rattle.cable_tree.proofs.Exported.{is_tree, order_here, places_kept}
use Rattle.cable_tree.proofs.Exported.{round_trip_here, whole as same_whole, position_at, row_within}
use Rattle.dc_bounds.specs.DelayBound.{delay_bound}
use Rattle.dc_bounds.specs.Measurable.{unmeasurable}
use Rattle.dc_bounds.specs.TickBounds.{tick_gap}
use Rattle.dc_bounds.specs.TickFacts.{IsNear}
use Rattle.dc_bounds.specs.Weight.{reference, weight}
use Rattle.dc_bounds.proofs.Exported.{find_low, unmeasurable_here, reference_here, weight_here}
use Rattle.dc_delay.specs.declared.error.DelayError.{DelayError}
use Rattle.dc_delay.specs.declared.error.DelayError.TheVariants.{NoReference, Unmeasurable}
use Rattle.dc_delay.specs.LatchLaw.{AreOfClock, AreLatched, AreAllLatched}
use Rattle.dc_delay.specs.MeasuredDelay.{delay, delay_list}
use Rattle.dc_delay.specs.Refusals.{IsRefused, first_timed, first_unmeasurable}
use Rattle.dc_delay.specs.ShapeRows.{hanging, kinds_of, positions, rows_of}
use Rattle.dc_delay.proofs.Alike.{shape_delay, shape_unmeasurable}
use Rattle.dc_delay.proofs.Listing.{timed_entry}
use Rattle.dc_delay.proofs.NearDelays.{bounded, near}
use Rattle.dc_delay.proofs.Readings.{readings_are_latched}

-- near the same numbers, told otherwise
moved : (a a' b b' c c' v v' : ℕ) → a' ≡ a → b' ≡ b → c' ≡ c → v' ≡ v → IsNear (1000000 * a) (b - c) v → IsNear (1000000 * a') (b' - c') v'
moved a a' b b' c c' v v' p q r s n = record { above = omega (arith, n.above, p, q, r, s); below = omega (arith, n.below, p, q, r, s) }

module _ (rows : List Row) (tree : IsTree rows) (slaves : All IsRow rows) where
  abbrev there : List Row
  there = renumbered rows

  abbrev pos : ℕ → ℕ
  pos = position_of rows

  -- the positions of the shape are the frame order of the rows by position
  count : length (places rows) ≡ length rows
  count = length-map (order rows) (placed rows) ∙ order_whole rows tree slaves

  in_order : positions (length (places rows)) ≡ order there
  in_order = ap positions count ∙ sym (order_here rows tree slaves)

  pub reference_at : (timed clocks : ℕ → Bool) → IsByPosition rows timed clocks → first_timed (places rows) clocks ≡ option_map pos (reference rows timed)
  reference_at timed clocks alike = ap (find clocks) in_order ∙ reference_here rows tree slaves timed clocks alike

  pub unmeasurable_at : (measures m : ℕ → Bool) → IsByPosition rows measures m → first_unmeasurable (places rows) m ≡ option_map pos (unmeasurable rows measures (order rows))
  unmeasurable_at measures m alike =
      ap (λ ps. unmeasurable (hanging ps) m (positions (length (places rows)))) (sym (places_kept rows))
      ∙ shape_unmeasurable there m (positions (length (places rows)))
      ∙ ap (unmeasurable there m) in_order
      ∙ unmeasurable_here rows tree slaves measures m alike

  pub accepted : (measures m : ℕ → Bool) → IsByPosition rows measures m → (timed t : ℕ → Bool) → IsByPosition rows timed t
      → (first : ℕ) → reference rows timed ≡ Some first → unmeasurable rows measures (order rows) ≡ None
      → (e : DelayError) → IsRefused (places rows) m t e → ⊥
  accepted measures m alike timed t clocks first is_first none NoReference h =
      none_some (pos first) (sym h ∙ reference_at timed t clocks ∙ ap (option_map pos) is_first)
  accepted measures m alike timed t clocks first is_first none (Unmeasurable r) h =
      none_some r (sym (unmeasurable_at measures m alike ∙ ap (option_map pos) none) ∙ h.1)

  module _ (measures m : ℕ → Bool) (alike : IsByPosition rows measures m) (timed t : ℕ → Bool) (clocks : IsByPosition rows timed t)
      (none : unmeasurable rows measures (order rows) ≡ None) (measured : (r : ℕ) → r < length rows → timed r ≡ true → measures r ≡ true)
      (first : ℕ) (is_first : reference rows timed ≡ Some first) (laps : ℕ → Port → ℕ) where
    whole : length there ≡ length rows
    whole = same_whole rows tree slaves

    -- the row at a position
    abbrev row : ℕ → ℕ
    row = slice_index (order rows)

    in_reach : (p : ℕ) → p < length there → p < length (order rows)
    in_reach p low = let n = order_whole rows tree slaves in let k = whole in omega (arith, low, k, n)

    row_low : (p : ℕ) → p < length there → row p < length rows
    row_low p low = order_within rows tree slaves p (in_reach p low)

    back : (p : ℕ) → p < length there → pos (row p) ≡ p
    back p low = position_at rows tree slaves p (in_reach p low)

    there_low : (r : ℕ) → r < length rows → pos r < length there
    there_low r within = let low = row_within rows tree slaves r within in let k = whole in omega (arith, low, k)

    clock_measures : (p : ℕ) → p < length there → t p ≡ true → m p ≡ true
    clock_measures p low timed_there =
        ap m (sym (back p low)) ∙ alike (row p) (row_low p low)
        ∙ measured (row p) (row_low p low) (sym (clocks (row p) (row_low p low)) ∙ ap t (back p low) ∙ timed_there)

    -- what is latched at each row is so at each position
    latched : (g : ℕ) → ((r : ℕ) → r < length rows → measures r ≡ true → AreLatched there g (pos r) laps) → AreAllLatched there m g laps
    latched g each p low measures_there =
        let q = row p in
        let near = each q (row_low p low) (sym (alike q (row_low p low)) ∙ ap m (back p low) ∙ measures_there) in
        subst (λ x. AreLatched there g x laps) (back p low) near

    abbrev shape : List Row
    shape = rows_of (places rows) (kinds_of there)

    abbrev told : ℕ → ℕ
    told r = delay shape m t laps (positions (length (places rows))) (pos r)

    told_is : (r : ℕ) → told r ≡ delay there m t laps (order there) (pos r)
    told_is r =
        ap (λ ps. delay (rows_of ps (kinds_of there)) m t laps (positions (length (places rows))) (pos r)) (sym (places_kept rows))
        ∙ shape_delay there m t laps (positions (length (places rows))) (pos r)
        ∙ ap (λ o. delay there m t laps o (pos r)) in_order

    -- a delay that is near by the rows in frame order is near by the rows of the tree
    entered : (r v v' : ℕ) → r < length rows → timed r ≡ true → v' ≡ v
        → IsNear (1000000 * delay there m t laps (order there) (pos r)) (arrive there (pos r) - arrive there (pos first)) v
        → (d : ℕ) × (slice_index_or (delay_list shape m t laps (positions (length (places rows)))) (pos r) None ≡ Some d) × IsNear (1000000 * d) (arrive rows r - arrive rows first) v'
    entered r v v' within is same n =
        let first_low : first < length rows = find_low rows tree slaves timed (order rows) (order_within rows tree slaves) first is_first in
        let low : pos r < length (places rows) = (let k = count in let l = row_within rows tree slaves r within in omega (arith, k, l)) in (
          told r,
          timed_entry shape m t laps (length (places rows)) (pos r) low (clocks r within ∙ is),
          moved (delay there m t laps (order there) (pos r)) (told r)
              (arrive there (pos r)) (arrive rows r) (arrive there (pos first)) (arrive rows first) v v'
              (told_is r) (sym (arrive_here rows tree slaves r within)) (sym (arrive_here rows tree slaves first first_low)) same n,
        )

    none_there : unmeasurable there m (order there) ≡ None
    none_there = unmeasurable_here rows tree slaves measures m alike ∙ ap (option_map pos) none

    first_there : reference there t ≡ Some (pos first)
    first_there = reference_here rows tree slaves timed t clocks ∙ ap (option_map pos) is_first

    weight_same : (r : ℕ) → r < length rows → weight there m t (pos r) ≡ weight rows measures timed r
    weight_same r within = weight_here rows tree slaves measures m timed t alike clocks r within

    pub near_by_latches : (g : ℕ) → ((r : ℕ) → r < length rows → measures r ≡ true → AreLatched there g (pos r) laps)
        → (r : ℕ) → r < length rows → timed r ≡ true
        → (d : ℕ) × (slice_index_or (delay_list shape m t laps (positions (length (places rows)))) (pos r) None ≡ Some d)
        × IsNear (1000000 * d) (arrive rows r - arrive rows first) ((weight rows measures timed r * g + 1000000) / 2)
    near_by_latches g each r within is =
        entered r ((weight there m t (pos r) * g + 1000000) / 2) ((weight rows measures timed r * g + 1000000) / 2) within is
        (ap (λ w. (w * g + 1000000) / 2) (sym (weight_same r within)))
        (near there (is_tree rows tree slaves) (are_slaves rows tree slaves) m none_there t clock_measures (pos first) first_there laps g (latched g each) (pos r)
        (there_low r within) (clocks r within ∙ is))

    module _ (ppm : ℕ) (small : ppm ≤ 100) (short : round_trip rows < 10 ^ 13)
        (readings : (r : ℕ) → r < length rows → measures r ≡ true → AreOfClock there ppm (pos r) laps) where
      -- readings of clocks are latched within the gap of their ticks
      of_clocks : (r : ℕ) → r < length rows → measures r ≡ true → AreLatched there (tick_gap ppm (round_trip there)) (pos r) laps
      of_clocks r within measuring =
          let h = readings r within measuring in
          let trip = round_trip_here rows tree slaves in
          readings_are_latched there h.osc ppm h.stood h.time (pos r) laps (is_tree rows tree slaves) (are_slaves rows tree slaves)
          (there_low r within) h.runs small h.steady (omega (arith, short, trip)) h.readings

      pub near_at : (r : ℕ) → r < length rows → timed r ≡ true
          → (d : ℕ) × (slice_index_or (delay_list shape m t laps (positions (length (places rows)))) (pos r) None ≡ Some d)
          × IsNear (1000000 * d) (arrive rows r - arrive rows first) (delay_bound ppm (weight rows measures timed r) (round_trip rows))
      near_at r within is =
          entered r (delay_bound ppm (weight there m t (pos r)) (round_trip there)) (delay_bound ppm (weight rows measures timed r) (round_trip rows)) within is
          (ap (λ w. delay_bound ppm w (round_trip rows)) (sym (weight_same r within)) ∙ ap (delay_bound ppm (weight there m t (pos r))) (sym (round_trip_here rows tree slaves)))
          (bounded there (is_tree rows tree slaves) (are_slaves rows tree slaves) m none_there t clock_measures (pos first) first_there laps ppm
          (latched (tick_gap ppm (round_trip there)) of_clocks) (pos r) (there_low r within) (clocks r within ∙ is))
