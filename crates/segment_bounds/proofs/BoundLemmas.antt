-- The sizes of the bounds of a legal segment, and where they are 0.
use Rattle.std.specs.Prelude.{◌≡◌, ◌↔◌, ℕ, ◌+◌, ◌*◌, ◌<◌, ◌≤◌, Bool, true, false, nat_eq, Option, Some, None, is_none, unwrap_or, List, length}
use Rattle.std.proofs.Common.{arith, refl, sym, ◌∙◌}
use Rattle.std.proofs.lemmas.Bool.Decides.{nat_tests}
use Rattle.cable_tree.specs.PathSums.{arrive, round_trip}
use Rattle.cable_tree.proofs.Exported.{inside}
use Rattle.dc_bounds.specs.LockNumbers.{period_fs}
use Rattle.dc_bounds.specs.TickBounds.{tick_gap}
use Rattle.dc_bounds.specs.CopyBound.{copy_bound}
use Rattle.dc_bounds.proofs.Exported.{reference_first, quarter, weight_few, boundless, weightless}
use Rattle.segment_file.specs.Faults.{Fault, no_reference, first_of, fault_if, clock_fault}
use Rattle.segment_file.specs.Segment.{RowValue, SegmentValue, tree_rows, measures_at, clock_at, reference_row}
use Rattle.segment_file.specs.Legal.{IsLegal}
use Rattle.segment_file.proofs.Exported.{faultless, legal_round_trip, rows_many}
use Rattle.segment_bounds.specs.Bounds.{reference_row_of, weight_at, delay_bound_at, wire_delay_at, copy_bound_at}

pub few_weights : (s : SegmentValue) (r : ℕ) → IsLegal s → r < length s.rows → weight_at s r ≤ 1024
few_weights s r legal low = weight_few (tree_rows s.rows) (measures_at s.rows) (clock_at s.rows) r legal.tree (omega (arith, rows_many s))

short_delay : (s : SegmentValue) (r : ℕ) → IsLegal s → r < length s.rows → wire_delay_at s r ≤ round_trip (tree_rows s.rows)
unfolding wire_delay_at
short_delay s r legal low = omega (arith, inside (tree_rows s.rows) legal.tree.tree legal.tree.slaves r (omega (arith, rows_many s)))

-- the copy bound of a clock is at most a quarter of the frame period
pub small_copy_bound : (s : SegmentValue) (r : ℕ) → IsLegal s → r < length s.rows
    → 4 * copy_bound s.head.ppm s.head.frame_ns s.head.loss_run (delay_bound_at s r) (wire_delay_at s r) ≤ period_fs s.head.frame_ns
unfolding delay_bound_at
small_copy_bound s r legal low =
    omega (
      arith,
      quarter s.head.ppm s.head.frame_ns s.head.loss_run (weight_at s r) (round_trip (tree_rows s.rows)) (wire_delay_at s r) 0 legal.head.ppm legal.head.frame_ns.0 legal.head.loss_run
          (few_weights s r legal low) (legal_round_trip s legal) (short_delay s r legal low) (omega arith),
    )

-- with the drift over many periods
pub quarter_of_period : (s : SegmentValue) (r l : ℕ) → IsLegal s → r < length s.rows → l ≤ 784 * period_fs s.head.frame_ns
    → 4 * (tick_gap s.head.ppm l + copy_bound_at s r) ≤ period_fs s.head.frame_ns
unfolding copy_bound_at delay_bound_at
quarter_of_period s r l legal low short = by (nat_eq r (reference_row_of s)) refl
  where
    whole : 4 * (tick_gap s.head.ppm l + copy_bound s.head.ppm s.head.frame_ns s.head.loss_run (delay_bound_at s r) (wire_delay_at s r)) ≤ period_fs s.head.frame_ns
    whole =
        quarter s.head.ppm s.head.frame_ns s.head.loss_run (weight_at s r) (round_trip (tree_rows s.rows)) (wire_delay_at s r) l legal.head.ppm legal.head.frame_ns.0 legal.head.loss_run
        (few_weights s r legal low) (legal_round_trip s legal) (short_delay s r legal low) short

    by : (here : Bool) → nat_eq r (reference_row_of s) ≡ here → 4 * (tick_gap s.head.ppm l + copy_bound_at s r) ≤ period_fs s.head.frame_ns
    by true e = rw e (omega (arith, whole))
    by false e = rw e whole

-- the reference
found_by : (before : Option Fault) (o : Option ℕ) (later : Option Fault) → first_of before (first_of (fault_if no_reference (is_none o)) later) ≡ None → o ≡ Some (unwrap_or o 0)
found_by (Some fault) o later e = absurd cc
found_by None None later e = absurd cc
found_by None (Some q) later e = refl

clock_found : (ppm : ℕ) (rows : List RowValue) → clock_fault ppm rows ≡ None → reference_row rows ≡ Some (unwrap_or (reference_row rows) 0)
unfolding clock_fault
clock_found ppm rows e = found_by _ (reference_row rows) _ e

pub some_reference : (s : SegmentValue) → IsLegal s → reference_row s.rows ≡ Some (reference_row_of s)
some_reference s legal = clock_found s.head.ppm s.rows (faultless s legal.faultless).0

pub weightless_at : (s : SegmentValue) (r : ℕ) → IsLegal s → (weight_at s r ≡ 0) ↔ (r ≡ reference_row_of s)
weightless_at s r legal = weightless (tree_rows s.rows) (measures_at s.rows) (clock_at s.rows) (reference_row_of s) r (some_reference s legal)

pub boundless_at : (s : SegmentValue) (r : ℕ) → IsLegal s → (delay_bound_at s r ≡ 0) ↔ (r ≡ reference_row_of s)
unfolding delay_bound_at
boundless_at s r legal =
    boundless s.head.ppm (tree_rows s.rows) (measures_at s.rows) (clock_at s.rows) (reference_row_of s) r (round_trip (tree_rows s.rows)) (some_reference s legal)

some_copy_bound : (ppm frame_ns m bound delay : ℕ) → copy_bound ppm frame_ns m bound delay ≡ 0 → ⊥
some_copy_bound ppm frame_ns m bound delay e = omega (arith, e)

pub copyless_at : (s : SegmentValue) (r : ℕ) → (copy_bound_at s r ≡ 0) ↔ (r ≡ reference_row_of s)
unfolding copy_bound_at
copyless_at s r = by (nat_eq r (reference_row_of s)) refl
  where
    by : (here : Bool) → nat_eq r (reference_row_of s) ≡ here → (copy_bound_at s r ≡ 0) ↔ (r ≡ reference_row_of s)
    by true e = let same : r ≡ reference_row_of s = grind (arith, nat_tests, e) in (λ none. same, λ is. rw e refl)
    by false e =
        let other : ¬ (r ≡ reference_row_of s) = grind (arith, nat_tests, e) in (
          λ none.
              let bound : copy_bound s.head.ppm s.head.frame_ns s.head.loss_run (delay_bound_at s r) (wire_delay_at s r) ≡ 0 = sym (rw e refl) ∙ none in
              absurd (some_copy_bound s.head.ppm s.head.frame_ns s.head.loss_run (delay_bound_at s r) (wire_delay_at s r) bound),
          λ is. absurd (other is),
        )

pub no_delay_at : (s : SegmentValue) → wire_delay_at s (reference_row_of s) ≡ 0
unfolding wire_delay_at
no_delay_at s = omega arith

-- the arrival at the reference comes first, and the two lie within a round trip
pub delay_apart : (s : SegmentValue) (r : ℕ) → IsLegal s → r < length s.rows → clock_at s.rows r ≡ true
    → arrive (tree_rows s.rows) (reference_row_of s) + wire_delay_at s r ≡ arrive (tree_rows s.rows) r
unfolding wire_delay_at
delay_apart s r legal low clock =
    omega (arith, reference_first (tree_rows s.rows) legal.tree.tree legal.tree.slaves (clock_at s.rows) (reference_row_of s) (some_reference s legal) r (omega (arith, low, rows_many s)) clock)

pub delay_short : (s : SegmentValue) (r : ℕ) → IsLegal s → r < length s.rows → wire_delay_at s r < period_fs s.head.frame_ns
delay_short s r legal low = omega (arith, short_delay s r legal low, legal_round_trip s legal)
