-- Told times are those of a clock with nothing left to correct, as the leaves want them: by the positions of the tree.
use Rattle.std.proofs.Common.{◌≡◌, ℕ, ◌+◌, ◌%◌, ◌^◌, ◌<◌, ◌≤◌, List, length, Option, Some, None, true, refl, sym, ap, ap₂, ◌∙◌, arith}
use Rattle.std.specs.Prelude.{pos, slice_index}
use Rattle.std.specs.Option.{option_map}
use Rattle.cable_tree.specs.declared.port.Port.{Port}
use Rattle.cable_tree.specs.FrameOrder.{child}
use Rattle.cable_tree.specs.Hops.{lap}
use Rattle.cable_tree.specs.PathSums.{arrive, port_time}
use Rattle.cable_tree.specs.Positions.{position_of, renumbered}
use Rattle.cable_tree.specs.Row.{Row}
use Rattle.cable_tree.proofs.Exported.{port_time_of, children, lap_here, order_at, row_within}
use Rattle.delay_law.proofs.Rest.{of_clock as of_clock_at_rest}
use Rattle.dc_bounds.specs.TickFacts.{IsWithin}
use Rattle.dc_delay.specs.declared.latch.Latch.{Latch}
use Rattle.dc_delay.specs.Latched.{lap_of, laps, latched}
use Rattle.dc_delay.specs.LatchLaw.{AreOfClock}
use Rattle.dc_topology.specs.Listed.{port_number}
use Rattle.esc_regs.specs.declared.clock_kind.ClockKind.{ClockKind}
use Rattle.esc_regs.specs.declared.clock_kind.ClockKind.TheVariants as kind
use Rattle.frame_pass.specs.SlaveState.{width}
use Rattle.local_clock.specs.Reading.{Clock, advanced}
use Rattle.osc_clock.specs.Ticks.{IsRunning}
use Rattle.segment_file.specs.Legal.{IsLegal}
use Rattle.segment_file.specs.Segment.{RowValue, SegmentValue, measures_at, oscillator, row_at, tree_rows}
use Rattle.segment_file.proofs.Exported.{rows_many}
use Rattle.esc_regs.specs.Kinds.{measures}
use Rattle.honest_slaves.proofs.Exported.{row_has}
use Rattle.delay_law.specs.Resting.{row_there, shown_at}
use Rattle.delay_law.specs.ToldTimes.{AreTold, TellsTimes}
use Rattle.delay_law.proofs.Places.{keeps_there}
use Rattle.delay_law.proofs.Resting.{Counts, counts_on}

wide : (k : ClockKind) → 32 ≤ width k
unfolding width
wide kind.None = omega arith
wide kind.R32 = omega arith
wide kind.C32 = omega arith
wide kind.C64 = omega arith

-- a clock that rests at an instant
abbrev clock_of : RowValue → ℕ → Clock
clock_of row t = record { osc = oscillator row; instant = t; reading = shown_at row t; left = pos 0; count = 0; g = 1 }

-- what it shows later
shown_later : (row : RowValue) (t l : ℕ) → IsRunning (oscillator row) → (advanced (width row.kind) (t + l) (clock_of row t)).reading ≡ shown_at row (t + l)
shown_later row t l running =
    let here : Counts row.start (width row.kind) (oscillator row) running (clock_of row t) = record { osc = refl; left = refl; reading = refl } in
    (counts_on row.start (width row.kind) (oscillator row) running (t + l) (clock_of row t) (omega arith) here).reading

some_child : (f : ℕ → ℕ) (o : Option ℕ) (k : ℕ) → option_map f o ≡ Some k → (j : ℕ) × (o ≡ Some j)
some_child f None k e = absurd (let z = e in cc)
some_child f (Some j) k e = (j, refl)

pub place_low : (s : SegmentValue) → IsLegal s → (r : ℕ) → r < length (tree_rows s.rows) → position_of (tree_rows s.rows) r < length s.rows
place_low s legal r low = let many = rows_many s in let within = row_within (tree_rows s.rows) legal.tree.tree legal.tree.slaves r low in omega (arith, many, within)

module _ (s : SegmentValue) (legal : IsLegal s) (sent : ℕ) (latches : List (Option Latch)) (told : AreTold s sent latches) where
  abbrev rows : List Row
  rows = tree_rows s.rows

  row_back : (r : ℕ) → r < length rows → row_at s (position_of rows r) ≡ r
  row_back r low = order_at rows legal.tree.tree legal.tree.slaves r low

  module _ (r : ℕ) (low : r < length rows) (does : measures_at s.rows r ≡ true) where
    abbrev q : ℕ
    q = position_of rows r

    abbrev row : RowValue
    row = row_there s q

    abbrev t : ℕ
    t = sent + arrive rows (row_at s q)

    there : measures_at s.rows (row_at s q) ≡ true
    there = ap (measures_at s.rows) (row_back r low) ∙ does

    keeps : IsRunning (oscillator row) × IsWithin s.head.ppm (oscillator row)
    keeps = keeps_there s legal q (place_low s legal r low) (row_has measures s legal q (place_low s legal r low) ∙ there)

    -- where the frame comes back
    back_at : (p : Port) (k : ℕ) → child (renumbered rows) q p ≡ Some k → port_time rows (row_at s q) p ≡ Some (arrive rows (row_at s q) + lap (renumbered rows) q p)
    back_at p k here =
        let c = some_child (position_of rows) (child rows r p) k (sym (children rows legal.tree.tree legal.tree.slaves r low p) ∙ here) in
        ap (λ x. port_time rows x p) (row_back r low) ∙ port_time_of rows r legal.tree.tree p c.0 c.1
        ∙ ap₂ (λ a l. Some (a + l)) (ap (arrive rows) (sym (row_back r low))) (sym (lap_here rows legal.tree.tree legal.tree.slaves r low p))

    word_by : (latch : Latch) → TellsTimes s q sent latch → (p : Port) (k : ℕ) → child (renumbered rows) q p ≡ Some k
        → latched (slice_index latch.ports (port_number p)) (slice_index latch.ports 0)
        ≡ latched ((advanced (width row.kind) (t + lap (renumbered rows) q p) (clock_of row t)).reading % 2 ^ 32) (shown_at row t % 2 ^ 32)
    word_by latch tells p k here =
        let l = lap (renumbered rows) q p in
        let in_sum : sent + (arrive rows (row_at s q) + l) ≡ t + l = omega arith in
        ap₂ latched
        (tells.ports p (arrive rows (row_at s q) + l) (back_at p k here) ∙ ap (λ u. shown_at row u % 2 ^ 32) in_sum ∙ ap (λ x. x % 2 ^ 32) (sym (shown_later row t l keeps.0)))
        tells.port0

    pub of_clock : AreOfClock (renumbered rows) s.head.ppm q (laps latches)
    of_clock =
        let h = told.measuring q (place_low s legal r low) there in
        of_clock_at_rest (renumbered rows) s.head.ppm q (laps latches) (record {
          clock = clock_of row t;
          width = width row.kind;
          wide = wide row.kind;
          rests = refl;
          runs = keeps.0;
          steady = keeps.1;
          words = λ p k here. ap (λ (o : Option Latch). lap_of o p) h.1 ∙ word_by h.0 h.2 p k here;
        })
