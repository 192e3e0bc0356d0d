-- Latched times that are readings of a clock.
use Rattle.std.specs.Prelude.{◌≡◌, ℕ, ◌+◌, ◌-◌, ◌*◌, ◌%◌, ◌^◌, ◌<◌, ◌≤◌, Some, List, length}
use Rattle.std.specs.List.{All}
use Rattle.std.proofs.Common.{arith, ap, ◌∙◌, inl, inr}
use Rattle.std.proofs.lemmas.Bool.{cases_lt}
use Rattle.cable_tree.specs.declared.port.Port.{Port}
use Rattle.cable_tree.specs.Row.{Row, IsRow}
use Rattle.cable_tree.specs.Segment.{IsTree}
use Rattle.cable_tree.specs.FrameOrder.{child}
use Rattle.cable_tree.specs.PathSums.{round_trip}
use Rattle.cable_tree.specs.Hops.{lap}
use Rattle.cable_tree.proofs.Exported.{lap_inside}
use Rattle.wrap_time.proofs.Exported.{latched_difference}
use Rattle.osc_clock.specs.Ticks.{Oscillator, IsRunning, ticks}
use Rattle.osc_clock.proofs.Exported.{ticks_rise}
use Rattle.dc_bounds.specs.TickBounds.{tick_gap}
use Rattle.dc_bounds.specs.TickFacts.{IsNear, IsWithin}
use Rattle.dc_bounds.proofs.Exported.{tick_gap_rises, tick_gap_near, ticks_in_interval}
use Rattle.dc_delay.specs.Latched.{latched}
use Rattle.dc_delay.specs.LatchLaw.{AreLatched, AreReadings}

-- a difference of two words, where the time between them is less than the whole range
latched_rise : (x k : ℕ) → k < 4294967296 → latched ((x + k) % 2 ^ 32) (x % 2 ^ 32) ≡ k
latched_rise x k small = latched_difference 32 x (x + k) (omega arith) (omega (arith, small)) ∙ omega arith

lap_short : (rows : List Row) → IsTree rows → All IsRow rows → (r : ℕ) (p : Port) (k : ℕ) → r < length rows → child rows r p ≡ Some k → lap rows r p ≤ round_trip rows
lap_short rows tree slaves r p k within e = let part = lap_inside rows tree slaves r p k within e in omega (arith, part)

-- the ticks from one instant to a later one
module _ (o : Oscillator) (ppm : ℕ) (running : IsRunning o) (small : ppm ≤ 100) (steady : IsWithin ppm o) (start limit : ℕ) where
  -- so many of them since the start
  abbrev since : ℕ → ℕ
  since l = ticks o (start + l) - ticks o start

  since_near : (a b : ℕ) → a ≤ b → b ≤ limit → IsNear (10000000 * since b + a) (10000000 * since a + b) (tick_gap ppm limit)
  since_near a b order within =
      let early = ticks_rise o start (start + a) running (omega arith) in
      let late = ticks_rise o (start + a) (start + b) running (omega arith) in
      let of' = ticks_in_interval o ppm (start + a) (start + b) (since b - since a) running small steady (omega arith) (omega (arith, early, late)) in
      let most = tick_gap_rises ppm (start + b - (start + a)) limit small (omega arith) in
      let up = of'.gap.above in
      let down = of'.gap.below in
      record { above = omega (arith, up, most, early, late); below = omega (arith, down, most, early, late) }

  since_few : (a : ℕ) → a ≤ limit → limit < 10000000000000 → 10 * since a < 4294967296
  since_few a within short =
      let n = since_near 0 a (omega arith) within in
      let size = tick_gap_near ppm limit small in
      let none : ticks o (start + 0) ≡ ticks o start = ap (ticks o) (omega arith) in
      omega (arith, n.above, size, none)

pub readings_are_latched : (rows : List Row) (o : Oscillator) (ppm x t r : ℕ) (laps : ℕ → Port → ℕ) → IsTree rows → All IsRow rows → r < length rows
    → IsRunning o → ppm ≤ 100 → IsWithin ppm o → round_trip rows < 10 ^ 13 → AreReadings rows o x t r laps
    → AreLatched rows (tick_gap ppm (round_trip rows)) r laps
readings_are_latched rows o ppm x t r laps tree slaves within running small steady short readings =
    let limit = round_trip rows in
    let near : (a b : ℕ) → a ≤ b → b ≤ limit → IsNear (10000000 * since o ppm running small steady t limit b + a) (10000000 * since o ppm running small steady t limit a + b) (tick_gap ppm limit)
    = since_near o ppm running small steady t limit in
    let rise : (p : Port) (k : ℕ) → child rows r p ≡ Some k → laps r p ≡ 10 * since o ppm running small steady t limit (lap rows r p)
    = λ p k e. readings p k e ∙ latched_rise x (10 * since o ppm running small steady t limit (lap rows r p))
    (since_few o ppm running small steady t limit (lap rows r p) (lap_short rows tree slaves r p k within e) (omega arith)) in
    record {
      each = λ p j e.
          let n = near 0 (lap rows r p) (omega arith) (lap_short rows tree slaves r p j within e) in
          let none : since o ppm running small steady t limit 0 ≡ 0 = (let start : ticks o (t + 0) ≡ ticks o t = ap (ticks o) (omega arith) in omega (arith, start)) in
          let is = rise p j e in
          record { above = omega (arith, n.above, n.below, none, is); below = omega (arith, n.above, n.below, none, is) };
      pairs = λ p q j k e f.
          let ep = rise p j e in
          let eq = rise q k f in
          elim (cases_lt (lap rows r q) (lap rows r p)) [
            | inl lt ↦
                let n = near (lap rows r q) (lap rows r p) (omega arith) (lap_short rows tree slaves r p j within e) in
                record { above = omega (arith, n.above, ep, eq); below = omega (arith, n.below, ep, eq) }
            | inr le ↦
                let n = near (lap rows r p) (lap rows r q) le (lap_short rows tree slaves r q k within f) in
                record { above = omega (arith, n.below, ep, eq); below = omega (arith, n.above, ep, eq) }
          ];
    }
