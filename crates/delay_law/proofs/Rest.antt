-- A clock that has nothing to correct.
use Rattle.std.specs.Prelude.{◌≡◌, ℕ, ◌+◌, ◌*◌, ◌%◌, ◌^◌, ◌≤◌, List, pos}
use Rattle.std.proofs.Common.{ap, ◌∙◌}
use Rattle.cable_tree.specs.declared.port.Port.{Port}
use Rattle.cable_tree.specs.Row.{Row}
use Rattle.cable_tree.specs.Hops.{lap}
use Rattle.dc_delay.specs.Latched.{latched}
use Rattle.dc_delay.specs.LatchLaw.{AreOfClock, AreReadings}
use Rattle.local_clock.specs.StepRule.{Steering, elapsed}
use Rattle.local_clock.specs.Reading.{Clock, steering_of, ticks_to}
use Rattle.local_clock.proofs.Exported.{rests}
use Rattle.wrap_time.proofs.Exported.{cut_of_cut}
use Rattle.delay_law.specs.AtRest.{AreLatchedAtRest, AreLatchedBy}

ns_rest : (g k : ℕ) (s : Steering) → s.left ≡ pos 0 → elapsed g k s ≡ 10 * k
ns_rest g k s e = ap (λ l. elapsed g k (record { left = l; count = s.count })) e ∙ (rests g k s.count).1

readings : (rows : List Row) (w : ℕ) (c : Clock) (r : ℕ) (laps : ℕ → Port → ℕ) → 32 ≤ w → c.left ≡ pos 0 → AreLatchedBy w c rows r laps
    → AreReadings rows c.osc c.reading c.instant r laps
readings rows w c r laps wide rests words = λ p k here.
    let n = ticks_to c (c.instant + lap rows r p) in
    words p k here
    ∙ ap (λ x. latched x (c.reading % 2 ^ 32))
    (cut_of_cut 32 w (c.reading + elapsed c.g n (steering_of c)) wide ∙ ap (λ x. (c.reading + x) % 2 ^ 32) (ns_rest c.g n (steering_of c) rests))

pub of_clock : (rows : List Row) (ppm r : ℕ) (laps : ℕ → Port → ℕ) → AreLatchedAtRest rows ppm r laps → AreOfClock rows ppm r laps
of_clock rows ppm r laps h = record {
  osc = h.clock.osc;
  stood = h.clock.reading;
  time = h.clock.instant;
  runs = h.runs;
  steady = h.steady;
  readings = readings rows h.width h.clock r laps h.wide h.rests h.words;
}
