-- The tick that takes an event.
use Rattle.std.proofs.Common.{ℕ, ◌-◌, ◌<◌, arith}
use Rattle.osc_clock.specs.Ticks.{Oscillator, IsRunning, instant}
use Rattle.osc_clock.proofs.Exported.{next_after, not_after, number_first}
use Rattle.latch_unit.specs.Stamp.{first_tick_from, IsFirstTickFrom}

pub first_tick : (o : Oscillator) (t : ℕ) → IsRunning o → IsFirstTickFrom o t (first_tick_from o t)
first_tick o t running =
    let next = next_after o (t - 1) running in
    record { some = omega arith; reached = omega (arith, next); before = earlier }
  where
    earlier : (k : ℕ) → 0 < k → k < first_tick_from o t → instant o k < t
    earlier k some less =
        let until = not_after o (t - 1) k running (omega (arith, less)) in
        let number = number_first o k running in
        omega (arith, until, number, some)
