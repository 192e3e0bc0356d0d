-- An oscillator that stands at a true time.
use Rattle.std.specs.Prelude.{ℕ, suc, zero, ◌-◌, ◌/◌, ◌^◌, List, [], ◌∷◌, nat_lt, if◌then◌else◌}
use Rattle.osc_clock.specs.Ticks.{Rate, Oscillator, ticks}

-- the oscillator, and the true time at which it stands, in fs
pub record Standing : Type 0 where
  pub osc : Oscillator
  pub instant : ℕ

-- the ticks after its instant and at or before t
abbrev pub ticks_to : Standing → ℕ → ℕ
ticks_to s t = ticks s.osc t - ticks s.osc s.instant

-- the tick of the first row after tick k, or the last number of 64 bits where there is none
abbrev pub row_after : List Rate → ℕ → ℕ
row_after [] k = 2 ^ 64 - 1
row_after (rate ∷ rates) k = if nat_lt k rate.tick then rate.tick else row_after rates k

-- before this tick the gaps from tick k on are as the one at tick k: the phase is a gap by itself, and a period lasts to the next row
abbrev pub steady_until : Oscillator → ℕ → ℕ
steady_until o zero = 1
steady_until o (suc k) = row_after o.rates (suc k)

-- what a time is multiplied by to be divided by a period: a 2 ^ 64th of the product is the quotient, or one less
abbrev pub share_of : ℕ → ℕ
share_of period = (2 ^ 64 - 1) / period
