-- When a clock comes to a value.
use Rattle.std.specs.Prelude.{◌≡◌, ℕ, ◌+◌, ◌^◌, ◌<◌, ℤ, pos, negsuc, Bool, true, false, Option, Some, None, nat_lt, if◌then◌else◌}
use Rattle.wrap_time.specs.WordDifference.{word_difference}
use Rattle.osc_clock.specs.Ticks.{ticks, instant}
use Rattle.local_clock.specs.Reading.{Clock, reading_after}

abbrev pub is_negative : ℤ → Bool
is_negative (pos n) = false
is_negative (negsuc n) = true

-- word a of w bits is behind word b: their difference is negative
abbrev pub is_behind : ℕ → ℕ → ℕ → Bool
is_behind w a b = is_negative (word_difference w a b)

-- when the k-th tick after the clock's instant is
abbrev pub tick_after : Clock → ℕ → ℕ
tick_after c k = instant c.osc (ticks c.osc c.instant + k)

-- the k-th tick from now is the first at which the reading is not behind v
pub record IsFirstReaching (w v : ℕ) (c : Clock) (k : ℕ) : Type 0 where
  pub some : 0 < k
  pub reached : is_behind w (reading_after w c k) v ≡ false
  pub before : (j : ℕ) → 0 < j → j < k → is_behind w (reading_after w c j) v ≡ true

-- an instant, where it is one of 64 bits
abbrev pub within_time : ℕ → Option ℕ
within_time t = if nat_lt t (2 ^ 64) then Some t else None
