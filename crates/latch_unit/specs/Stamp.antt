-- When an event of latch input 0 is taken, and which stamp it gets.
use Rattle.std.specs.Prelude.{ℕ, suc, ◌+◌, ◌-◌, ◌%◌, ◌^◌, ◌<◌, ◌≤◌, ◌&&◌, nat_lt, nat_le, Bool, if◌then◌else◌, Option, Some, None}
use Rattle.osc_clock.specs.Ticks.{Oscillator, ticks, instant}
use Rattle.local_clock.specs.Reading.{Clock, advanced}

-- the number of the first tick at or after t: one more than there are ticks before t
abbrev pub first_tick_from : Oscillator → ℕ → ℕ
first_tick_from o t = suc (ticks o (t - 1))

-- the same without counting: it is at or after t, and the ticks before it are before t
pub record IsFirstTickFrom (o : Oscillator) (t n : ℕ) : Type 0 where
  pub some : 0 < n
  pub reached : t ≤ instant o n
  pub before : (k : ℕ) → 0 < k → k < n → instant o k < t

-- when an event is taken: at the first tick at or after it
unfoldable pub taken_at : Oscillator → ℕ → ℕ
taken_at o event = instant o (first_tick_from o event)

-- that tick is after the clock's instant and at or before t
abbrev pub is_taken : Clock → ℕ → ℕ → Bool
is_taken c t event = nat_lt c.instant (taken_at c.osc event) && nat_le (taken_at c.osc event) t

-- the stamp: the local copy after that tick, which is the local time plus the offset, as a word of w bits
abbrev pub stamp_of : ℕ → Clock → ℕ → ℕ → ℕ
stamp_of w c offset event = ((advanced w (taken_at c.osc event) c).reading + offset) % 2 ^ w

-- the stamp that the ticks up to t bring, where an event is expected and they take it
abbrev pub stamp_by : ℕ → Clock → ℕ → ℕ → Option ℕ → Option ℕ
stamp_by w c offset t None = None
stamp_by w c offset t (Some event) = if is_taken c t event then Some (stamp_of w c offset event) else None

-- the event that is expected after them: one that was taken is expected no more
abbrev pub expected_after : Clock → ℕ → Option ℕ → Option ℕ
expected_after c t None = None
expected_after c t (Some event) = if is_taken c t event then None else Some event
