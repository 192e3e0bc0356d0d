-- The local copies of a slave, by the history of its clock.
use Rattle.std.specs.Prelude.{◌≡◌, ℕ, ◌+◌, ◌-◌, ◌%◌, ◌^◌, ◌<◌, ◌≤◌, List, IfSome}
use Rattle.osc_clock.specs.Ticks.{ticks, instant}
use Rattle.local_clock.specs.Reading.{Clock, Happening, reading_at}
use Rattle.sync_units.specs.Calls.{Call, AreInTurn, end_of, ticks_of_calls, copy_in}
use Rattle.frame_pass.specs.SlaveState.{Slave, offset, delay}

-- the local time of a history at t plus an offset, as a word of w bits
abbrev pub copy_at : ℕ → Clock → List Happening → ℕ → ℕ → ℕ
copy_at w c events offset t = (reading_at w c events t + offset) % 2 ^ w

-- the same less the delay that the slave holds: its system time
abbrev pub time_at : ℕ → Clock → List Happening → Slave → ℕ → ℕ
time_at w c events s t = (copy_at w c events (offset s.registers) t + (2 ^ w - delay s.registers)) % 2 ^ w

-- The calls of a slave's unit since a start lead, one after another, to the slave's present time. At each tick in them the
-- local copy is that of a history, with the offset that the slave holds.
pub record HasCopies (w : ℕ) (c : Clock) (events : List Happening) (start : ℕ) (calls : List Call) (s : Slave) : Type 0 where
  pub in_turn : AreInTurn c.osc start calls
  pub end : IfSome s.timing (λ m. end_of start calls ≡ m.clock.instant)
  pub copies : (k : ℕ) → 0 < k → k ≤ ticks_of_calls c.osc start calls
      → copy_in w calls k ≡ copy_at w c events (offset s.registers) (instant c.osc (ticks c.osc start + k))
