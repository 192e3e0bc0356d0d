-- What the code looks for: the next edge of each signal, where nothing else happens to the clock.
use Rattle.std.specs.Prelude.{◌≡◌, ℕ, ◌^◌, ◌<◌, ◌≤◌, true, Option, Some, None, ⊤}
use Rattle.local_clock.specs.Reading.{Clock}
use Rattle.local_clock.specs.FirstReaching.{is_behind, tick_after}
use Rattle.sync_units.specs.declared.armed_unit.NextEdges.{NextEdges}
use Rattle.sync_units.specs.declared.edge.Signal.{Signal}
use Rattle.sync_units.specs.declared.edge.Signal.TheVariants.{Sync0, Sync1}
use Rattle.sync_units.specs.ClockCopy.{copy_of, copy_after}
use Rattle.sync_units.specs.SyncRule.{Due, Armed, due_of}
use Rattle.sync_units.specs.Edges.{IsNextReached}

-- when a signal has its next edge
abbrev pub next_of : Signal → NextEdges → Option ℕ
next_of Sync0 next = next.sync0
next_of Sync1 next = next.sync1

-- the instant of the next edge of a signal of which this is due, for a clock with this offset; None where none of the
-- next n ticks has it by 2^64 - 1, and where nothing is due
abbrev pub IsNextEdge : ℕ → ℕ → Clock → ℕ → Option Due → Option ℕ → Type 0
IsNextEdge w n c offset None at = at ≡ None
IsNextEdge w n c offset (Some d) None =
    (i : ℕ) → 0 < i → i ≤ n → tick_after c i < 2 ^ 64 → is_behind w (copy_after w c offset i) d.value ≡ true
IsNextEdge w n c offset (Some d) (Some at) =
    (k : ℕ) × IsNextReached w (copy_after w c offset) d.value 0 k × (at ≡ tick_after c k)

-- the same where the clock stands at a tick that has no edge of the signal
abbrev pub IsNextUnlessNow : ℕ → ℕ → Clock → ℕ → Option Due → Option ℕ → Type 0
IsNextUnlessNow w n c offset None at = at ≡ None
IsNextUnlessNow w n c offset (Some d) at =
    is_behind w (copy_of w c offset) d.value ≡ true → IsNextEdge w n c offset (Some d) at

-- of each signal of a unit
abbrev pub AreNextEdges : ℕ → ℕ → Clock → ℕ → Armed → NextEdges → Type 0
AreNextEdges w n c offset a next = (signal : Signal) → IsNextEdge w n c offset (due_of signal a) (next_of signal next)

-- an instant, where there is one, is not before t
abbrev pub IsFrom : ℕ → Option ℕ → Type 0
IsFrom t None = ⊤
IsFrom t (Some at) = t ≤ at

abbrev pub AreFrom : ℕ → NextEdges → Type 0
AreFrom t next = (signal : Signal) → IsFrom t (next_of signal next)

-- n is the earliest of the instants, and at or before t
pub record IsFirst (t n : ℕ) (next : NextEdges) : Type 0 where
  pub within : n ≤ t
  pub from : AreFrom n next
  pub signal : Signal
  pub one : next_of signal next ≡ Some n
