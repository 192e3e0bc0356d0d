-- Ticks at which nothing is due.
use Rattle.std.specs.Prelude.{◌≡◌, ℕ, ◌-◌, ◌/◌, ◌^◌, ◌<◌, ◌≤◌, true, Option, Some, None, min, unsigned_abs, if◌then◌else◌}
use Rattle.std.specs.Option.{option_map_or}
use Rattle.wrap_time.specs.WordDifference.{word_difference}
use Rattle.local_clock.specs.FirstReaching.{is_behind}
use Rattle.sync_units.specs.declared.edge.Signal.{Signal}
use Rattle.sync_units.specs.SyncRule.{Due, Armed, due_of}

-- the local copy x is behind what is due of each signal
abbrev pub IsQuiet : ℕ → ℕ → Armed → Type 0
IsQuiet w x a = (signal : Signal) (d : Due) → due_of signal a ≡ Some d → is_behind w x d.value ≡ true

-- so it is at each of k ticks
abbrev pub AreQuiet : ℕ → (ℕ → ℕ) → ℕ → Armed → Type 0
AreQuiet w copy k a = (i : ℕ) → 0 < i → i ≤ k → IsQuiet w (copy i) a

-- so many ticks surely leave the copy x behind v: a tick takes 11 ns at most
abbrev pub spare_to : ℕ → ℕ → ℕ → ℕ
spare_to w x v = if is_behind w x v then (unsigned_abs (word_difference w x v) - 1) / 11 else 0

-- so many surely raise nothing; 2 ^ 64 - 1 stands for a unit that is not armed
abbrev pub spare_of : ℕ → ℕ → Option Armed → ℕ
spare_of w x None = 2 ^ 64 - 1
spare_of w x (Some a) =
    option_map_or (λ d. min (spare_to w x a.sync0.value) (spare_to w x d.value)) a.sync1 (spare_to w x a.sync0.value)
