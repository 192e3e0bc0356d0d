-- Why a call gave up: several frames were lost in it.
use Rattle.std.specs.Prelude.{ℕ, ◌+◌, ◌-◌, ◌^◌, ◌≤◌, min}

-- the count has risen by k or more, or stands at its last value
abbrev pub RoseBy : ℕ → ℕ → ℕ → Type 0
RoseBy k before now = min (before + k) (2 ^ 64 - 1) ≤ now
