-- The corrections of many ticks at once: how many they are, and how many ticks come after the last of them.
use Rattle.std.specs.Prelude.{ℕ, ◌+◌, ◌/◌, ◌%◌, ◌^◌, min, nat_lt, if◌then◌else◌}

-- the corrections that k ticks bring to a difference of size n, with so many ticks since the last correction
abbrev pub done : ℕ → ℕ → ℕ → ℕ → ℕ
done g n count k = min n ((count + k) / g)

-- the ticks since the last correction after them; with nothing left none is counted
abbrev pub counted : ℕ → ℕ → ℕ → ℕ → ℕ
counted g n count k = if nat_lt ((count + k) / g) n then (count + k) % g else 0

-- what stands for a division by g, from 1 to 255: a number of ticks below 2 ^ 24 times this is, divided by 2 ^ 32 and
-- rounded down, the number divided by g and rounded down
abbrev pub share_of : ℕ → ℕ
share_of g = 2 ^ 32 / g + 1
