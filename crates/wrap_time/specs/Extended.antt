-- A word of 32 bits made a number of 64 again.
use Rattle.std.specs.Prelude.{ℕ, ℤ, ◌+◌, ◌-◌, ◌%◌, ◌^◌, pos, negsuc}
use Rattle.wrap_time.specs.WordDifference.{word_difference}

-- v + d modulo 2^w
abbrev pub moved_by : ℕ → ℕ → ℤ → ℕ
moved_by w v (pos d) = (v + d) % 2 ^ w
moved_by w v (negsuc d) = (v + (2 ^ w - (d + 1))) % 2 ^ w

-- the expected number, moved by what the low word is ahead of its low half
abbrev pub extended : ℕ → ℕ → ℕ
extended low expected = moved_by 64 expected (word_difference 32 low (expected % 2 ^ 32))
