-- How far one word of a clock is ahead of another, where words of w bits wrap at 2^w.
use Rattle.std.specs.Prelude.{ℕ, ℤ, ◌+◌, ◌-◌, ◌%◌, ◌^◌, pos, negsuc, nat_lt, if◌then◌else◌}

-- the word n of w bits read as two's complement: n in the lower half, n - 2^w in the upper
abbrev pub signed_of : ℕ → ℕ → ℤ
signed_of w n = if nat_lt n (2 ^ (w - 1)) then pos n else negsuc (2 ^ w - (n + 1))

-- the number from -2^(w-1) to 2^(w-1) - 1 that is a - b modulo 2^w
abbrev pub word_difference : ℕ → ℕ → ℕ → ℤ
word_difference w a b = signed_of w ((a + (2 ^ w - b)) % 2 ^ w)
