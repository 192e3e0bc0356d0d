-- A word less a number, where words of w bits wrap at 2^w.
use Rattle.std.specs.Prelude.{ℕ, ◌+◌, ◌-◌, ◌%◌, ◌^◌}

-- the number below 2^w that is a - n modulo 2^w
abbrev pub word_less : ℕ → ℕ → ℕ → ℕ
word_less w a n = (a + (2 ^ w - n % 2 ^ w)) % 2 ^ w
