-- Numbers in a list of bytes, the lowest byte first.
use Rattle.std.specs.Prelude.{ℕ, ◌+◌, ◌<◌, ◌≤◌, ◌⊎◌, List, ◌++◌, take, drop}
use Rattle.std.specs.List.{All}
use Rattle.byteorder.specs.Endian.{little_number, little_bytes}

-- the number of n bytes at a place
unfoldable pub number_at : ℕ → ℕ → List ℕ → ℕ
number_at n at bytes = little_number n (drop at bytes)

-- the bytes with the number x of n bytes written at a place
unfoldable pub with_number : ℕ → ℕ → ℕ → List ℕ → List ℕ
with_number n at x bytes = take at bytes ++ little_bytes n x ++ drop (at + n) bytes

-- the m bytes at a and the n bytes at b have none in common
abbrev pub AreApart : ℕ → ℕ → ℕ → ℕ → Type 0
AreApart a m b n = (a + m ≤ b) ⊎ (b + n ≤ a)

-- each is a byte
abbrev pub AreBytes : List ℕ → Type 0
AreBytes bytes = All (λ b. b < 256) bytes
