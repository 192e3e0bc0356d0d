-- The local copy of the system time.
use Rattle.std.specs.Prelude.{ℕ, ◌+◌, ◌%◌, ◌^◌}
use Rattle.local_clock.specs.Reading.{Clock, reading_after}

-- the local time plus the offset, as a word of w bits
abbrev pub copy_of : ℕ → Clock → ℕ → ℕ
copy_of w c offset = (c.reading + offset) % 2 ^ w

-- the same at the k-th tick after the clock's instant
abbrev pub copy_after : ℕ → Clock → ℕ → ℕ → ℕ
copy_after w c offset k = (reading_after w c k + offset) % 2 ^ w
