-- What contracts see of a source in memory.
use Rattle.std.specs.Prelude.{ℕ, List, length, min, Contains}
use Rattle.dc_base.specs.Causes.{raised}

pub record SourceState : Type 0 where
  -- the bytes that are left
  pub left : List ℕ
  -- the most bytes that one read gives
  pub chunk : ℕ
  -- the numbers of the reads that fail, from 1
  pub fails : List ℕ
  -- the number of the last read
  pub calls : ℕ
  -- how many reads have failed
  pub faults : ℕ

-- the next read is listed as one that fails
abbrev pub FailsNextRead : SourceState → Type 0
FailsNextRead s = Contains s.fails (raised s.calls)

-- how many bytes the next read gives to a buffer with this room
abbrev pub next_given : SourceState → ℕ → ℕ
next_given s room = min (min s.chunk room) (length s.left)
