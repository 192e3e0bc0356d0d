-- What contracts see of a sink in memory.
use Rattle.std.specs.Prelude.{◌≡◌, ℕ, ◌<◌, ◌⊎◌, List, length, min, Contains}
use Rattle.dc_base.specs.Causes.{raised}

pub record SinkState : Type 0 where
  -- the bytes that were taken
  pub bytes : List ℕ
  -- how many more bytes it has room for
  pub room : ℕ
  -- the most bytes that one write takes
  pub chunk : ℕ
  -- the numbers of the writes that fail, from 1
  pub fails : List ℕ
  -- the number of the last write
  pub calls : ℕ
  -- how many writes have failed
  pub faults : ℕ

-- the next write is listed as one that fails, or finds no room for a piece that is not empty
abbrev pub FailsNextWrite : SinkState → List ℕ → Type 0
FailsNextWrite s piece = Contains s.fails (raised s.calls) ⊎ ((s.room ≡ 0) × (0 < length piece))

-- how many bytes the next write takes of a piece of this length
abbrev pub next_taken : SinkState → ℕ → ℕ
next_taken s len = min (min s.chunk s.room) len
