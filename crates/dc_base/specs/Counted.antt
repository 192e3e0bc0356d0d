-- What contracts see of an adapter over a reader or a writer of std.
use Rattle.std.specs.Prelude.{ℕ}

pub record Counted (T : Type 0) : Type 0 where
  -- the reader or the writer
  pub inner : T
  -- how many calls have failed
  pub faults : ℕ
