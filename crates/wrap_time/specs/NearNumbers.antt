-- Numbers that their words of w bits still tell apart.
use Rattle.std.specs.Prelude.{ℕ, ◌+◌, ◌-◌, ◌^◌, ◌<◌}

-- |u - v| < 2^(w-1)
pub record AreNear (w u v : ℕ) : Type 0 where
  pub above : u < v + 2 ^ (w - 1)
  pub below : v < u + 2 ^ (w - 1)
