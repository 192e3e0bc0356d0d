-- One call after another, by the count of faults.
use Rattle.std.proofs.Common.{ℕ, ◌≤◌, arith}
use Rattle.dc_base.specs.Causes.{Rose}

-- the count rose, and then did not fall
pub Rose-later : (a b c : ℕ) → Rose a b → b ≤ c → Rose a c
Rose-later a b c rose later = omega arith

-- the count did not fall, and then rose
pub Rose-earlier : (a b c : ℕ) → a ≤ b → Rose b c → Rose a c
Rose-earlier a b c later rose = omega arith
