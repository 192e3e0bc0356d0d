-- How a clock counts, by this project's own rule: a tick is 10 ns, and 9 or 11 at every g-th one while a received difference is worked off.
use Rattle.std.specs.Prelude.{ℕ, suc, zero, ◌+◌, ℤ, pos, negsuc, nat_le, if◌then◌else◌}

-- what is left to correct, and the ticks since the last correction
pub record Steering : Type 0 where
  pub left : ℤ
  pub count : ℕ

-- one nearer to 0
abbrev pub nearer : ℤ → ℤ
nearer (pos zero) = pos 0
nearer (pos (suc n)) = pos n
nearer (negsuc zero) = pos 0
nearer (negsuc (suc n)) = negsuc n

-- 10 less the sign
abbrev pub corrected_step : ℤ → ℕ
corrected_step (pos zero) = 10
corrected_step (pos (suc n)) = 9
corrected_step (negsuc n) = 11

-- the ns of a tick
abbrev pub step : ℕ → Steering → ℕ
step g s = if nat_le g (s.count + 1) then corrected_step s.left else 10

-- with nothing left nothing changes; else a tick counts, and the g-th one corrects
abbrev pub next_of : ℤ → ℕ → ℕ → Steering
next_of (pos zero) g count = record { left = pos 0; count = count }
next_of left g count =
    if nat_le g (count + 1) then record { left = nearer left; count = 0 } else record { left = left; count = count + 1 }

-- what a tick leaves
abbrev pub next : ℕ → Steering → Steering
next g s = next_of s.left g s.count

-- after k ticks
abbrev pub steered : ℕ → ℕ → Steering → Steering
steered g zero s = s
steered g (suc k) s = next g (steered g k s)

-- the ns of k ticks
abbrev pub elapsed : ℕ → ℕ → Steering → ℕ
elapsed g zero s = 0
elapsed g (suc k) s = elapsed g k s + step g (steered g k s)
