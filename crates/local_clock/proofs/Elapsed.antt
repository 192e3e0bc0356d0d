-- The ns of k ticks.
use Rattle.std.specs.Prelude.{◌≡◌, ℕ, suc, zero, ◌+◌, ◌-◌, ◌*◌, ◌<◌, ◌≤◌, ℤ, pos, negsuc, Bool, true, false, nat_le, if◌then◌else◌}
use Rattle.std.proofs.Common.{arith, add-zero, add-suc}
use Rattle.local_clock.specs.StepRule.{Steering, corrected_step, step, steered, elapsed}

step_near_ten : (g : ℕ) (s : Steering) → (9 ≤ step g s) × (step g s ≤ 11)
step_near_ten g s = between (nat_le g (s.count + 1)) s.left
  where
    corrected_near : (z : ℤ) → (9 ≤ corrected_step z) × (corrected_step z ≤ 11)
    corrected_near (pos zero) = (omega arith, omega arith)
    corrected_near (pos (suc n)) = (omega arith, omega arith)
    corrected_near (negsuc n) = (omega arith, omega arith)

    between : (b : Bool) (z : ℤ) → (9 ≤ (if b then corrected_step z else 10)) × ((if b then corrected_step z else 10) ≤ 11)
    between true z = corrected_near z
    between false z = (omega arith, omega arith)

-- k ticks take from 9 to 11 ns each
pub elapsed_least : (g k : ℕ) (s : Steering) → 9 * k ≤ elapsed g k s
elapsed_least g zero s = omega arith
elapsed_least g (suc k) s = let h = elapsed_least g k s in let n = step_near_ten g (steered g k s) in omega (arith, h, n.0)

pub elapsed_most : (g k : ℕ) (s : Steering) → elapsed g k s ≤ 11 * k
elapsed_most g zero s = omega arith
elapsed_most g (suc k) s = let h = elapsed_most g k s in let n = step_near_ten g (steered g k s) in omega (arith, h, n.1)

-- more ticks take longer
pub elapsed_rises : (g j k : ℕ) (s : Steering) → elapsed g j s ≤ elapsed g (j + k) s
elapsed_rises g j zero s = rw add-zero (omega arith)
elapsed_rises g j (suc k) s = let h = elapsed_rises g j k s in rw add-suc (omega (arith, h))

-- the last of some ticks takes at most 11 ns
pub elapsed_last : (g k : ℕ) (s : Steering) → 0 < k → elapsed g k s ≤ elapsed g (k - 1) s + 11
elapsed_last g zero s some = absurd (omega arith)
elapsed_last g (suc k) s some =
    let before : suc k - 1 ≡ k = omega arith in
    let n = step_near_ten g (steered g k s) in
    rw before (omega (arith, n.1))
