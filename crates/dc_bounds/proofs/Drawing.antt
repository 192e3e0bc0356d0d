-- A clock that is drawn to the reference, receipt by receipt.
use Rattle.std.proofs.Common.{◌≡◌, ℕ, ◌+◌, ◌*◌, ◌/◌, ◌<◌, ◌≤◌, ◌⊎◌, inl, inr, arith}
use Rattle.std.specs.Prelude.{ℤ, pos, negsuc, ◌+ℤ◌, ◌-ℤ◌, ◌≤ℤ◌, min, unsigned_abs}
use Rattle.std.proofs.lemmas.Int.{ints}
use Rattle.std.proofs.Math.Nat.{mul-le-mul_right, lt_of_mul-lt-mul_left}
use Rattle.dc_bounds.specs.TickBounds.{jump, least_ticks}
use Rattle.dc_bounds.specs.TickFacts.{AreTicksOf}
use Rattle.dc_bounds.specs.LockNumbers.{lock_count, lock_falls, lock_step, period_fs, silence_fs, sure_fall, ticks_to_correction}
use Rattle.dc_bounds.specs.Drawing.{IsDrawn}
use Rattle.dc_bounds.proofs.Growth.{quotients_rise, two_clocks}
use Rattle.dc_bounds.proofs.Locking.{enough, falls}

module _ (ppm frame_ns speed loss_run reach : ℕ) where
  abbrev qm : ℕ
  qm = jump ppm (silence_fs loss_run frame_ns)

  abbrev fall : ℕ
  fall = sure_fall ppm frame_ns speed loss_run

  pub drawn_first : (frame size : ℕ) → frame ≤ loss_run + 1 → size ≤ jump ppm reach → IsDrawn ppm frame_ns speed loss_run reach 0 frame size
  drawn_first frame size often low = record { often = omega (arith, often); fallen = inr (omega (arith, low)) }

  fallen_on : (before size more : ℕ) → (more ≤ qm) ⊎ (more + fall ≤ size) → (size ≤ qm) ⊎ (size + before * fall ≤ jump ppm reach)
      → (more ≤ qm) ⊎ (more + (before + 1) * fall ≤ jump ppm reach)
  fallen_on before size more (inl x) y = inl x
  fallen_on before size more (inr x) (inl y) = inl (omega (arith, x, y))
  fallen_on before size more (inr x) (inr y) = inr (omega (arith, x, y))

  pub drawn_next : (before frame size k left more : ℕ) → ppm ≤ 100 → pos 1 ≤ℤ lock_step ppm frame_ns speed loss_run → 1 ≤ k → k ≤ loss_run + 1
      → IsDrawn ppm frame_ns speed loss_run reach before frame size
      → left + min size (least_ticks ppm (k * period_fs frame_ns) / ticks_to_correction speed) ≤ size → more ≤ left + jump ppm (k * period_fs frame_ns)
      → IsDrawn ppm frame_ns speed loss_run reach (before + 1) (frame + k) more
  drawn_next before frame size k left more small some low high h kept drift =
      let often = h.often in
      record {
        often = omega (arith, often, high);
        fallen = fallen_on before size more (falls ppm frame_ns speed loss_run k size left more small some low high kept drift) h.fallen;
      }

  -- after K frames as many differences came before as there are falls
  by_size : (before size : ℕ) → jump ppm reach ≤ qm + lock_falls ppm frame_ns speed loss_run reach * fall → lock_falls ppm frame_ns speed loss_run reach ≤ before
      → (size ≤ qm) ⊎ (size + before * fall ≤ jump ppm reach) → size ≤ qm
  by_size before size up many (inl x) = x
  by_size before size up many (inr x) =
      let m : lock_falls ppm frame_ns speed loss_run reach * fall ≤ before * fall = mul-le-mul_right fall many in
      omega (arith, up, m, x)

  pub drawn_locked : (before frame size : ℕ) → pos 1 ≤ℤ lock_step ppm frame_ns speed loss_run → IsDrawn ppm frame_ns speed loss_run reach before frame size
      → lock_count ppm frame_ns speed loss_run reach < frame → size ≤ qm
  drawn_locked before frame size some h late =
      let often = h.often in
      let falls = lock_falls ppm frame_ns speed loss_run reach in
      let n : falls < before + 1 = lt_of_mul-lt-mul_left (loss_run + 1) {m = falls} {n = before + 1} (omega (arith, late, often)) in
      by_size before size (enough ppm frame_ns speed loss_run reach some) (omega (arith, n)) h.fallen

  within_by : (before size : ℕ) → qm ≤ jump ppm reach → (size ≤ qm) ⊎ (size + before * fall ≤ jump ppm reach) → size ≤ jump ppm reach
  within_by before size wide (inl x) = omega (arith, wide, x)
  within_by before size wide (inr x) = omega (arith, x)

  pub drawn_within : (before frame size : ℕ) → qm ≤ jump ppm reach → IsDrawn ppm frame_ns speed loss_run reach before frame size → size ≤ jump ppm reach
  drawn_within before frame size wide h = within_by before size wide h.fallen

-- the sizes of signed numbers
over_size : (z : ℤ) → (z ≤ℤ pos (unsigned_abs z)) × (pos 0 ≤ℤ (z +ℤ pos (unsigned_abs z)))
over_size (pos n) = (omega (arith, ints), omega (arith, ints))
over_size (negsuc n) = (omega (arith, ints), omega (arith, ints))

abs_within : (z : ℤ) (n : ℕ) → z ≤ℤ pos n → pos 0 ≤ℤ (z +ℤ pos n) → unsigned_abs z ≤ n
abs_within (pos m) n a b = omega (arith, ints, a)
abs_within (negsuc m) n a b = omega (arith, ints, b)

pub next_drift : (ppm l here there n m : ℕ) (left : ℤ) → AreTicksOf ppm l n → AreTicksOf ppm l m → pos here ≡ pos (there + 10 * n) +ℤ left
    → unsigned_abs (pos here -ℤ pos (there + 10 * m)) ≤ unsigned_abs left + jump ppm l
next_drift ppm l here there n m left a b is =
    let near = two_clocks ppm l n m a b in
    let up = near.above in
    let down = near.below in
    let s = over_size left in
    let s0 = s.0 in
    let s1 = s.1 in
    abs_within (pos here -ℤ pos (there + 10 * m)) (unsigned_abs left + jump ppm l) (omega (arith, ints, up, s0, is)) (omega (arith, ints, down, s1, is))

pub next_left : (ppm l n g : ℕ) (received left : ℤ) → 0 < g → least_ticks ppm l ≤ n → unsigned_abs left + min (unsigned_abs received) (n / g) ≡ unsigned_abs received
    → unsigned_abs left + min (unsigned_abs received) (least_ticks ppm l / g) ≤ unsigned_abs received
next_left ppm l n g received left some least is =
    let less = quotients_rise (least_ticks ppm l) n g some least in
    omega (arith, less, is)
