-- What the tick by tick definitions say of any number of ticks.
use Rattle.std.specs.Prelude.{◌≡◌, ℕ, suc, zero, ◌+◌, ◌-◌, ◌*◌, ◌%◌, ◌^◌, ◌<◌, ◌≤◌, ℤ, pos, negsuc, ◌+ℤ◌, Bool, true, false, nat_le}
use Rattle.std.proofs.Common.{arith, sym, ap, ◌∙◌, refl, add-zero, add-suc}
use Rattle.std.proofs.lemmas.Int.{ints}
use Rattle.std.proofs.Math.Nat.{mod-add-mod, mod-eq_of_lt}
use Rattle.osc_clock.specs.Ticks.{IsRunning, ticks}
use Rattle.osc_clock.proofs.Exported.{ticks_rise, ticks_at}
use Rattle.local_clock.specs.StepRule.{Steering, nearer, corrected_step, step, next_of, next, steered, elapsed}
use Rattle.local_clock.specs.Reading.{Clock, steering_of, ticks_to, reading_after, advanced}
use Rattle.local_clock.specs.FirstReaching.{tick_after}
use Rattle.local_clock.proofs.Elapsed.{elapsed_least, elapsed_most}

-- a correction moves the reading as much the other way as it moves what is left
correction_balances : (z : ℤ) → pos (corrected_step z) +ℤ z ≡ pos 10 +ℤ nearer z
correction_balances (pos zero) = refl
correction_balances (pos (suc n)) = omega (arith, ints)
correction_balances (negsuc zero) = refl
correction_balances (negsuc (suc n)) = omega (arith, ints)

-- the reading less what is left rises by 10 at every tick
pub step_balances : (g : ℕ) (s : Steering) → pos (step g s) +ℤ s.left ≡ pos 10 +ℤ (next g s).left
step_balances g s = at s.left s.count (nat_le g (s.count + 1)) refl
  where
    at : (z : ℤ) (c : ℕ) (full : Bool) → nat_le g (c + 1) ≡ full → pos (step g (record { left = z; count = c })) +ℤ z ≡ pos 10 +ℤ (next_of z g c).left
    at (pos zero) c true e = rw e refl
    at (pos zero) c false e = rw e refl
    at (pos (suc n)) c true e = rw e (correction_balances (pos (suc n)))
    at (pos (suc n)) c false e = rw e refl
    at (negsuc n) c true e = rw e (correction_balances (negsuc n))
    at (negsuc n) c false e = rw e refl

pub ticks_balance : (g k : ℕ) (s : Steering) → pos (elapsed g k s) +ℤ s.left ≡ pos (10 * k) +ℤ (steered g k s).left
ticks_balance g zero s = refl
ticks_balance g (suc k) s =
    let before = ticks_balance g k s in
    let here = step_balances g (steered g k s) in
    omega (arith, ints, before, here)

-- j + k ticks are j ticks and then k
pub steered_splits : (g j k : ℕ) (s : Steering) → steered g (j + k) s ≡ steered g k (steered g j s)
steered_splits g j zero s = rw add-zero refl
steered_splits g j (suc k) s = rw add-suc (ap (next g) (steered_splits g j k s))

pub elapsed_splits : (g j k : ℕ) (s : Steering) → elapsed g (j + k) s ≡ elapsed g j s + elapsed g k (steered g j s)
elapsed_splits g j zero s = rw add-zero (omega arith)
elapsed_splits g j (suc k) s =
    let before = elapsed_splits g j k s in
    let same : step g (steered g (j + k) s) ≡ step g (steered g k (steered g j s)) = ap (step g) (steered_splits g j k s) in
    rw add-suc (omega (arith, before, same))

-- the k-th tick from now is the last one at its own instant
pub ticks_to_tick : (c : Clock) (k : ℕ) → IsRunning c.osc → ticks_to c (tick_after c k) ≡ k
ticks_to_tick c k run = let at = ticks_at c.osc (ticks c.osc c.instant + k) run in omega (arith, at)

-- ticks to a later instant, by way of an earlier one
pub ticks_on : (c : Clock) (s t : ℕ) → IsRunning c.osc → c.instant ≤ s → s ≤ t → ticks_to c t ≡ ticks_to c s + (ticks c.osc t - ticks c.osc s)
ticks_on c s t run early late =
    let before = ticks_rise c.osc c.instant s run early in
    let after = ticks_rise c.osc s t run late in
    omega (arith, before, after)

-- what a clock that was advanced shows after k more ticks
pub advanced_reading : (w t k : ℕ) (c : Clock) → reading_after w (advanced w t c) k ≡ reading_after w c (ticks_to c t + k)
advanced_reading w t k c =
    let j = ticks_to c t in
    let s = steering_of c in
    mod-add-mod (c.reading + elapsed c.g j s) (2 ^ w) (elapsed c.g k (steered c.g j s))
    ∙ ap (λ x. x % 2 ^ w) (let e = elapsed_splits c.g j k s in omega (arith, e))

pub advanced_tick : (w t k : ℕ) (c : Clock) → IsRunning c.osc → c.instant ≤ t → tick_after (advanced w t c) k ≡ tick_after c (ticks_to c t + k)
advanced_tick w t k c run late =
    let rise = ticks_rise c.osc c.instant t run late in
    let e : ticks c.osc t + k ≡ ticks c.osc c.instant + (ticks_to c t + k) = omega (arith, rise) in
    rw e refl

-- an advance to where it stands is none
pub advanced_here : (w : ℕ) (c : Clock) → c.reading < 2 ^ w → advanced w c.instant c ≡ c
advanced_here w c word =
    let none : ticks_to c c.instant ≡ 0 = omega arith in
    let same : (c.reading + 0) % 2 ^ w ≡ c.reading = mod-eq_of_lt (omega (arith, word)) ∙ omega arith in
    rw (none, same) refl

-- two advances are one
pub advanced_twice : (w s t : ℕ) (c : Clock) → IsRunning c.osc → c.instant ≤ s → s ≤ t → advanced w t (advanced w s c) ≡ advanced w t c
advanced_twice w s t c run early late =
    let on = ticks_on c s t run early late in
    let j = ticks_to c s in
    let k = ticks c.osc t - ticks c.osc s in
    let reads : reading_after w (advanced w s c) k ≡ reading_after w c (ticks_to c t) = advanced_reading w s k c ∙ ap (reading_after w c) (sym on) in
    let steers : steered c.g k (steered c.g j (steering_of c)) ≡ steered c.g (ticks_to c t) (steering_of c) = sym (ap (λ n. steered c.g n (steering_of c)) on ∙ steered_splits c.g j k (steering_of c)) in
    rw (reads, steers) refl

pub speed_least : (g j k : ℕ) (s : Steering) → elapsed g j s + 9 * k ≤ elapsed g (j + k) s
speed_least g j k s = let e = elapsed_splits g j k s in let least = elapsed_least g k (steered g j s) in omega (arith, e, least)

pub speed_most : (g j k : ℕ) (s : Steering) → elapsed g (j + k) s ≤ elapsed g j s + 11 * k
speed_most g j k s = let e = elapsed_splits g j k s in let most = elapsed_most g k (steered g j s) in omega (arith, e, most)
