-- What the lock numbers give.
use Rattle.std.specs.Prelude.{◌≡◌, ℕ, suc, zero, ◌+◌, ◌-◌, ◌*◌, ◌/◌, ◌<◌, ◌≤◌, min, ◌⊎◌, ℤ, pos, negsuc, ◌-ℤ◌, ◌≤ℤ◌, unsigned_abs}
use Rattle.std.specs.Int.{int_min}
use Rattle.std.proofs.Common.{arith, refl, inl, inr}
use Rattle.std.proofs.lemmas.Bool.{cases_lt}
use Rattle.std.proofs.lemmas.Grind.{div_ceil_times}
use Rattle.std.proofs.lemmas.Int.{ints}
use Rattle.std.proofs.lemmas.Nat.{mul-le}
use Rattle.std.proofs.Math.Nat.{mul-le-mul_right, lt_of_mul-lt-mul_left}
use Rattle.dc_bounds.specs.TickBounds.{tick_gap, least_ticks, jump}
use Rattle.dc_bounds.specs.LockNumbers.{period_fs, ticks_to_correction, gain, least_of, lock_step, reach_fs, silence_fs, sure_fall, lock_falls, lock_count}
use Rattle.dc_bounds.proofs.Growth.{jump_rises, jump_within, tick_gap_near}

least_of_two : (x y : ℤ) → (int_min x y ≤ℤ x) × (int_min x y ≤ℤ y)
least_of_two x y = (grind (arith, ints), grind (arith, ints))

least_below : (f : ℕ → ℤ) (n k : ℕ) → k ≤ n → least_of f n ≤ℤ f (k + 1)
least_below f zero k low = let e : k ≡ 0 = omega arith in rw e (grind (arith, ints))
least_below f (suc n) k low = by (cases_lt k (suc n)) (least_below f n k)
  where
    by : (k < suc n) ⊎ (suc n ≤ k) → (k ≤ n → least_of f n ≤ℤ f (k + 1)) → least_of f (suc n) ≤ℤ f (k + 1)
    by (inl here) earlier = let rest = earlier (omega (arith, here)) in let both = least_of_two (least_of f n) (f (n + 2)) in omega (arith, ints, rest, both.0)
    by (inr last) earlier = let e : k + 1 ≡ n + 2 = omega (arith, low, last) in rw e (least_of_two (least_of f n) (f (n + 2))).1

as_natural : (z : ℤ) → pos 1 ≤ℤ z → z ≡ pos (unsigned_abs z)
as_natural (pos n) some = refl
as_natural (negsuc n) some = absurd (omega (arith, ints, some))

pub fall_is : (ppm frame_ns speed m : ℕ) → pos 1 ≤ℤ lock_step ppm frame_ns speed m → lock_step ppm frame_ns speed m ≡ pos (sure_fall ppm frame_ns speed m)
fall_is ppm frame_ns speed m some = as_natural (lock_step ppm frame_ns speed m) some

some_abs : (z : ℤ) → pos 1 ≤ℤ z → 1 ≤ unsigned_abs z
some_abs (pos n) some = omega (arith, ints, some)
some_abs (negsuc n) some = absurd (omega (arith, ints, some))

pub some_fall : (ppm frame_ns speed m : ℕ) → pos 1 ≤ℤ lock_step ppm frame_ns speed m → 1 ≤ sure_fall ppm frame_ns speed m
some_fall ppm frame_ns speed m some = some_abs (lock_step ppm frame_ns speed m) some

-- a signed difference that is at least a natural number
within : (z : ℤ) (v q : ℕ) → pos 1 ≤ℤ z → z ≤ℤ (pos v -ℤ pos q) → unsigned_abs z + q ≤ v
within (pos n) v q some low = omega (arith, ints, low)
within (negsuc n) v q some low = absurd (omega (arith, ints, some))

pub sure : (ppm frame_ns speed m k : ℕ) → pos 1 ≤ℤ lock_step ppm frame_ns speed m → 1 ≤ k → k ≤ m + 1
    → sure_fall ppm frame_ns speed m + jump ppm (k * period_fs frame_ns) ≤ least_ticks ppm (k * period_fs frame_ns) / ticks_to_correction speed
sure ppm frame_ns speed m zero some low high = absurd (omega (arith, low))
sure ppm frame_ns speed m (suc j) some low high =
    let e : suc j ≡ j + 1 = omega arith in
    rw e (within (lock_step ppm frame_ns speed m) _ _ some (least_below (gain ppm frame_ns speed) m j (omega (arith, high))))

-- N falls are enough
pub enough : (ppm frame_ns speed m reach : ℕ) → pos 1 ≤ℤ lock_step ppm frame_ns speed m
    → jump ppm reach ≤ jump ppm (silence_fs m frame_ns) + lock_falls ppm frame_ns speed m reach * sure_fall ppm frame_ns speed m
enough ppm frame_ns speed m reach some =
    let up = div_ceil_times (jump ppm reach - jump ppm (silence_fs m frame_ns)) (sure_fall ppm frame_ns speed m) (some_fall ppm frame_ns speed m some) in
    from (jump ppm reach) (jump ppm (silence_fs m frame_ns)) _ up.0
  where
    from : (a b c : ℕ) → a - b ≤ c → a ≤ b + c
    from a b c low = omega (arith, low)

-- the widths
pub silence_within : (ppm measuring clocks m frame_ns : ℕ) → ppm ≤ 100 → jump ppm (silence_fs m frame_ns) ≤ jump ppm (reach_fs measuring clocks m frame_ns)
silence_within ppm measuring clocks m frame_ns small =
    jump_rises ppm (silence_fs m frame_ns) (reach_fs measuring clocks m frame_ns) small (mul-le-mul_right (period_fs frame_ns) (omega arith))

pub reach_few : (ppm measuring clocks m frame_ns : ℕ) → ppm ≤ 100 → measuring ≤ 256 → clocks ≤ 256 → m ≤ 15 → frame_ns ≤ 10000000
    → jump ppm (reach_fs measuring clocks m frame_ns) ≤ 3104400
reach_few ppm measuring clocks m frame_ns small p q r s =
    let reach = reach_fs measuring clocks m frame_ns in
    let far : reach ≤ 1552 * 10000000000000 = mul-le (3 * measuring + 3 * clocks + m + 1) (period_fs frame_ns) 1552 10000000000000 (omega (arith, p, q, r)) (omega (arith, s)) in
    widest (tick_gap ppm reach) (jump ppm reach) reach far (tick_gap_near ppm reach small) (jump_within ppm reach)
  where
    widest : (g q z : ℕ) → z ≤ 1552 * 10000000000000 → 9999 * g ≤ z + 9999 * 10002000 → 1000000 * q ≤ 2 * g → q ≤ 3104400
    widest g q z far gap jump = omega (arith, far, gap, jump)

-- from one receipt to the next, over k periods: v are the corrections that are sure
net_fall : (d left next v qk qm fall : ℕ) → left + min d v ≤ d → next ≤ left + qk → fall + qk ≤ v → qk ≤ qm → (next ≤ qm) ⊎ (next + fall ≤ d)
net_fall d left next v qk qm fall kept drift sure more = by (cases_lt d v)
  where
    by : (d < v) ⊎ (v ≤ d) → (next ≤ qm) ⊎ (next + fall ≤ d)
    by (inl all) = inl (omega (arith, kept, drift, more, all))
    by (inr some) = inr (omega (arith, kept, drift, sure, some))

pub falls : (ppm frame_ns speed m k d left next : ℕ) → ppm ≤ 100 → pos 1 ≤ℤ lock_step ppm frame_ns speed m → 1 ≤ k → k ≤ m + 1
    → left + min d (least_ticks ppm (k * period_fs frame_ns) / ticks_to_correction speed) ≤ d
    → next ≤ left + jump ppm (k * period_fs frame_ns)
    → (next ≤ jump ppm (silence_fs m frame_ns)) ⊎ (next + sure_fall ppm frame_ns speed m ≤ d)
falls ppm frame_ns speed m k d left next small some low high kept drift =
    net_fall d left next (least_ticks ppm (k * period_fs frame_ns) / ticks_to_correction speed) (jump ppm (k * period_fs frame_ns)) (jump ppm (silence_fs m frame_ns)) (sure_fall ppm frame_ns speed m)
    kept drift (sure ppm frame_ns speed m k some low high) (jump_rises ppm (k * period_fs frame_ns) (silence_fs m frame_ns) small (mul-le-mul_right (period_fs frame_ns) high))

-- the numbers of the frames that come, and the sizes of the differences at them
numbers : (frame : ℕ → ℕ) (g len : ℕ) → frame 0 ≤ g → ((j : ℕ) → suc j < len → frame (suc j) ≤ frame j + g) → (j : ℕ) → j < len → frame j ≤ (j + 1) * g
numbers frame g len a b zero l = omega (arith, a)
numbers frame g len a b (suc j) l = let on = b j l in let rest = numbers frame g len a b j (omega (arith, l)) in omega (arith, on, rest)

sizes : (size : ℕ → ℕ) (qz qm fall len : ℕ) → size 0 ≤ qz → ((j : ℕ) → suc j < len → (size (suc j) ≤ qm) ⊎ (size (suc j) + fall ≤ size j))
    → (j : ℕ) → j < len → (size j ≤ qm) ⊎ (size j + j * fall ≤ qz)
sizes size qz qm fall len a b zero l = inr (omega (arith, a))
sizes size qz qm fall len a b (suc j) l = on (b j l) (sizes size qz qm fall len a b j (omega (arith, l)))
  where
    on : (size (suc j) ≤ qm) ⊎ (size (suc j) + fall ≤ size j) → (size j ≤ qm) ⊎ (size j + j * fall ≤ qz) → (size (suc j) ≤ qm) ⊎ (size (suc j) + suc j * fall ≤ qz)
    on (inl x) y = inl x
    on (inr x) (inl y) = inl (omega (arith, x, y))
    on (inr x) (inr y) = inr (omega (arith, x, y))

pub after_receipts : (ppm frame_ns speed m reach : ℕ) (size : ℕ → ℕ) (len : ℕ) → size 0 ≤ jump ppm reach
    → ((j : ℕ) → suc j < len → (size (suc j) ≤ jump ppm (silence_fs m frame_ns)) ⊎ (size (suc j) + sure_fall ppm frame_ns speed m ≤ size j))
    → (j : ℕ) → j < len → (size j ≤ jump ppm (silence_fs m frame_ns)) ⊎ (size j + j * sure_fall ppm frame_ns speed m ≤ jump ppm reach)
after_receipts ppm frame_ns speed m reach size len first fall j l =
    sizes size (jump ppm reach) (jump ppm (silence_fs m frame_ns)) (sure_fall ppm frame_ns speed m) len first fall j l

fallen_within : (qz qm n f s : ℕ) → qz ≤ qm + n → n ≤ f → s + f ≤ qz → s ≤ qm
fallen_within qz qm n f s a b c = omega (arith, a, b, c)

pub locked : (ppm frame_ns speed m reach : ℕ) (frame size : ℕ → ℕ) (len : ℕ) → pos 1 ≤ℤ lock_step ppm frame_ns speed m
    → frame 0 ≤ m + 1 → ((j : ℕ) → suc j < len → frame (suc j) ≤ frame j + (m + 1))
    → size 0 ≤ jump ppm reach
    → ((j : ℕ) → suc j < len → (size (suc j) ≤ jump ppm (silence_fs m frame_ns)) ⊎ (size (suc j) + sure_fall ppm frame_ns speed m ≤ size j))
    → (j : ℕ) → j < len → lock_count ppm frame_ns speed m reach < frame j → size j ≤ jump ppm (silence_fs m frame_ns)
locked ppm frame_ns speed m reach frame size len some first on start fall j l late =
    let n = lock_falls ppm frame_ns speed m reach in
    let number : frame j ≤ (j + 1) * (m + 1) = numbers frame (m + 1) len first on j l in
    let far : n < j + 1 = lt_of_mul-lt-mul_left (m + 1) {m = n} {n = j + 1} (omega (arith, late, number)) in
    let fallen : n * sure_fall ppm frame_ns speed m ≤ j * sure_fall ppm frame_ns speed m = mul-le-mul_right (sure_fall ppm frame_ns speed m) (omega (arith, far)) in
    end (enough ppm frame_ns speed m reach some) fallen (after_receipts ppm frame_ns speed m reach size len start fall j l)
  where
    end : jump ppm reach ≤ jump ppm (silence_fs m frame_ns) + lock_falls ppm frame_ns speed m reach * sure_fall ppm frame_ns speed m
        → lock_falls ppm frame_ns speed m reach * sure_fall ppm frame_ns speed m ≤ j * sure_fall ppm frame_ns speed m
        → (size j ≤ jump ppm (silence_fs m frame_ns)) ⊎ (size j + j * sure_fall ppm frame_ns speed m ≤ jump ppm reach)
        → size j ≤ jump ppm (silence_fs m frame_ns)
    end wide fallen (inl x) = x
    end wide fallen (inr x) =
        fallen_within (jump ppm reach) (jump ppm (silence_fs m frame_ns)) (lock_falls ppm frame_ns speed m reach * sure_fall ppm frame_ns speed m) (j * sure_fall ppm frame_ns speed m) (size j) wide fallen x
