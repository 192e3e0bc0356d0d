-- What k ticks work off.
use Rattle.std.specs.Prelude.{◌≡◌, ℕ, suc, zero, ◌+◌, ◌-◌, ◌*◌, ◌/◌, ◌<◌, ◌≤◌, min, ℤ, pos, negsuc, Bool, true, false, unsigned_abs}
use Rattle.std.proofs.Common.{arith, sym, ap, ◌∙◌, refl, subst, inl, inr}
use Rattle.std.proofs.lemmas.Int.{ints}
use Rattle.std.proofs.lemmas.Bool.{cases_lt}
use Rattle.std.proofs.Math.Nat.{div-add-mod', mod-lt, div-mul-le_self, mul-le-mul_right}
use Rattle.local_clock.specs.StepRule.{Steering, steered, elapsed}
use Rattle.local_clock.specs.AtOnce.{done}
use Rattle.local_clock.specs.WorkedOff.{IsSteady, IsTowardZero}
use Rattle.local_clock.proofs.AtOnce.{signed, steering, Balances, steered_at_once, elapsed_at_once, unsigned_abs-signed}

-- a signed number by its sign and its size
by_size : (z : ℤ) → (b : Bool) × (z ≡ signed b (unsigned_abs z))
by_size (pos n) = (false, refl)
by_size (negsuc n) = (true, refl)

signed_none : (b : Bool) → signed b 0 ≡ pos 0
signed_none false = refl
signed_none true = refl

toward_zero : (b : Bool) (n m : ℕ) → m ≤ n → IsTowardZero (signed b n) (signed b m)
toward_zero false n m h = record { above = λ _. omega (arith, ints); below = λ low. omega (arith, ints) }
toward_zero true zero m h = let none : m ≡ 0 = omega arith in rw none (record { above = λ _. omega (arith, ints); below = λ _. omega (arith, ints) })
toward_zero true (suc n) zero h = record { above = λ _. omega (arith, ints); below = λ _. omega (arith, ints) }
toward_zero true (suc n) (suc m) h = record { above = λ high. absurd (omega (arith, ints)); below = λ _. omega (arith, ints) }

worked_off_signed : (b : Bool) (n g k : ℕ) → 0 < g
    → (unsigned_abs (steered g k (record { left = signed b n; count = 0 })).left ≡ n - min n (k / g)) × IsTowardZero (signed b n) (steered g k (record { left = signed b n; count = 0 })).left
worked_off_signed b n g k some =
    let is : (steered g k (steering b n 0)).left ≡ signed b (n - done g n 0 k) = ap (λ s. s.left) (steered_at_once b g n 0 k some some (λ _. refl)) in
    let same : 0 + k ≡ k = omega arith in
    let much : done g n 0 k ≡ min n (k / g) = ap (λ x. min n (x / g)) same in
    (ap unsigned_abs is ∙ unsigned_abs-signed b (n - done g n 0 k) ∙ omega (arith, much), rw is (toward_zero b n (n - done g n 0 k) (omega arith)))

-- of a received difference
pub worked_off : (d : ℤ) (g k : ℕ) → 0 < g
    → (unsigned_abs (steered g k (record { left = d; count = 0 })).left ≡ unsigned_abs d - min (unsigned_abs d) (k / g)) × IsTowardZero d (steered g k (record { left = d; count = 0 })).left
worked_off d g k some =
    let e = by_size d in
    subst (λ z. (unsigned_abs (steered g k (record { left = z; count = 0 })).left ≡ unsigned_abs d - min (unsigned_abs d) (k / g)) × IsTowardZero z (steered g k (record { left = z; count = 0 })).left)
    (sym e.1) (worked_off_signed e.0 (unsigned_abs d) g k some)

-- a round of g ticks has one correction
rounds : (c g k : ℕ) → c < g → (c + k) / g ≤ k / g + 1
rounds c g k below =
    let some : 0 < g = omega arith in
    let low = div-mul-le_self (c + k) g in
    let d = div-add-mod' k g in
    let r = mod-lt k some in
    elim (cases_lt (k / g + 1) ((c + k) / g)) [
      | inr le ↦ le
      | inl over ↦
          let rise : (k / g + 2) * g ≤ (c + k) / g * g = mul-le-mul_right g (omega arith) in
          let parts : (k / g + 2) * g ≡ k / g * g + 2 * g = omega arith in
          absurd (omega (arith, low, d, r, rise, parts, below))
    ]

near_by : (b : Bool) (e d k r : ℕ) → Balances b e d k → d ≤ r → (e ≤ 10 * k + r) × (10 * k ≤ e + r)
near_by false e d k r h few = (omega arith, omega arith)
near_by true e d k r h few = (omega arith, omega arith)

pub corrections_few : (g k : ℕ) (s : Steering) → IsSteady g s → (elapsed g k s ≤ 10 * k + (k / g + 1)) × (10 * k ≤ elapsed g k s + (k / g + 1))
corrections_few g k s h =
    let e = by_size s.left in
    let n = unsigned_abs s.left in
    let rests : n ≡ 0 → s.count ≡ 0 = λ none. h.rests (e.1 ∙ ap (signed e.0) none ∙ signed_none e.0) in
    let few : done g n s.count k ≤ k / g + 1 = let r = rounds s.count g k h.below in omega (arith, r) in
    subst (λ z. (elapsed g k (record { left = z; count = s.count }) ≤ 10 * k + (k / g + 1)) × (10 * k ≤ elapsed g k (record { left = z; count = s.count }) + (k / g + 1))) (sym e.1)
    (near_by e.0 _ (done g n s.count k) k (k / g + 1) (elapsed_at_once e.0 g n s.count k (omega (arith, h.below)) h.below rests) few)

-- and no more than what is left
pub corrections_within : (g k : ℕ) (s : Steering) → IsSteady g s
    → (elapsed g k s ≤ 10 * k + unsigned_abs s.left) × (10 * k ≤ elapsed g k s + unsigned_abs s.left)
corrections_within g k s h =
    let e = by_size s.left in
    let n = unsigned_abs s.left in
    let rests : n ≡ 0 → s.count ≡ 0 = λ none. h.rests (e.1 ∙ ap (signed e.0) none ∙ signed_none e.0) in
    let few : done g n s.count k ≤ n = omega arith in
    subst (λ z. (elapsed g k (record { left = z; count = s.count }) ≤ 10 * k + n) × (10 * k ≤ elapsed g k (record { left = z; count = s.count }) + n)) (sym e.1)
    (near_by e.0 _ (done g n s.count k) k n (elapsed_at_once e.0 g n s.count k (omega (arith, h.below)) h.below rests) few)
