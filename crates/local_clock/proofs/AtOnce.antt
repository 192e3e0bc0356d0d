-- Many ticks at once, by a division.
use Rattle.std.proofs.Common.{◌≡◌, ℕ, suc, zero, ◌+◌, ◌-◌, ◌*◌, ◌/◌, ◌%◌, ◌<◌, ◌≤◌, ℤ, pos, negsuc, Bool, true, false, nat_lt, nat_le, cond, refl, arith, rules, sym, ap, ◌∙◌, inl, inr, ◌⊎◌}
use Rattle.std.proofs.lemmas.Int.{ints}
use Rattle.std.specs.Prelude.{unsigned_abs, ◌<ℤ◌, ◌≤ℤ◌, ◌+ℤ◌, ◌-ℤ◌}
use Rattle.std.proofs.Math.IntN.{neg_ℤ}
use Rattle.std.proofs.lemmas.Bool.{cases_lt}
use Rattle.std.proofs.lemmas.Bool.Decides.{nat_tests}
use Rattle.std.proofs.lemmas.Nat.{div-mul-add, mod-mul-add, le-div}
use Rattle.std.proofs.Math.Nat.{div-add-mod', mod-lt, div-mul-le_self, div-eq_of_lt, mod-eq_of_lt}
use Rattle.local_clock.specs.StepRule.{Steering, step, next, steered, elapsed}
use Rattle.local_clock.specs.AtOnce.{done, counted}

-- a number with a sign
abbrev pub signed : Bool → ℕ → ℤ
signed false n = pos n
signed true zero = pos 0
signed true (suc n) = negsuc n

abbrev pub steering : Bool → ℕ → ℕ → Steering
steering b n c = record { left = signed b n; count = c }

next_none : (b : Bool) (g c : ℕ) → next g (steering b 0 c) ≡ steering b 0 c
next_none false g c = refl
next_none true g c = refl

next_turn : (b : Bool) (g n c : ℕ) → next g (steering b (suc n) c) ≡ cond (nat_le g (c + 1)) (steering b n 0) (steering b (suc n) (c + 1))
next_turn false g n c = refl
next_turn true g zero c = refl
next_turn true g (suc n) c = refl

-- the next tick of a round that is not full
div_within : (g t : ℕ) → 0 < g → t % g + 1 < g → ((t + 1) / g ≡ t / g) × ((t + 1) % g ≡ t % g + 1)
div_within g t some h =
    let e : t / g * g + (t % g + 1) ≡ t + 1 = let d = div-add-mod' t g in omega arith in
    (rw (← e) (div-mul-add (t / g) g (t % g + 1) h), rw (← e) (mod-mul-add (t / g) g (t % g + 1) h))

-- the tick that fills a round
div_full : (g t : ℕ) → 0 < g → g ≤ t % g + 1 → ((t + 1) / g ≡ t / g + 1) × ((t + 1) % g ≡ 0)
div_full g t some h =
    let r : t % g < g = mod-lt t some in
    let e : (t / g + 1) * g + 0 ≡ t + 1 = let d = div-add-mod' t g in omega arith in
    (rw (← e) (div-mul-add (t / g + 1) g 0 some), rw (← e) (mod-mul-add (t / g + 1) g 0 some))

div_rise : (a b g : ℕ) → 0 < g → a ≤ b → a / g ≤ b / g
div_rise a b g some h = let low = div-mul-le_self a g in le-div (a / g) b g some (omega (arith, low))

same_steering : (b : Bool) (m r m' r' : ℕ) → m ≡ m' → r ≡ r' → steering b m r ≡ steering b m' r'
same_steering b m r m' r' p q = rw (p, q) refl

turn_within : (b : Bool) (g n r : ℕ) → r + 1 < g → next g (steering b (suc n) r) ≡ steering b (suc n) (r + 1)
turn_within b g n r h = let e : nat_le g (r + 1) ≡ false = search (rules, nat_tests) in next_turn b g n r ∙ rw e refl

turn_full : (b : Bool) (g n r : ℕ) → g ≤ r + 1 → next g (steering b (suc n) r) ≡ steering b n 0
turn_full b g n r h = let e : nat_le g (r + 1) ≡ true = search (rules, nat_tests) in next_turn b g n r ∙ rw e refl

counted_left : (g n c k : ℕ) → (c + k) / g < n → counted g n c k ≡ (c + k) % g
counted_left g n c k h = let e : nat_lt ((c + k) / g) n ≡ true = search (rules, nat_tests) in rw e refl

counted_gone : (g n c k : ℕ) → n ≤ (c + k) / g → counted g n c k ≡ 0
counted_gone g n c k h = let e : nat_lt ((c + k) / g) n ≡ false = search (rules, nat_tests) in rw e refl

-- one more tick while something is left
more_left : (b : Bool) (g n c k : ℕ) → 0 < g → (c + k) / g < n → next g (steering b (n - done g n c k) (counted g n c k)) ≡ steering b (n - done g n c (suc k)) (counted g n c (suc k))
more_left b g n c k some left =
    let r : (c + k) % g < g = mod-lt (c + k) some in
    let here : n - done g n c k ≡ suc (n - (c + k) / g - 1) = omega arith in
    let was = same_steering b _ _ (suc (n - (c + k) / g - 1)) ((c + k) % g) here (counted_left g n c k left) in
    let e : c + suc k ≡ c + k + 1 = omega arith in
    elim (cases_lt ((c + k) % g + 1) g) [
      | inl within ↦
          let d = div_within g (c + k) some within in
          let q : (c + suc k) / g ≡ (c + k) / g = rw e d.0 in
          let m : (c + suc k) % g ≡ (c + k) % g + 1 = rw e d.1 in
          ap (next g) was ∙ turn_within b g _ _ within
          ∙ same_steering b _ _ _ _ (omega (arith, q)) (sym (counted_left g n c (suc k) (omega (arith, q)) ∙ m))
      | inr full ↦
          let d = div_full g (c + k) some full in
          let q : (c + suc k) / g ≡ (c + k) / g + 1 = rw e d.0 in
          let m : (c + suc k) % g ≡ 0 = rw e d.1 in
          ap (next g) was ∙ turn_full b g _ _ full
          ∙ same_steering b _ _ _ _ (omega (arith, q))
          (elim (cases_lt ((c + suc k) / g) n) [
            | inl still ↦ sym (counted_left g n c (suc k) still ∙ m)
            | inr gone ↦ sym (counted_gone g n c (suc k) gone)
          ])
    ]

-- and when nothing is left
more_gone : (b : Bool) (g n c k : ℕ) → 0 < g → n ≤ (c + k) / g → next g (steering b (n - done g n c k) (counted g n c k)) ≡ steering b (n - done g n c (suc k)) (counted g n c (suc k))
more_gone b g n c k some gone =
    let rise : (c + k) / g ≤ (c + suc k) / g = div_rise (c + k) (c + suc k) g some (omega arith) in
    let here : n - done g n c k ≡ 0 = omega arith in
    let there : n - done g n c (suc k) ≡ 0 = omega (arith, rise) in
    ap (next g) (same_steering b _ _ 0 0 here (counted_gone g n c k gone)) ∙ next_none b g 0
    ∙ same_steering b _ _ _ _ (sym there) (sym (counted_gone g n c (suc k) (omega (arith, rise))))

-- the state after k ticks
pub steered_at_once : (b : Bool) (g n c k : ℕ) → 0 < g → c < g → (n ≡ 0 → c ≡ 0) → steered g k (steering b n c) ≡ steering b (n - done g n c k) (counted g n c k)
steered_at_once b g n c zero some below rests =
    let q : (c + 0) / g ≡ 0 = div-eq_of_lt (omega arith) in
    let m : (c + 0) % g ≡ c = mod-eq_of_lt (omega arith) ∙ omega arith in
    same_steering b _ _ _ _ (omega (arith, q))
    (elim (cases_lt ((c + 0) / g) n) [
      | inl left ↦ sym (counted_left g n c 0 left ∙ m)
      | inr gone ↦ rests (omega (arith, q)) ∙ sym (counted_gone g n c 0 gone)
    ])
steered_at_once b g n c (suc k) some below rests =
    ap (next g) (steered_at_once b g n c k some below rests)
    ∙ elim (cases_lt ((c + k) / g) n) [ inl left ↦ more_left b g n c k some left | inr gone ↦ more_gone b g n c k some gone ]

-- a step that corrects
abbrev corrected : Bool → ℕ
corrected false = 9
corrected true = 11

step_within : (b : Bool) (g n r : ℕ) → r + 1 < g → step g (steering b n r) ≡ 10
step_within b g n r h = let e : nat_le g (r + 1) ≡ false = search (rules, nat_tests) in rw e refl

step_full : (b : Bool) (g n r : ℕ) → g ≤ r + 1 → step g (steering b (suc n) r) ≡ corrected b
step_full false g n r h = let e : nat_le g (r + 1) ≡ true = search (rules, nat_tests) in rw e refl
step_full true g n r h = let e : nat_le g (r + 1) ≡ true = search (rules, nat_tests) in rw e refl

step_none : (b : Bool) (g r : ℕ) → step g (steering b 0 r) ≡ 10
step_none false g r = grind (arith, nat_tests)
step_none true g r = grind (arith, nat_tests)

-- what the corrections so far took off 10 ns a tick, or added
abbrev pub Balances : Bool → ℕ → ℕ → ℕ → Type 0
Balances false e d k = e + d ≡ 10 * k
Balances true e d k = e ≡ 10 * k + d

balances_step : (b : Bool) (e d k s d' : ℕ) → Balances b e d k → ((s ≡ 10) × (d' ≡ d)) ⊎ ((s ≡ corrected b) × (d' ≡ d + 1)) → Balances b (e + s) d' (suc k)
balances_step false e d k s d' h (inl p) = let a = p.0 in let c = p.1 in omega arith
balances_step false e d k s d' h (inr p) = let a = p.0 in let c = p.1 in omega arith
balances_step true e d k s d' h (inl p) = let a = p.0 in let c = p.1 in omega arith
balances_step true e d k s d' h (inr p) = let a = p.0 in let c = p.1 in omega arith

step_at : (b : Bool) (g n c k : ℕ) → 0 < g → let s = step g (steering b (n - done g n c k) (counted g n c k)) in ((s ≡ 10) × (done g n c (suc k) ≡ done g n c k)) ⊎ ((s ≡ corrected b) × (done g n c (suc k) ≡ done g n c k + 1))
step_at b g n c k some =
    let r : (c + k) % g < g = mod-lt (c + k) some in
    let e : c + suc k ≡ c + k + 1 = omega arith in
    elim (cases_lt ((c + k) / g) n) [
      | inl left ↦
          let here : n - done g n c k ≡ suc (n - (c + k) / g - 1) = omega arith in
          let was = ap (step g) (same_steering b _ _ (suc (n - (c + k) / g - 1)) ((c + k) % g) here (counted_left g n c k left)) in
          elim (cases_lt ((c + k) % g + 1) g) [
            | inl within ↦
                let d = div_within g (c + k) some within in
                let q : (c + suc k) / g ≡ (c + k) / g = rw e d.0 in
                inl (was ∙ step_within b g _ _ within, omega (arith, q))
            | inr full ↦
                let d = div_full g (c + k) some full in
                let q : (c + suc k) / g ≡ (c + k) / g + 1 = rw e d.0 in
                inr (was ∙ step_full b g _ _ full, omega (arith, q))
          ]
      | inr gone ↦
          let rise = div_rise (c + k) (c + suc k) g some (omega arith) in
          let here : n - done g n c k ≡ 0 = omega arith in
          inl (ap (step g) (same_steering b _ _ 0 0 here (counted_gone g n c k gone)) ∙ step_none b g 0, omega (arith, rise))
    ]

-- the steps of k ticks
pub elapsed_at_once : (b : Bool) (g n c k : ℕ) → 0 < g → c < g → (n ≡ 0 → c ≡ 0) → Balances b (elapsed g k (steering b n c)) (done g n c k) k
elapsed_at_once false g n c zero some below rests = let q : (c + 0) / g ≡ 0 = div-eq_of_lt (omega arith) in omega (arith, q)
elapsed_at_once true g n c zero some below rests = let q : (c + 0) / g ≡ 0 = div-eq_of_lt (omega arith) in omega (arith, q)
elapsed_at_once b g n c (suc k) some below rests =
    let at = step_at b g n c k some in
    balances_step b _ _ k _ _ (elapsed_at_once b g n c k some below rests) (rw (steered_at_once b g n c k some below rests) at)

-- a number that is not above 0, by its size
pub below_zero : (z : ℤ) → (z ≤ℤ pos 0) → z ≡ signed true (unsigned_abs z)
below_zero (pos zero) h = refl
below_zero (pos (suc n)) h = absurd (omega (arith, ints))
below_zero (negsuc n) h = refl

-- and one above 0
pub above_zero : (z : ℤ) → (pos 0 <ℤ z) → z ≡ pos (unsigned_abs z)
above_zero (pos n) h = refl
above_zero (negsuc n) h = absurd (omega (arith, ints))

abbrev pub steering_at : ℤ → ℕ → Steering
steering_at z c = record { left = z; count = c }

-- what k ticks leave of a difference, and what they take off or add
pub record Ticked (b : Bool) (z : ℤ) (c g k d q : ℕ) : Type 0 where
  pub elapsed : Balances b (elapsed g k (steering_at z c)) d k
  pub left : (steered g k (steering_at z c)).left ≡ signed b (unsigned_abs z - d)
  pub count : (steered g k (steering_at z c)).count ≡ q
  pub fits : d ≤ unsigned_abs z

ticked_signed : (b : Bool) (z : ℤ) (c g k d q : ℕ) → z ≡ signed b (unsigned_abs z) → c < g → (unsigned_abs z ≡ 0 → c ≡ 0) → d ≡ done g (unsigned_abs z) c k → q ≡ counted g (unsigned_abs z) c k → Ticked b z c g k d q
ticked_signed b z c g k d q e below rests is counts =
    let n = unsigned_abs z in
    let s : steering_at z c ≡ steering b n c = ap (λ x. steering_at x c) e in
    let all = steered_at_once b n c k in
    record {
      elapsed = rw (s, is) (elapsed_at_once b g n c k (omega arith) below rests);
      left = rw (s, is) (ap (λ x. x.left) (steered_at_once b g n c k (omega arith) below rests));
      count = rw (s, counts) (ap (λ x. x.count) (steered_at_once b g n c k (omega arith) below rests));
      fits = omega arith;
    }

pub ticked_above : (z : ℤ) (c g k d q : ℕ) → pos 0 <ℤ z → c < g → d ≡ done g (unsigned_abs z) c k → q ≡ counted g (unsigned_abs z) c k → Ticked false z c g k d q
ticked_above z c g k d q some below is counts =
    let e = above_zero z some in
    ticked_signed false z c g k d q e below (λ none. absurd (let f : z ≡ pos 0 = e ∙ ap pos none in omega (arith, ints))) is counts

pub ticked_below : (z : ℤ) (c g k d q : ℕ) → z ≤ℤ pos 0 → c < g → (z ≡ pos 0 → c ≡ 0) → d ≡ done g (unsigned_abs z) c k → q ≡ counted g (unsigned_abs z) c k → Ticked true z c g k d q
ticked_below z c g k d q most below rests is counts =
    let e = below_zero z most in
    ticked_signed true z c g k d q e below (λ none. rests (e ∙ ap (signed true) none)) is counts

-- the same as a sum
pub less_by : (z : ℤ) (d : ℕ) → pos 0 <ℤ z → d ≤ unsigned_abs z → signed false (unsigned_abs z - d) ≡ z -ℤ pos d
less_by z d some fits = let e = above_zero z some in omega (arith, ints)

pub signed_true : (m : ℕ) → signed true m ≡ neg_ℤ (pos m)
signed_true zero = refl
signed_true (suc m) = refl

pub more_by : (z : ℤ) (d : ℕ) → z ≤ℤ pos 0 → d ≤ unsigned_abs z → signed true (unsigned_abs z - d) ≡ z +ℤ pos d
more_by z d most fits =
    let e : z ≡ neg_ℤ (pos (unsigned_abs z)) = below_zero z most ∙ signed_true (unsigned_abs z) in
    signed_true (unsigned_abs z - d) ∙ omega (arith, ints)

pub unsigned_abs-signed : (b : Bool) (m : ℕ) → unsigned_abs (signed b m) ≡ m
unsigned_abs-signed false m = refl
unsigned_abs-signed true zero = refl
unsigned_abs-signed true (suc m) = refl
