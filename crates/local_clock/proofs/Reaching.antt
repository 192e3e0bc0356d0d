-- A reading that rises by less than half the range comes to a value once.
use Rattle.std.specs.Prelude.{◌≡◌, ℕ, ◌+◌, ◌-◌, ◌*◌, ◌%◌, ◌^◌, ◌<◌, ◌≤◌, pos, negsuc, true, false, nat_lt, unsigned_abs, ◌<ℤ◌, ◌⊎◌}
use Rattle.std.proofs.Common.{arith, rules, sym, ap, ◌∙◌, refl, inl, inr}
use Rattle.std.proofs.lemmas.Int.{ints}
use Rattle.std.proofs.lemmas.Bool.{cases_lt}
use Rattle.std.proofs.lemmas.Bool.Decides.{nat_tests}
use Rattle.std.proofs.lemmas.Nat.{pow_pos}
use Rattle.std.proofs.Math.Nat.{mod-add-mod, mod-eq_of_lt, mod-lt, add-mul-mod_self_left}
use Rattle.wrap_time.specs.WordDifference.{signed_of, word_difference}
use Rattle.local_clock.specs.FirstReaching.{is_negative, is_behind, IsFirstReaching}
use Rattle.local_clock.specs.StepRule.{elapsed}
use Rattle.local_clock.specs.Reading.{Clock, steering_of}
use Rattle.local_clock.proofs.Elapsed.{elapsed_least, elapsed_rises, elapsed_last}

-- the difference before its sign is read
abbrev pub ahead : ℕ → ℕ → ℕ → ℕ
ahead w a v = (a + (2 ^ w - v)) % 2 ^ w

upper : (w n : ℕ) → 2 ^ (w - 1) ≤ n → is_negative (signed_of w n) ≡ true
upper w n h = let e : nat_lt n (2 ^ (w - 1)) ≡ false = search (rules, nat_tests) in rw e refl

lower : (w n : ℕ) → n < 2 ^ (w - 1) → is_negative (signed_of w n) ≡ false
lower w n h = let e : nat_lt n (2 ^ (w - 1)) ≡ true = search (rules, nat_tests) in rw e refl

-- a word that is behind, and how far
pub behind_by : (w a v : ℕ) → word_difference w a v <ℤ pos 0 → (2 ^ (w - 1) ≤ ahead w a v) × (ahead w a v < 2 ^ w) × (unsigned_abs (word_difference w a v) ≡ 2 ^ w - ahead w a v)
behind_by w a v h =
    let some : 0 < 2 ^ w = pow_pos w in
    let below : ahead w a v < 2 ^ w = mod-lt (a + (2 ^ w - v)) some in
    elim (cases_lt (ahead w a v) (2 ^ (w - 1))) [
      | inl low ↦
          let e : nat_lt (ahead w a v) (2 ^ (w - 1)) ≡ true = search (rules, nat_tests) in
          let is : word_difference w a v ≡ pos (ahead w a v) = rw e refl in
          absurd (omega (arith, ints, is))
      | inr high ↦
          let e : nat_lt (ahead w a v) (2 ^ (w - 1)) ≡ false = search (rules, nat_tests) in
          let is : word_difference w a v ≡ negsuc (2 ^ w - (ahead w a v + 1)) = rw e refl in
          (high, below, ap unsigned_abs is ∙ omega (arith, below))
    ]

-- d later
pub ahead_later : (w r e d v : ℕ) → ahead w ((r + (e + d)) % 2 ^ w) v ≡ (ahead w ((r + e) % 2 ^ w) v + d) % 2 ^ w
ahead_later w r e d v =
    let p : (r + (e + d)) + (2 ^ w - v) ≡ ((r + e) + (2 ^ w - v)) + d = omega arith in
    mod-add-mod (r + (e + d)) (2 ^ w) (2 ^ w - v) ∙ ap (λ x. x % 2 ^ w) p
    ∙ sym (ap (λ x. (x + d) % 2 ^ w) (mod-add-mod (r + e) (2 ^ w) (2 ^ w - v)) ∙ mod-add-mod ((r + e) + (2 ^ w - v)) (2 ^ w) d)

-- before the gap is passed it is still behind
pub still_behind : (w r e d v : ℕ) → 2 ^ (w - 1) ≤ ahead w ((r + e) % 2 ^ w) v → ahead w ((r + e) % 2 ^ w) v + d < 2 ^ w
    → is_behind w ((r + (e + d)) % 2 ^ w) v ≡ true
still_behind w r e d v high short =
    let is : ahead w ((r + (e + d)) % 2 ^ w) v ≡ ahead w ((r + e) % 2 ^ w) v + d = ahead_later w r e d v ∙ mod-eq_of_lt short in
    upper w (ahead w ((r + (e + d)) % 2 ^ w) v) (omega (arith, is, high))

-- just after, it is not
pub come_to : (w r e d v : ℕ) → ahead w ((r + e) % 2 ^ w) v < 2 ^ w → 2 ^ w ≤ ahead w ((r + e) % 2 ^ w) v + d → ahead w ((r + e) % 2 ^ w) v + d < 2 ^ w + 2 ^ (w - 1)
    → 2 ^ (w - 1) ≤ 2 ^ w → is_behind w ((r + (e + d)) % 2 ^ w) v ≡ false
come_to w r e d v below reached near half =
    let over : ahead w ((r + e) % 2 ^ w) v + d ≡ (ahead w ((r + e) % 2 ^ w) v + d - 2 ^ w) + 2 ^ w * 1 = omega arith in
    let is : ahead w ((r + (e + d)) % 2 ^ w) v ≡ ahead w ((r + e) % 2 ^ w) v + d - 2 ^ w =
    ahead_later w r e d v ∙ ap (λ x. x % 2 ^ w) over ∙ add-mul-mod_self_left (ahead w ((r + e) % 2 ^ w) v + d - 2 ^ w) (2 ^ w) 1 ∙ mod-eq_of_lt (omega (arith, near, half, reached)) in
    lower w (ahead w ((r + (e + d)) % 2 ^ w) v) (omega (arith, is, near, reached))

wide : (w : ℕ) → (w ≡ 32) ⊎ (w ≡ 64) → (11 ≤ 2 ^ (w - 1)) × (2 ^ (w - 1) ≤ 2 ^ w)
wide w (inl e) = rw e (omega arith, omega arith)
wide w (inr e) = rw e (omega arith, omega arith)

-- behind after one tick, it comes to v with the first tick that takes it over the gap
pub first_over : (w v : ℕ) (c : Clock) (k gap first : ℕ) → (w ≡ 32) ⊎ (w ≡ 64) → first ≡ elapsed c.g 1 (steering_of c)
    → word_difference w ((c.reading + first) % 2 ^ w) v <ℤ pos 0 → gap ≡ first + unsigned_abs (word_difference w ((c.reading + first) % 2 ^ w) v)
    → gap ≤ elapsed c.g k (steering_of c) → ((j : ℕ) → j < k → elapsed c.g j (steering_of c) < gap) → IsFirstReaching w v c k
first_over w v c k gap first width one negative is reached least =
    let b = behind_by w ((c.reading + first) % 2 ^ w) v negative in
    let size = wide w width in
    let e : ℕ → ℕ = λ j. elapsed c.g j (steering_of c) in
    let nine = elapsed_least c.g 1 (steering_of c) in
    let past : (j : ℕ) → 0 < j → e j ≡ first + (e j - first) = λ j some.
    let from : 1 + (j - 1) ≡ j = omega arith in
    let rise : elapsed c.g 1 (steering_of c) ≤ elapsed c.g j (steering_of c) = rw from at (elapsed_rises c.g 1 (j - 1) (steering_of c)) in
    omega (arith, rise, one) in
    let some : 0 < k = elim (cases_lt 0 k) [
      | inl some ↦ some
      | inr none ↦
          let zero_k : k ≡ 0 = omega arith in
          let none_elapsed : elapsed c.g k (steering_of c) ≡ 0 = rw zero_k refl in
          absurd (omega (arith, reached, none_elapsed, is, nine, one))
    ] in
    let before : (k - 1) < k = omega arith in
    let short = least (k - 1) before in
    let near = elapsed_last c.g k (steering_of c) some in
    let k_is = past k some in
    record {
      some = some;
      reached = rw k_is (come_to w c.reading first (e k - first) v b.1 (omega (arith, reached, is, b.0, b.1, b.2, k_is)) (omega (arith, near, short, is, b.1, b.2, k_is, size.0)) size.1);
      before = λ j positive low.
          let j_is = past j positive in
          let under = least j low in
          rw j_is (still_behind w c.reading first (e j - first) v b.0 (omega (arith, under, is, b.1, b.2, j_is)));
    }
