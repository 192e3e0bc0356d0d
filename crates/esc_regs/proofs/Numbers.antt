-- The bytes of a number that is written at a place, and of all others.
use Rattle.std.proofs.Common.{◌≡◌, ℕ, suc, zero, ◌+◌, ◌*◌, ◌^◌, ◌<◌, ◌≤◌, ◌++◌, ◌⊎◌, List, length, drop, slice_index, refl, arith, sym, ap, ◌∙◌, inl, inr}
use Rattle.std.proofs.lemmas.Grind.{common_steps}
use Rattle.std.proofs.lemmas.List.{get_or-drop}
use Rattle.std.proofs.Math.Nat.{pow-suc}
use Rattle.std.specs.Int.{byte_at, bytes_low_first}
use Rattle.byteorder.specs.Endian.{little_from}
use Rattle.byteorder.specs.Numbers.{little_number-reads_back, length-bytes_low_first}
use Rattle.esc_regs.specs.RegisterBytes.{number_at, with_number, AreApart}

-- a number reads its own bytes alone
little_from-same : (i n : ℕ) (xs ys : List ℕ) → ((k : ℕ) → i ≤ k → k < i + n → slice_index xs k ≡ slice_index ys k) → little_from i n xs ≡ little_from i n ys
little_from-same i zero xs ys same = refl
little_from-same i (suc n) xs ys same =
    let first : slice_index xs i ≡ slice_index ys i = same i (omega arith) (omega arith) in
    let rest : little_from (suc i) n xs ≡ little_from (suc i) n ys = little_from-same (suc i) n xs ys (λ k a b. same k (omega arith) (omega arith)) in
    rw (first, rest) refl

-- a byte outside the number is as it was
pub byte_outside : (n at x : ℕ) (bytes : List ℕ) (k : ℕ) → at + n ≤ length bytes → (k < at) ⊎ (at + n ≤ k) → slice_index (with_number n at x bytes) k ≡ slice_index bytes k
unfolding with_number
byte_outside n at x bytes k room outside =
    let e = length-bytes_low_first 0 n x in
    elim outside [ inl h ↦ grind (arith, common_steps) | inr h ↦ grind (arith, common_steps) ]

-- where two lists have the same bytes at two places, they have the same number there
pub same_numbers : (n at b : ℕ) (xs ys : List ℕ) → ((k : ℕ) → k < n → slice_index xs (at + k) ≡ slice_index ys (b + k)) → number_at n at xs ≡ number_at n b ys
unfolding number_at
same_numbers n at b xs ys same = little_from-same 0 n (drop at xs) (drop b ys) (λ k lo hi. rw (get_or-drop, get_or-drop) (same k (omega arith)))

-- a number that is written leaves the length
pub same_length : (n at x : ℕ) (bytes : List ℕ) → at + n ≤ length bytes → length (with_number n at x bytes) ≡ length bytes
unfolding with_number
same_length n at x bytes room = let e = length-bytes_low_first 0 n x in grind (arith, common_steps)

pub apart : (m at x : ℕ) (bytes : List ℕ) (b n : ℕ) → at + m ≤ length bytes → AreApart at m b n → number_at n b (with_number m at x bytes) ≡ number_at n b bytes
unfolding number_at
apart m at x bytes b n room far =
    little_from-same 0 n (drop b (with_number m at x bytes)) (drop b bytes) (λ k lo hi.
    rw (get_or-drop, get_or-drop) (byte_outside m at x bytes (b + k) room (elim far [ inl h ↦ inr (omega arith) | inr h ↦ inl (omega arith) ])))

-- the bytes of a number
pub byte_of_number : (i n x k : ℕ) → k < n → slice_index (bytes_low_first i n x) k ≡ byte_at (i + k) x
byte_of_number i zero x k h = absurd (omega arith)
byte_of_number i (suc n) x zero h = let e : i + 0 ≡ i = omega arith in ap (λ j. byte_at j x) (sym e)
byte_of_number i (suc n) x (suc k) h =
    let e : suc i + k ≡ i + suc k = omega arith in
    byte_of_number (suc i) n x k (omega arith) ∙ ap (λ j. byte_at j x) e

-- a byte inside the number is its own
pub byte_inside : (n at x : ℕ) (bytes : List ℕ) (k : ℕ) → at + n ≤ length bytes → k < n → slice_index (with_number n at x bytes) (at + k) ≡ byte_at k x
unfolding with_number
byte_inside n at x bytes k room h =
    let e = length-bytes_low_first 0 n x in
    let b = byte_of_number 0 n x k h in
    let z : 0 + k ≡ k = omega arith in
    let s : slice_index (with_number n at x bytes) (at + k) ≡ slice_index (bytes_low_first 0 n x) k = grind (arith, common_steps) in
    s ∙ b ∙ ap (λ j. byte_at j x) z

pub number_again : (n at x : ℕ) (bytes : List ℕ) → at + n ≤ length bytes → x < 256 ^ n → number_at n at (with_number n at x bytes) ≡ x
unfolding number_at with_number
number_again n at x bytes room fits =
    let e = length-bytes_low_first 0 n x in
    let d : drop at (with_number n at x bytes) ≡ bytes_low_first 0 n x ++ drop (at + n) bytes = grind (arith, common_steps) in
    ap (λ ys. little_from 0 n ys) d ∙ little_number-reads_back n x (drop (at + n) bytes) fits

-- the number of n bytes that a function gives, from a place on
unfoldable pub number_by : (ℕ → ℕ) → ℕ → ℕ → ℕ
number_by f zero at = 0
number_by f (suc n) at = f at + 256 * number_by f n (suc at)

little_from-by : (f : ℕ → ℕ) (i n at : ℕ) (bytes : List ℕ) → ((k : ℕ) → slice_index bytes k ≡ f k) → little_from i n (drop at bytes) ≡ number_by f n (at + i)
unfolding number_by
little_from-by f i zero at bytes same = refl
little_from-by f i (suc n) at bytes same =
    let first : slice_index (drop at bytes) i ≡ f (at + i) = rw get_or-drop (same (at + i)) in
    let e : at + suc i ≡ suc (at + i) = omega arith in
    let rest : little_from (suc i) n (drop at bytes) ≡ number_by f n (suc (at + i)) = little_from-by f (suc i) n at bytes same ∙ ap (number_by f n) e in
    rw (first, rest) refl

pub number_by-is : (f : ℕ → ℕ) (n at : ℕ) (bytes : List ℕ) → ((k : ℕ) → slice_index bytes k ≡ f k) → number_at n at bytes ≡ number_by f n at
unfolding number_at
number_by-is f n at bytes same =
    let e : at + 0 ≡ at = omega arith in
    little_from-by f 0 n at bytes same ∙ ap (number_by f n) e

-- a number that ends in zeros is that of the bytes before them
little_upper : (i m n : ℕ) (xs : List ℕ) → m ≤ n → ((j : ℕ) → i + m ≤ j → j < i + n → slice_index xs j ≡ 0) → little_from i n xs ≡ little_from i m xs
little_upper i zero zero xs le zeros = refl
little_upper i zero (suc n) xs le zeros =
    let first : slice_index xs i ≡ 0 = zeros i (omega arith) (omega arith) in
    let rest : little_from (suc i) n xs ≡ 0 = little_upper (suc i) zero n xs (omega arith) (λ j low high. zeros j (omega (arith, low)) (omega (arith, high))) in
    rw (first, rest) refl
little_upper i (suc m) zero xs le zeros = absurd (omega arith)
little_upper i (suc m) (suc n) xs le zeros =
    let rest : little_from (suc i) n xs ≡ little_from (suc i) m xs = little_upper (suc i) m n xs (omega arith) (λ j low high. zeros j (omega (arith, low)) (omega (arith, high))) in
    ap (λ y. slice_index xs i + 256 * y) rest

pub upper_zeros : (at : ℕ) (bytes : List ℕ) → ((k : ℕ) → 4 ≤ k → k < 8 → slice_index bytes (at + k) ≡ 0) → number_at 8 at bytes ≡ number_at 4 at bytes
unfolding number_at
upper_zeros at bytes zeros = little_upper 0 4 8 (drop at bytes) (omega arith) (λ j low high. rw get_or-drop (zeros j (omega (arith, low)) (omega (arith, high))))

-- a number of n bytes is below 256^n
little_fits : (i n : ℕ) (xs : List ℕ) → ((j : ℕ) → slice_index xs j < 256) → little_from i n xs < 256 ^ n
little_fits i zero xs fit = omega arith
little_fits i (suc n) xs fit =
    let first = fit i in
    let rest = little_fits (suc i) n xs fit in
    let power : 256 ^ suc n ≡ 256 * 256 ^ n = pow-suc 256 n ∙ omega arith in
    omega (arith, first, rest, power)

pub number_fits : (n at : ℕ) (bytes : List ℕ) → ((j : ℕ) → slice_index bytes j < 256) → number_at n at bytes < 256 ^ n
unfolding number_at
number_fits n at bytes fit = little_fits 0 n (drop at bytes) (λ j. rw get_or-drop (fit (at + j)))
