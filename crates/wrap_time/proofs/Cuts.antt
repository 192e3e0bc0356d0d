-- Sums and differences of the words of numbers.
use Rattle.std.proofs.Common.{◌≡◌, ℕ, ◌+◌, ◌-◌, ◌*◌, ◌/◌, ◌%◌, ◌^◌, ◌<◌, ◌≤◌, mul_assoc, arith, sym, ap, ◌∙◌}
use Rattle.std.proofs.lemmas.Nat.{pow_pos, pow-add}
use Rattle.std.proofs.Math.Nat.{mod-add-mod, mod-eq_of_lt, mod-lt, add-mul-mod_self_left}
use Rattle.wrap_time.specs.WordLess.{word_less}
use Rattle.wrap_time.proofs.Near.{ahead}

-- whole ranges of a wrapped number do not show
whole_ranges : (m x y k : ℕ) → x ≡ y + m * k → x % m ≡ y % m
whole_ranges m x y k is = ap (λ n. n % m) is ∙ add-mul-mod_self_left y m k

pub sum_of_cuts : (w u n : ℕ) → (u % 2 ^ w + n % 2 ^ w) % 2 ^ w ≡ (u + n) % 2 ^ w
sum_of_cuts w u n =
    let some : 0 < 2 ^ w = pow_pos w in
    sym (whole_ranges (2 ^ w) (u + n) (u % 2 ^ w + n % 2 ^ w) (u / 2 ^ w + n / 2 ^ w) (omega arith))

pub sum_of_cut : (w u n : ℕ) → (u % 2 ^ w + n) % 2 ^ w ≡ (u + n) % 2 ^ w
sum_of_cut w u n = mod-add-mod u (2 ^ w) n

pub cut_of_cut : (v w u : ℕ) → v ≤ w → u % 2 ^ w % 2 ^ v ≡ u % 2 ^ v
cut_of_cut v w u narrow =
    let e : v + (w - v) ≡ w = omega arith in
    let p : 2 ^ w ≡ 2 ^ v * 2 ^ (w - v) = ap (λ n. 2 ^ n) (sym e) ∙ pow-add 2 v (w - v) in
    let some : 0 < 2 ^ w = pow_pos w in
    let parts : u ≡ u % 2 ^ w + 2 ^ w * (u / 2 ^ w) = omega arith in
    let ranges : 2 ^ w * (u / 2 ^ w) ≡ 2 ^ v * (2 ^ (w - v) * (u / 2 ^ w)) = ap (λ n. n * (u / 2 ^ w)) p ∙ mul_assoc (2 ^ v) (2 ^ (w - v)) (u / 2 ^ w) in
    sym (whole_ranges (2 ^ v) u (u % 2 ^ w) (2 ^ (w - v) * (u / 2 ^ w)) (parts ∙ ap (λ n. u % 2 ^ w + n) ranges))

pub difference_of_cut : (w u n : ℕ) → n ≤ u → word_less w (u % 2 ^ w) n ≡ (u - n) % 2 ^ w
difference_of_cut w u n le =
    let some : 0 < 2 ^ w = pow_pos w in
    mod-add-mod u (2 ^ w) (2 ^ w - n % 2 ^ w)
    ∙ whole_ranges (2 ^ w) (u + (2 ^ w - n % 2 ^ w)) (u - n) (n / 2 ^ w + 1) (omega arith)

pub less_and_back : (w a n : ℕ) → a < 2 ^ w → (word_less w a n + n) % 2 ^ w ≡ a
less_and_back w a n fits =
    let some : 0 < 2 ^ w = pow_pos w in
    mod-add-mod (a + (2 ^ w - n % 2 ^ w)) (2 ^ w) n
    ∙ whole_ranges (2 ^ w) (a + (2 ^ w - n % 2 ^ w) + n) a (n / 2 ^ w + 1) (omega arith)
    ∙ mod-eq_of_lt fits

pub latched_difference : (w x y : ℕ) → x ≤ y → y < x + 2 ^ w → word_less w (y % 2 ^ w) (x % 2 ^ w) ≡ y - x
latched_difference w x y le near =
    let some : 0 < 2 ^ w = pow_pos w in
    let e : x + (y - x) ≡ y = omega arith in
    let cut : x % 2 ^ w % 2 ^ w ≡ x % 2 ^ w = mod-eq_of_lt (mod-lt x some) in
    let d : (y % 2 ^ w + (2 ^ w - x % 2 ^ w)) % 2 ^ w ≡ y - x = rw e at (ahead (2 ^ w) x (y - x) some (omega (arith, near))) in
    rw cut d

pub offset_sum : (w e u z z0 : ℕ) → z0 ≤ z → z0 % 2 ^ w ≡ u → (z % 2 ^ w + word_less w e u) % 2 ^ w ≡ (e + (z - z0)) % 2 ^ w
offset_sum w e u z z0 from is =
    let some : 0 < 2 ^ w = pow_pos w in
    let cut : u % 2 ^ w ≡ u = ap (λ n. n % 2 ^ w) (sym is) ∙ mod-eq_of_lt (mod-lt z0 some) ∙ is in
    sum_of_cuts w z (e + (2 ^ w - u % 2 ^ w))
    ∙ whole_ranges (2 ^ w) (z + (e + (2 ^ w - u % 2 ^ w))) (e + (z - z0)) (z0 / 2 ^ w + 1) (omega (arith, is, cut))
