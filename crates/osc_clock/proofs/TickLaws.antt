-- What holds of the ticks of every oscillator that runs.
use Rattle.std.proofs.Common.{◌≡◌, ℕ, suc, zero, ◌+◌, ◌*◌, ◌<◌, ◌≤◌, [], refl, arith, ap, ◌∙◌, inl, inr}
use Rattle.std.specs.Prelude.{nat_le, if◌then◌else◌}
use Rattle.std.proofs.lemmas.Bool.{cases_lt}
use Rattle.std.proofs.lemmas.Bool.Decides.{nat_tests}
use Rattle.std.specs.List.{All}
use Rattle.osc_clock.specs.Ticks.{Oscillator, period_at, gap, instant, ticks_among, ticks, IsRunning}
use Rattle.osc_clock.specs.IntervalTicks.{HasGaps}
use Rattle.osc_clock.proofs.Gaps.{gap_some, period_within}

pub instants_rise : (o : Oscillator) (j k : ℕ) → IsRunning o → j < k → instant o j < instant o k
instants_rise o j zero running less = absurd (omega (arith, less))
instants_rise o j (suc k) running less =
    let some = gap_some o k running in
    elim (cases_lt j k) [
      | inl before ↦ let earlier = instants_rise o j k running before in omega (arith, earlier, some)
      | inr here ↦
          let same : j ≡ k = omega (arith, less, here) in
          let e = ap (λ n. instant o n) same in
          omega (arith, e, some)
    ]

pub instants_stay : (o : Oscillator) (j k : ℕ) → IsRunning o → j ≤ k → instant o j ≤ instant o k
instants_stay o j k running le =
    elim (cases_lt j k) [
      | inl less ↦ let rise = instants_rise o j k running less in omega (arith, rise)
      | inr not ↦ let same : j ≡ k = omega (arith, le, not) in let e = ap (λ n. instant o n) same in omega (arith, e)
    ]

-- a tick's number is at most its instant
pub number_first : (o : Oscillator) (k : ℕ) → IsRunning o → k ≤ instant o k
number_first o zero running = omega arith
number_first o (suc k) running =
    let below = number_first o k running in
    let some = gap_some o k running in
    omega (arith, below, some)

-- of the ticks 1 to n at most n are at or before t
pub among_few : (o : Oscillator) (t n : ℕ) → ticks_among o t n ≤ n
among_few o t zero = omega arith
among_few o t (suc n) = let few = among_few o t n in among_next (instant o (suc n)) t (ticks_among o t n) n few
  where
    among_next : (at t count n : ℕ) → count ≤ n → count + (if nat_le at t then 1 else 0) ≤ suc n
    among_next at t count n few = grind (arith, nat_tests)

pub counts : (at t count : ℕ) → at ≤ t → count + (if nat_le at t then 1 else 0) ≡ suc count
counts at t count le = grind (arith, nat_tests)

pub counts_not : (at t count : ℕ) → t < at → count + (if nat_le at t then 1 else 0) ≡ count
counts_not at t count lt = grind (arith, nat_tests)

-- a tick that is reached has those before it reached
among_all : (o : Oscillator) (t n : ℕ) → IsRunning o → instant o n ≤ t → ticks_among o t n ≡ n
among_all o t zero running le = refl
among_all o t (suc n) running le =
    let some = gap_some o n running in
    let before = among_all o t n running (omega (arith, le, some)) in
    counts (instant o (suc n)) t (ticks_among o t n) le ∙ ap suc before

pub among_more : (o : Oscillator) (t n m : ℕ) → n ≤ m → ticks_among o t n ≤ ticks_among o t m
among_more o t n zero le = let none : n ≡ 0 = omega (arith, le) in rw none (omega arith)
among_more o t n (suc m) le =
    elim (cases_lt m n) [
      | inl all ↦ let same : n ≡ suc m = omega (arith, le, all) in rw same (omega arith)
      | inr less ↦
          let earlier = among_more o t n m less in
          counts_more (ticks_among o t n) (instant o (suc m)) t (ticks_among o t m) earlier
    ]
  where
    counts_more : (low at t count : ℕ) → low ≤ count → low ≤ count + (if nat_le at t then 1 else 0)
    counts_more low at t count le = grind (arith, nat_tests)

-- ticks after t add nothing
pub counted : (o : Oscillator) (t n : ℕ) → IsRunning o → t ≤ n → ticks_among o t n ≡ ticks o t
counted o t zero running le = let none : 0 ≡ t = omega (arith, le) in ap (λ k. ticks_among o t k) none
counted o t (suc n) running le =
    elim (cases_lt n t) [
      | inl all ↦ let same : suc n ≡ t = omega (arith, le, all) in ap (λ k. ticks_among o t k) same
      | inr less ↦
          let after = number_first o (suc n) running in
          counts_not (instant o (suc n)) t (ticks_among o t n) (omega (arith, after, less)) ∙ counted o t n running less
    ]

-- a tick at or before t is among those that are counted
pub reached : (o : Oscillator) (t k : ℕ) → IsRunning o → instant o k ≤ t → k ≤ ticks o t
reached o t k running le =
    let few = number_first o k running in
    let all = among_all o t k running le in
    let more = among_more o t k t (omega (arith, few, le)) in
    omega (arith, all, more)

-- no more are counted than come before the first that is after t
among_few_before : (o : Oscillator) (t k n : ℕ) → IsRunning o → t < instant o (suc k) → ticks_among o t n ≤ k
among_few_before o t k zero running after = omega arith
among_few_before o t k (suc n) running after =
    elim (cases_lt n k) [
      | inl before ↦ let few = among_few o t (suc n) in omega (arith, few, before)
      | inr past ↦
          let later : instant o (suc k) ≤ instant o (suc n) = instants_stay o (suc k) (suc n) running (omega (arith, past)) in
          let same = counts_not (instant o (suc n)) t (ticks_among o t n) (omega (arith, after, later)) in
          let few = among_few_before o t k n running after in
          omega (arith, same, few)
    ]

-- and a tick that is counted is at or before t
pub not_after : (o : Oscillator) (t k : ℕ) → IsRunning o → k ≤ ticks o t → instant o k ≤ t
not_after o t zero running le = omega arith
not_after o t (suc k) running le =
    elim (cases_lt t (instant o (suc k))) [
      | inl after ↦ let few = among_few_before o t k t running after in absurd (omega (arith, few, le))
      | inr before ↦ before
    ]

pub ticks_rise : (o : Oscillator) (s t : ℕ) → IsRunning o → s ≤ t → ticks o s ≤ ticks o t
ticks_rise o s t running le =
    let at = not_after o s (ticks o s) running (omega arith) in
    reached o t (ticks o s) running (omega (arith, at, le))

-- the number of ticks is that of the last tick at or before t
pub ticks_between : (o : Oscillator) (t k : ℕ) → IsRunning o → instant o k ≤ t → t < instant o (suc k) → ticks o t ≡ k
ticks_between o t k running from to =
    let most = among_few_before o t k t running to in
    let least = reached o t k running from in
    omega (arith, most, least)

pub ticks_at : (o : Oscillator) (k : ℕ) → IsRunning o → ticks o (instant o k) ≡ k
ticks_at o k running =
    let some = gap_some o k running in
    ticks_between o (instant o k) k running (omega arith) (omega (arith, some))

pub one_at_a_time : (o : Oscillator) (t : ℕ) → IsRunning o → ticks o (suc t) ≤ suc (ticks o t)
one_at_a_time o t running = last (ticks o (suc t)) (omega arith)
  where
    last : (n : ℕ) → n ≤ ticks o (suc t) → n ≤ suc (ticks o t)
    last zero le = omega arith
    last (suc n) le =
        let at = not_after o (suc t) (suc n) running le in
        let some = gap_some o n running in
        let before = reached o t n running (omega (arith, at, some)) in
        omega (arith, before)

-- the tick after the last that is counted is after t
pub next_after : (o : Oscillator) (t : ℕ) → IsRunning o → t < instant o (suc (ticks o t))
next_after o t running =
    elim (cases_lt t (instant o (suc (ticks o t)))) [
      | inl after ↦ after
      | inr before ↦ let more = reached o t (suc (ticks o t)) running before in absurd (omega (arith, more))
    ]

-- periods between two bounds, and a first tick within the greater, make gaps between them
pub gaps_within : (o : Oscillator) (low high : ℕ) → o.phase ≤ high → low ≤ o.period → o.period ≤ high
    → All (λ rate. (low ≤ rate.period) × (rate.period ≤ high)) o.rates → HasGaps low high o
gaps_within o low high first least most each = record { least = least_gap; most = most_gap }
  where
    least_gap : (k : ℕ) → 0 < k → low ≤ gap o k
    least_gap zero some = absurd (omega (arith, some))
    least_gap (suc k) some = (period_within o.rates low high o.period (suc k) least most each).0

    most_gap : (k : ℕ) → gap o k ≤ high
    most_gap zero = first
    most_gap (suc k) = (period_within o.rates low high o.period (suc k) least most each).1

-- k ticks take at least k of the least gaps
least_apart : (o : Oscillator) (low high a k : ℕ) → HasGaps low high o → 0 < a → instant o a + k * low ≤ instant o (a + k)
least_apart o low high a zero gaps some = let e : a + 0 ≡ a = omega arith in rw e (omega arith)
least_apart o low high a (suc k) gaps some =
    let e : a + suc k ≡ suc (a + k) = omega arith in
    let before = least_apart o low high a k gaps some in
    let least = gaps.least (a + k) (omega (arith, some)) in
    let product : suc k * low ≡ k * low + low = omega arith in
    rw e (omega (arith, before, least, product))

-- and at most k of the greatest, from true time 0 on too
most_apart : (o : Oscillator) (low high a k : ℕ) → HasGaps low high o → instant o (a + k) ≤ instant o a + k * high
most_apart o low high a zero gaps = let e : a + 0 ≡ a = omega arith in rw e (omega arith)
most_apart o low high a (suc k) gaps =
    let e : a + suc k ≡ suc (a + k) = omega arith in
    let before = most_apart o low high a k gaps in
    let most = gaps.most (a + k) in
    let product : suc k * high ≡ k * high + high = omega arith in
    rw e (omega (arith, before, most, product))

pub spaced : (o : Oscillator) (low high a k : ℕ) → HasGaps low high o → 0 < a
    → (instant o a + k * low ≤ instant o (a + k)) × (instant o (a + k) ≤ instant o a + k * high)
spaced o low high a k gaps some = (least_apart o low high a k gaps some, most_apart o low high a k gaps)

-- k + 1 ticks after a and up to b take more than k of the least gaps
pub not_too_many : (o : Oscillator) (low high a b k : ℕ) → IsRunning o → HasGaps low high o → a ≤ b
    → ticks o a + suc k ≡ ticks o b → a + k * low < b
not_too_many o low high a b k running gaps le is =
    let first : a < instant o (suc (ticks o a)) = next_after o a running in
    let apart = least_apart o low high (suc (ticks o a)) k gaps (omega arith) in
    let last = not_after o b (suc (ticks o a) + k) running (omega (arith, is)) in
    omega (arith, first, apart, last)

-- k ticks after a and up to b are all that less than k + 1 of the greatest gaps hold
pub not_too_few : (o : Oscillator) (low high a b k : ℕ) → IsRunning o → HasGaps low high o → a ≤ b
    → ticks o a + k ≡ ticks o b → b < a + suc k * high
not_too_few o low high a b k running gaps le is =
    let e : suc (ticks o b) ≡ ticks o a + suc k = omega (arith, is) in
    let next = ap (λ n. instant o n) e in
    let after = next_after o b running in
    let apart = most_apart o low high (ticks o a) (suc k) gaps in
    let first = not_after o a (ticks o a) running (omega arith) in
    omega (arith, next, after, apart, first)

-- without rates every gap but the first is the period
pub steady : (o : Oscillator) (k : ℕ) → o.rates ≡ [] → instant o (suc k) ≡ o.phase + k * o.period
steady o zero none = omega arith
steady o (suc k) none =
    let before = steady o k none in
    let same : gap o (suc k) ≡ o.period = ap (λ rates. period_at rates o.period (suc k)) none in
    let e : suc k * o.period ≡ k * o.period + o.period = omega arith in
    omega (arith, before, same, e)
