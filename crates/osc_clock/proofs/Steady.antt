-- How long gaps stay as they are, and what ticks come by then.
use Rattle.std.proofs.Common.{◌≡◌, ℕ, suc, zero, ◌+◌, ◌-◌, ◌*◌, ◌/◌, ◌^◌, ◌<◌, ◌≤◌, List, [], ◌∷◌, length, drop, get_or, refl, arith, ap, sym, ◌∙◌, inl, inr}
use Rattle.std.proofs.lemmas.Bool.{cases_lt}
use Rattle.std.proofs.lemmas.Bool.Decides.{nat_tests}
use Rattle.std.proofs.Math.Nat.{div-mul-le_self, lt-div-mul-add}
use Rattle.osc_clock.specs.Ticks.{Rate, Oscillator, period_at, gap, instant, ticks, AreRising, IsRunning}
use Rattle.osc_clock.specs.Standing.{row_after, steady_until}
use Rattle.osc_clock.proofs.Gaps.{gap_some, period_before, period_after}
use Rattle.osc_clock.proofs.TickLaws.{ticks_between}
use Rattle.osc_clock.proofs.Walks.{row_there}
use Rattle.std.proofs.lemmas.List.{drop_all}

pub gap_of_row : (o : Oscillator) (k : ℕ) → 1 ≤ k → gap o k ≡ period_at o.rates o.period k
gap_of_row o zero some = absurd (omega (arith, some))
gap_of_row o (suc k) some = refl

pub until_of_row : (o : Oscillator) (k : ℕ) → 1 ≤ k → steady_until o k ≡ row_after o.rates k
until_of_row o zero some = absurd (omega (arith, some))
until_of_row o (suc k) some = refl

-- a row after the tick ends the search for one
pub row_is_after : (rate : Rate) (rates : List Rate) (k : ℕ) → k < rate.tick → row_after (rate ∷ rates) k ≡ rate.tick
row_is_after rate rates k lt = grind (arith, nat_tests)

pub row_is_before : (rate : Rate) (rates : List Rate) (k : ℕ) → rate.tick ≤ k → row_after (rate ∷ rates) k ≡ row_after rates k
row_is_before rate rates k le = grind (arith, nat_tests)

-- the same period, up to the same row
record IsSame (rates : List Rate) (period k j : ℕ) : Type 0 where
  gap : period_at rates period j ≡ period_at rates period k
  row : row_after rates j ≡ row_after rates k

same_rows : (rates : List Rate) (period low k j : ℕ) → AreRising low rates → k ≤ j → j < row_after rates k → IsSame rates period k j
same_rows [] period low k j rising le within = record { gap = refl; row = refl }
same_rows (rate ∷ rates) period low k j rising le within = elim (cases_lt k rate.tick) [
  | inl before ↦
      let first = row_is_after rate rates k before in
      let low : j < rate.tick = omega (arith, first, within) in
      record {
        gap = period_before (rate ∷ rates) period j (low, rising.1, rising.2)
            ∙ sym (period_before (rate ∷ rates) period k (before, rising.1, rising.2));
        row = row_is_after rate rates j low ∙ sym first;
      }
  | inr after ↦
      let next = row_is_before rate rates k after in
      let same = same_rows rates rate.period rate.tick k j rising.2 le (omega (arith, next, within)) in
      let later : rate.tick ≤ j = omega (arith, after, le) in
      record {
        gap = period_after rate rates period j later ∙ same.gap ∙ sym (period_after rate rates period k after);
        row = row_is_before rate rates j later ∙ same.row ∙ sym next;
      }
]

pub record IsAsBefore (o : Oscillator) (k j : ℕ) : Type 0 where
  pub gap : gap o j ≡ gap o k
  pub until : steady_until o j ≡ steady_until o k

pub stays : (o : Oscillator) (k j : ℕ) → IsRunning o → k ≤ j → j < steady_until o k → IsAsBefore o k j
stays o zero j running le within =
    let same : j ≡ 0 = omega (arith, within) in
    record { gap = ap (gap o) same; until = ap (steady_until o) same }
stays o (suc k) j running le within =
    let some : 1 ≤ j = omega (arith, le) in
    let same = same_rows o.rates o.period 0 (suc k) j running.rising le within in
    record { gap = gap_of_row o j some ∙ same.gap; until = until_of_row o j some ∙ same.row }

-- up to there the ticks come a gap apart
pub apart : (o : Oscillator) (k n : ℕ) → IsRunning o → k + n < steady_until o k → instant o (k + n) ≡ instant o k + n * gap o k
apart o k zero running within = let e : k + 0 ≡ k = omega arith in let same = ap (instant o) e in omega (arith, same)
apart o k (suc n) running within =
    let e : k + suc n ≡ suc (k + n) = omega arith in
    let next = ap (instant o) e in
    let before = apart o k n running (omega (arith, within)) in
    let same = (stays o k (k + n) running (omega arith) (omega (arith, within))).gap in
    let product : suc n * gap o k ≡ n * gap o k + gap o k = omega arith in
    omega (arith, next, before, same, product)

-- so many ticks come after tick k in a time that the gap divides, where they stay so
pub steady_ticks : (o : Oscillator) (k time t n : ℕ) → IsRunning o → instant o k + time ≡ t → n ≡ time / gap o k → n < steady_until o k - k
    → ticks o t ≡ k + n
steady_ticks o k time t n running is count within =
    let inside : k + n < steady_until o k = omega (arith, within) in
    let at = apart o k n running inside in
    let same = (stays o k (k + n) running (omega arith) inside).gap in
    let low : time / gap o k * gap o k ≤ time = div-mul-le_self time (gap o k) in
    let high : time < time / gap o k * gap o k + gap o k = lt-div-mul-add (gap_some o k running) in
    let product : n * gap o k ≡ time / gap o k * gap o k = ap (λ m. m * gap o k) count in
    ticks_between o t (k + n) running (omega (arith, at, low, product, is)) (omega (arith, at, same, high, product, is))

-- the rows that are left say of a tick what all rows say
pub record IsLeft (o : Oscillator) (rows : List Rate) (period tick : ℕ) : Type 0 where
  pub gap : gap o tick ≡ period_at rows period tick
  pub until : steady_until o tick ≡ row_after rows tick
  pub low : ℕ
  pub rising : AreRising low rows

pub left_first : (o : Oscillator) (tick : ℕ) → IsRunning o → 1 ≤ tick → IsLeft o o.rates o.period tick
left_first o tick running some = record { gap = gap_of_row o tick some; until = until_of_row o tick some; low = 0; rising = running.rising }

-- the row that the walk has come to stands before those that are left
pub left_row : (o : Oscillator) (rows : List Rate) (i : ℕ) (row value : Rate) (period tick : ℕ) → i < length rows → value ≡ get_or rows i value → row ≡ value
    → IsLeft o (drop i rows) period tick → IsLeft o (row ∷ drop (i + 1) rows) period tick
left_row o rows i row value period tick within is same left = rw (row_there rows i row value within is same) at left

pub left_next : (o : Oscillator) (row : Rate) (rows : List Rate) (period tick : ℕ) → row.tick ≤ tick → IsLeft o (row ∷ rows) period tick → IsLeft o rows row.period tick
left_next o row rows period tick le left = record {
  gap = left.gap ∙ period_after row rows period tick le;
  until = left.until ∙ row_is_before row rows tick le;
  low = row.tick;
  rising = left.rising.2;
}

-- where the next row is after the tick
pub left_gap : (o : Oscillator) (row : Rate) (rows : List Rate) (period tick : ℕ) → tick < row.tick → IsLeft o (row ∷ rows) period tick → period ≡ gap o tick
left_gap o row rows period tick before left = sym (left.gap ∙ period_before (row ∷ rows) period tick (before, left.rising.1, left.rising.2))

pub left_until : (o : Oscillator) (row : Rate) (rows : List Rate) (period tick : ℕ) → tick < row.tick → IsLeft o (row ∷ rows) period tick → row.tick ≡ steady_until o tick
left_until o row rows period tick before left = sym (left.until ∙ row_is_after row rows tick before)

-- and where there is none
pub end_gap : (o : Oscillator) (rows : List Rate) (i period tick : ℕ) → length rows ≤ i → IsLeft o (drop i rows) period tick → period ≡ gap o tick
end_gap o rows i period tick past left = let none : drop i rows ≡ [] = drop_all i rows past in sym (left.gap ∙ ap (λ r. period_at r period tick) none)

pub end_until : (o : Oscillator) (rows : List Rate) (i period tick : ℕ) → length rows ≤ i → IsLeft o (drop i rows) period tick → 2 ^ 64 - 1 ≡ steady_until o tick
end_until o rows i period tick past left = let none : drop i rows ≡ [] = drop_all i rows past in sym (left.until ∙ ap (λ r. row_after r tick) none)
