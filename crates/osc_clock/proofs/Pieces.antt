-- Pieces of constant period: the ticks from one row of rates to the next.
use Rattle.std.proofs.Common.{◌≡◌, ℕ, suc, zero, ◌+◌, ◌-◌, ◌*◌, ◌<◌, ◌≤◌, List, ◌∷◌, refl, arith, ap, ◌∙◌}
use Rattle.osc_clock.specs.Ticks.{Rate, Oscillator, period_at, gap, instant, AreRising, IsRunning}
use Rattle.osc_clock.proofs.Gaps.{rising_from, period_before, period_after}

-- from a tick on the gaps are the given period and the rows that are left
pub record IsPiece (o : Oscillator) (rows : List Rate) (tick period : ℕ) : Type 0 where
  pub some : 0 < tick
  pub positive : 0 < period
  pub gaps : (k : ℕ) → tick ≤ k → gap o k ≡ period_at rows period k
  pub later : AreRising (tick - 1) rows

pub first_piece : (o : Oscillator) → IsRunning o → IsPiece o o.rates 1 o.period
first_piece o running = record {
  some = omega arith;
  positive = omega (arith, running.some, running.within);
  gaps = gaps;
  later = running.rising;
}
  where
    gaps : (k : ℕ) → 1 ≤ k → gap o k ≡ period_at o.rates o.period k
    gaps zero le = absurd (omega (arith, le))
    gaps (suc k) le = refl

pub next_piece : (o : Oscillator) (row : Rate) (rows : List Rate) (tick period : ℕ) → IsPiece o (row ∷ rows) tick period
    → IsPiece o rows row.tick row.period
next_piece o row rows tick period piece =
    let after : tick ≤ row.tick = omega (arith, piece.some, piece.later.0) in
    record {
      some = omega (arith, piece.some, after);
      positive = piece.later.1;
      gaps = λ k le. piece.gaps k (omega (arith, after, le)) ∙ period_after row rows period k le;
      later = rising_from rows (row.tick - 1) row.tick (omega arith) piece.later.2;
    }

-- the next row is not before the piece
pub row_after : (o : Oscillator) (row : Rate) (rows : List Rate) (tick period : ℕ) → IsPiece o (row ∷ rows) tick period → tick ≤ row.tick
row_after o row rows tick period piece = omega (arith, piece.some, piece.later.0)

-- up to the first row that is left, ticks come a period apart
pub along : (o : Oscillator) (rows : List Rate) (tick period k : ℕ) → IsPiece o rows tick period → AreRising (tick + k - 1) rows
    → instant o (tick + k) ≡ instant o tick + k * period
along o rows tick period zero piece rising = let e : tick + 0 ≡ tick = omega arith in let same = ap (λ n. instant o n) e in omega (arith, same)
along o rows tick period (suc k) piece rising =
    let e : tick + suc k ≡ suc (tick + k) = omega arith in
    let next = ap (λ n. instant o n) e in
    let before = along o rows tick period k piece (rising_from rows (tick + k - 1) (tick + suc k - 1) (omega arith) rising) in
    let here = rising_from rows (tick + k) (tick + suc k - 1) (omega arith) rising in
    let same : gap o (tick + k) ≡ period = piece.gaps (tick + k) (omega arith) ∙ period_before rows period (tick + k) here in
    let product : suc k * period ≡ k * period + period = omega arith in
    omega (arith, next, before, same, product)

-- when the row that ends a piece begins
pub row_instant : (o : Oscillator) (row : Rate) (rows : List Rate) (tick period : ℕ) → IsPiece o (row ∷ rows) tick period
    → instant o row.tick ≡ instant o tick + (row.tick - tick) * period
row_instant o row rows tick period piece =
    let after : tick ≤ row.tick = row_after o row rows tick period piece in
    let e : tick + (row.tick - tick) ≡ row.tick = omega (arith, after) in
    let some : 0 < row.tick = omega (arith, after, piece.some) in
    let before : tick + (row.tick - tick) - 1 < row.tick = omega (arith, after, some) in
    rw e at (along o (row ∷ rows) tick period (row.tick - tick) piece (before, piece.later.1, piece.later.2))
