-- The rows of an oscillator, gone over one by one: up to a time, and up to a tick.
use Rattle.std.proofs.Common.{◌≡◌, ℕ, ◌+◌, ◌-◌, ◌*◌, ◌/◌, ◌^◌, ◌<◌, ◌≤◌, List, [], ◌∷◌, length, drop, get_or, arith, ap, sym, ◌∙◌}
use Rattle.std.proofs.lemmas.List.{drop_more, drop_all}
use Rattle.std.proofs.Math.Nat.{mul-le-mul_left, mul-le-mul_right, div-mul-le_self, div-le_self}
use Rattle.osc_clock.specs.Ticks.{Rate, Oscillator, gap, instant, ticks, AreRising, IsRunning}
use Rattle.osc_clock.proofs.Gaps.{rising_from, period_before}
use Rattle.osc_clock.proofs.TickLaws.{number_first, ticks_between}
use Rattle.osc_clock.proofs.Pieces.{IsPiece, first_piece, next_piece, row_after, along, row_instant}

-- a row that was read is the first of those from its place on
pub row_there : (rows : List Rate) (i : ℕ) (row value : Rate) → i < length rows → value ≡ get_or rows i value → row ≡ value
    → drop i rows ≡ row ∷ drop (i + 1) rows
row_there rows i row value within is same =
    let first : get_or rows i value ≡ row = sym is ∙ sym same in
    drop_more rows i value within ∙ ap (λ r. r ∷ drop (i + 1) rows) first

-- a tick at or before t, how much time is left from it to t, and the rows that are left
pub record IsBefore (o : Oscillator) (rows : List Rate) (tick period left t : ℕ) : Type 0 where
  pub running : IsRunning o
  pub piece : IsPiece o rows tick period
  pub time : instant o tick + left ≡ t

pub before_first : (o : Oscillator) (t : ℕ) → IsRunning o → o.phase ≤ t → IsBefore o o.rates 1 o.period (t - o.phase) t
before_first o t running le =
    let one : instant o 1 ≡ o.phase = omega arith in
    record { running = running; piece = first_piece o running; time = omega (arith, one, le) }

-- the row that the walk has come to stands before those that are left
pub before_row : (o : Oscillator) (rows : List Rate) (i : ℕ) (row value : Rate) (tick period left t : ℕ) → i < length rows
    → value ≡ get_or rows i value → row ≡ value → IsBefore o (drop i rows) tick period left t
    → IsBefore o (row ∷ drop (i + 1) rows) tick period left t
before_row o rows i row value tick period left t within is same before = rw (row_there rows i row value within is same) at before

-- the whole periods up to a row that is reached fit into what is left
pub row_fits : (tick to period left : ℕ) → to ≤ tick + left / period → (to - tick) * period ≤ left
row_fits tick to period left le =
    let low : left / period * period ≤ left = div-mul-le_self left period in
    let few : to - tick ≤ left / period = omega (arith, le) in
    let rise : (to - tick) * period ≤ left / period * period = mul-le-mul_right period few in
    omega (arith, low, rise)

pub before_next : (o : Oscillator) (row : Rate) (rows : List Rate) (tick period left t : ℕ) → row.tick ≤ tick + left / period
    → IsBefore o (row ∷ rows) tick period left t
    → IsBefore o rows row.tick row.period (left - (row.tick - tick) * period) t
before_next o row rows tick period left t le before =
    let at = row_instant o row rows tick period before.piece in
    let fits = row_fits tick row.tick period left le in
    let time = before.time in
    record {
      running = before.running;
      piece = next_piece o row rows tick period before.piece;
      time = omega (arith, at, fits, time);
    }

-- no tick has a greater number than its time
pub before_small : (o : Oscillator) (rows : List Rate) (tick period left t : ℕ) → IsBefore o rows tick period left t → tick + left / period ≤ t
before_small o rows tick period left t before =
    let few = number_first o tick before.running in
    let small : left / period ≤ left = div-le_self left period in
    let time = before.time in
    omega (arith, few, small, time)

-- where the next row is past the periods that are left, these are the ticks
pub before_last : (o : Oscillator) (rows : List Rate) (tick period left t : ℕ) → IsBefore o rows tick period left t
    → AreRising (tick + left / period) rows → tick + left / period ≡ ticks o t
before_last o rows tick period left t before rising =
    let q = left / period in
    let piece = before.piece in
    let positive = piece.positive in
    let some = piece.some in
    let time = before.time in
    let at = along o rows tick period q piece (rising_from rows (tick + q - 1) (tick + q) (omega arith) rising) in
    let same : gap o (tick + q) ≡ period = piece.gaps (tick + q) (omega arith) ∙ period_before rows period (tick + q) rising in
    let low : q * period ≤ left = div-mul-le_self left period in
    let high : left < q * period + period = omega arith in
    sym (ticks_between o t (tick + q) before.running (omega (arith, at, low, time)) (omega (arith, at, same, high, time)))

pub before_end : (o : Oscillator) (rows : List Rate) (i tick period left t : ℕ) → length rows ≤ i → IsBefore o (drop i rows) tick period left t
    → tick + left / period ≡ ticks o t
before_end o rows i tick period left t past before =
    let none : drop i rows ≡ [] = drop_all i rows past in
    before_last o [] tick period left t (rw none at before) tt

-- before the first tick there is none
pub before_none : (o : Oscillator) (t : ℕ) → IsRunning o → t < o.phase → 0 ≡ ticks o t
before_none o t running before = sym (ticks_between o t 0 running (omega arith) (omega (arith, before)))

-- a tick not after the wanted one, its instant, and the rows that are left
pub record IsOnTheWay (o : Oscillator) (rows : List Rate) (tick period at wanted : ℕ) : Type 0 where
  pub piece : IsPiece o rows tick period
  pub time : instant o tick ≡ at
  pub low : tick ≤ wanted
  pub small : at < tick * 2 ^ 64
  pub fits : period < 2 ^ 64

pub way_first : (o : Oscillator) (wanted : ℕ) → IsRunning o → o.period < 2 ^ 64 → 1 ≤ wanted → IsOnTheWay o o.rates 1 o.period o.phase wanted
way_first o wanted running fits le =
    record { piece = first_piece o running; time = omega arith; low = le; small = omega (arith, running.within, fits); fits = fits }

pub way_row : (o : Oscillator) (rows : List Rate) (i : ℕ) (row value : Rate) (tick period at wanted : ℕ) → i < length rows
    → value ≡ get_or rows i value → row ≡ value → IsOnTheWay o (drop i rows) tick period at wanted
    → IsOnTheWay o (row ∷ drop (i + 1) rows) tick period at wanted
way_row o rows i row value tick period at wanted within is same way = rw (row_there rows i row value within is same) at way

-- instants stay below 2 ^ 64 for each tick
pub way_small : (tick to period at : ℕ) → tick ≤ to → period < 2 ^ 64 → at < tick * 2 ^ 64 → at + (to - tick) * period < to * 2 ^ 64
way_small tick to period at le fits small =
    let most : (to - tick) * period ≤ (to - tick) * 2 ^ 64 = mul-le-mul_left (to - tick) (omega (arith, fits)) in
    omega (arith, most, small, le)

pub way_next : (o : Oscillator) (row : Rate) (rows : List Rate) (tick period at wanted : ℕ) → row.tick ≤ wanted → row.period < 2 ^ 64
    → IsOnTheWay o (row ∷ rows) tick period at wanted
    → IsOnTheWay o rows row.tick row.period (at + (row.tick - tick) * period) wanted
way_next o row rows tick period at wanted le fits way =
    let time = way.time in
    let here = row_instant o row rows tick period way.piece in
    let after = row_after o row rows tick period way.piece in
    record {
      piece = next_piece o row rows tick period way.piece;
      time = omega (arith, here, time);
      low = le;
      small = way_small tick row.tick period at after way.fits way.small;
      fits = fits;
    }

-- no instant on the way is too large for 128 bits
pub way_fits : (o : Oscillator) (rows : List Rate) (tick period at wanted to : ℕ) → IsOnTheWay o rows tick period at wanted
    → tick ≤ to → to < 2 ^ 64 → at + (to - tick) * period < 2 ^ 128
way_fits o rows tick period at wanted to way le small =
    let below = way_small tick to period at le way.fits way.small in
    omega (arith, below, small)

-- where the next row is after the wanted tick, that tick is in this piece
pub way_last : (o : Oscillator) (rows : List Rate) (tick period at wanted : ℕ) → IsOnTheWay o rows tick period at wanted
    → AreRising wanted rows → at + (wanted - tick) * period ≡ instant o wanted
way_last o rows tick period at wanted way rising =
    let low = way.low in
    let time = way.time in
    let e : tick + (wanted - tick) ≡ wanted = omega (arith, low) in
    let there = along o rows tick period (wanted - tick) way.piece (rising_from rows (tick + (wanted - tick) - 1) wanted (omega (arith, low)) rising) in
    let same = ap (λ n. instant o n) e in
    omega (arith, there, same, time)

pub way_end : (o : Oscillator) (rows : List Rate) (i tick period at wanted : ℕ) → length rows ≤ i → IsOnTheWay o (drop i rows) tick period at wanted
    → at + (wanted - tick) * period ≡ instant o wanted
way_end o rows i tick period at wanted past way =
    let none : drop i rows ≡ [] = drop_all i rows past in
    way_last o [] tick period at wanted (rw none at way) tt
