-- The signals of a segment, one row on, and the greatest window of their pairs.
use Rattle.std.specs.Prelude.{◌≡◌, ℕ, suc, ◌+◌, ◌<◌, max, Bool, true, false, if◌then◌else◌, List, [], ◌∷◌, ◌++◌, length, map, drop, slice_index_or, Option, Some, None, is_some}
use Rattle.std.specs.List.{All}
use Rattle.std.proofs.Common.{ap, sym, subst, refl, ◌∙◌, add-one, arith}
use Rattle.std.proofs.Math.Seq.{drop-cons}
use Rattle.std.proofs.lemmas.List.{get_or-map, length-append, length-map, map-append}
use Rattle.std.proofs.lemmas.List.Elements.{All-get_or, All-head, All-tail}
use Rattle.segment_file.specs.Segment.{RowValue, SegmentValue, is_clock, signals}
use Rattle.segment_file.specs.Legal.{IsClock, IsLegal}
use Rattle.segment_file.proofs.Exported.{count_by-cons}
use Rattle.segment_file.specs.Seen.{row_seen}
use Rattle.segment_file.specs.declared.slave_row.SlaveRow.{SlaveRow}
use Rattle.segment_bounds.specs.Bounded.{bounded, bounded_window}
use Rattle.segment_bounds.specs.Window.{signal, sync1_at, signals_at, signals_from, greatest_with, greatest, window_of}

signals_step : (rows : List RowValue) (i : ℕ) (d : RowValue) → i < length rows
    → signals_from i (drop i rows) ≡ signals_at i (slice_index_or rows i d) ++ signals_from (i + 1) (drop (i + 1) rows)
unfolding signals_from
signals_step rows i d low = rw add-one (ap (signals_from i) (drop-cons rows i d low))

-- the row of a slave
row_at : (rows : List SlaveRow) (seen : List RowValue) (i : ℕ) (d : SlaveRow) → map row_seen rows ≡ seen → i < length rows → d ≡ slice_index_or rows i d
    → slice_index_or seen i (row_seen d) ≡ row_seen d
row_at rows seen i d e low is = ap (λ xs. slice_index_or xs i (row_seen d)) (sym e) ∙ get_or-map row_seen rows i d (row_seen d) low ∙ ap row_seen (sym is)

seen_low : (rows : List SlaveRow) (seen : List RowValue) (i : ℕ) → map row_seen rows ≡ seen → i < length rows → i < length seen
seen_low rows seen i e low = let n = ap length e in omega (arith, n, length-map rows row_seen)

pub of_row : (P : RowValue → Type 0) (rows : List SlaveRow) (seen : List RowValue) (i : ℕ) (d : SlaveRow) → map row_seen rows ≡ seen → i < length rows → d ≡ slice_index_or rows i d
    → All P seen → P (row_seen d)
of_row P rows seen i d e low is all = subst P (row_at rows seen i d e low is) (All-get_or P seen i (row_seen d) (seen_low rows seen i e low) all)

pub signals_on : (s : SegmentValue) (rows : List SlaveRow) (seen : List RowValue) (i : ℕ) (d : SlaveRow) → map row_seen rows ≡ seen → i < length rows → d ≡ slice_index_or rows i d
    → map (bounded s) (signals_from i (drop i seen)) ≡ map (bounded s) (signals_at i (row_seen d)) ++ map (bounded s) (signals_from (i + 1) (drop (i + 1) seen))
signals_on s rows seen i d e low is =
    ap (map (bounded s)) (signals_step seen i (row_seen d) (seen_low rows seen i e low) ∙ ap (λ r. signals_at i r ++ signals_from (i + 1) (drop (i + 1) seen)) (row_at rows seen i d e low is))
    ∙ map-append (bounded s) (signals_at i (row_seen d)) (signals_from (i + 1) (drop (i + 1) seen))

-- the greatest of images
greatest_with_map : {X Y : Type 0} (f : X → Y) (number : Y → Y → ℕ) (a : X) (bs : List X) → greatest_with number (f a) (map f bs) ≡ greatest_with (λ x y. number (f x) (f y)) a bs
unfolding greatest_with
greatest_with_map f number a [] = refl
greatest_with_map f number a (b ∷ bs) = ap (max (number (f a) (f b))) (greatest_with_map f number a bs)

greatest_map : {X Y : Type 0} (f : X → Y) (number : Y → Y → ℕ) (as' : List X) → greatest number (map f as') ≡ greatest (λ x y. number (f x) (f y)) as'
unfolding greatest
greatest_map f number [] = refl
greatest_map f number (a ∷ as') =
    ap (λ m. max m (greatest number (map f as'))) (greatest_with_map f number a as') ∙ ap (max (greatest_with (λ x y. number (f x) (f y)) a as')) (greatest_map f number as')

pub greatest_of_segment : (s : SegmentValue) → greatest (bounded_window s.head.ppm) (map (bounded s) (signals_from 0 s.rows)) ≡ window_of s
unfolding window_of
greatest_of_segment s = greatest_map (bounded s) (bounded_window s.head.ppm) (signals_from 0 s.rows)

-- ---- how many signals there are

count_by_flags : (i shift_ns : ℕ) (clock : Bool) (sync1_ns : Option ℕ) → (clock ≡ false → sync1_ns ≡ None)
    → length (if clock then signal i shift_ns ∷ sync1_at i shift_ns sync1_ns else []) ≡ (if clock then 1 else 0) + (if is_some sync1_ns then 1 else 0)
count_by_flags i shift_ns true None none = refl
count_by_flags i shift_ns true (Some ns) none = refl
count_by_flags i shift_ns false None none = refl
count_by_flags i shift_ns false (Some ns) none = absurd (let e = none refl in cc)

pub counted_signals : (i cycle_ns : ℕ) (rows : List RowValue) → All (IsClock cycle_ns) rows → length (signals_from i rows) ≡ signals rows
unfolding signals_from
counted_signals i cycle_ns [] clocks = refl
counted_signals i cycle_ns (row ∷ rows) clocks =
    let one = count_by_flags i row.shift_ns (is_clock row) row.sync1_ns (λ e. ((All-head (IsClock cycle_ns) row rows clocks).signalless e).1) in
    let rest = counted_signals (suc i) cycle_ns rows (All-tail (IsClock cycle_ns) row rows clocks) in
    omega (arith, length-append (signals_at i row) (signals_from (suc i) rows), one, rest, count_by-cons is_clock row rows, count_by-cons (λ r. is_some r.sync1_ns) row rows)

pub legal_signals : (s : SegmentValue) → IsLegal s → length (signals_from 0 s.rows) ≡ signals s.rows
legal_signals s legal = counted_signals 0 s.head.cycle_ns s.rows legal.clocks
