-- A legal segment as it begins.
use Rattle.std.proofs.Common.{◌≡◌, ℕ, zero, suc, ◌+◌, ◌<◌, ◌≤◌, true, List, [], ◌∷◌, ◌++◌, length, map, take, get_or, Option, Some, None, refl, sym, ap, ◌∙◌, arith}
use Rattle.std.specs.Prelude.{IfSome, slice_index_or, slice_index}
use Rattle.std.proofs.lemmas.List.{take_more, length-map}
use Rattle.std.proofs.lemmas.List.Elements.{All-get_or}
use Rattle.osc_clock.specs.Ticks.{IsRunning}
use Rattle.cable_tree.specs.Row.{Row}
use Rattle.cable_tree.specs.FrameOrder.{order}
use Rattle.cable_tree.specs.PathSums.{arrive, port_time, round_trip}
use Rattle.cable_tree.specs.Segment.{IsSegment}
use Rattle.cable_tree.specs.declared.port.Port.{Port}
use Rattle.cable_tree.specs.declared.port.Port.TheVariants.{P1, P2, P3}
use Rattle.cable_tree.proofs.Exported.{port_time_inside, inside}
use Rattle.esc_regs.specs.Kinds.{greatest_start, measures}
use Rattle.segment_file.specs.Segment.{RowValue, SegmentValue, no_row, oscillator, tree_rows}
use Rattle.segment_file.specs.Legal.{IsLegal, IsClock, KeepsTime}
use Rattle.segment_file.specs.Seen.{row_seen}
use Rattle.segment_file.specs.declared.slave_row.SlaveRow.{SlaveRow}
use Rattle.segment_file.proofs.Exported.{legal_round_trip, order_many, row_within, legal_clocks}
use Rattle.frame_pass.specs.SlaveState.{Slave}
use Rattle.frame_pass.specs.Invariants.{IsWithin}
use Rattle.wire_sim.specs.InTime.{IsInTime}

-- no way is longer than 10 ms
pub way_short : (s : SegmentValue) → IsLegal s → round_trip (tree_rows s.rows) ≤ 10000000000000
way_short s legal =
    let back = legal_round_trip s legal in
    let period : s.head.frame_ns ≤ 10000000 = legal.head.frame_ns.1 in
    omega (arith, back, period)

back_short : (rows : List Row) (r : ℕ) (p : Port) (o : Option ℕ) → IsSegment rows → r < length rows → round_trip rows ≤ 10000000000000 → port_time rows r p ≡ o
    → IfSome o (λ at. at ≤ 10000000000000)
back_short rows r p None tree low short e = tt
back_short rows r p (Some t) tree low short e = let b = (port_time_inside rows tree.tree tree.slaves r p low t e).1 in omega (arith, b, short)

pub visits_short : (rows : List Row) (r a : ℕ) (b c d : Option ℕ) → IsSegment rows → r < length rows → round_trip rows ≤ 10000000000000
    → a ≡ arrive rows r → b ≡ port_time rows r P3 → c ≡ port_time rows r P1 → d ≡ port_time rows r P2
    → IsWithin 10000000000000 (record { arrive = a; back3 = b; back1 = c; back2 = d })
visits_short rows r a b c d tree low short ea eb ec ed = record {
  arrive = let i = inside rows tree.tree tree.slaves r low in omega (arith, i, ea, short);
  back3 = back_short rows r P3 b tree low short (sym eb);
  back1 = back_short rows r P1 c tree low short (sym ec);
  back2 = back_short rows r P2 d tree low short (sym ed);
}

-- a row of the file
seen_at : (rows : List SlaveRow) (r : ℕ) (d : SlaveRow) → r < length rows → slice_index_or (map row_seen rows) r no_row ≡ row_seen (get_or rows r d)
seen_at [] r d h = absurd (omega (arith, h))
seen_at (x ∷ rows) zero d h = refl
seen_at (x ∷ rows) (suc r) d h = seen_at rows r d (omega (arith, h))

pub row_is : (rows : List SlaveRow) (seen : List RowValue) (r : ℕ) (d : SlaveRow) → map row_seen rows ≡ seen → r < length seen
    → slice_index_or seen r no_row ≡ row_seen (get_or rows r d)
row_is rows seen r d e h =
    let many = length-map rows row_seen in
    let low : r < length rows = let same = ap length e in omega (arith, h, many, same) in
    ap (λ xs. slice_index_or xs r no_row) (sym e) ∙ seen_at rows r d low

-- its start, and its oscillator
pub start_low : (s : SegmentValue) (r : ℕ) (row : RowValue) → IsLegal s → r < length s.rows → slice_index_or s.rows r no_row ≡ row → row.start ≤ greatest_start row.kind
start_low s r row legal low e =
    let clock : IsClock s.head.cycle_ns (slice_index_or s.rows r no_row) = All-get_or (IsClock s.head.cycle_ns) s.rows r no_row low legal.clocks in
    (rw e at clock).start

pub runs : (s : SegmentValue) (r : ℕ) (row : RowValue) → IsLegal s → r < length s.rows → slice_index_or s.rows r no_row ≡ row → measures row.kind ≡ true → IsRunning (oscillator row)
runs s r row legal low e m =
    let keeps : KeepsTime s.head.ppm (slice_index_or s.rows r no_row) = All-get_or (KeepsTime s.head.ppm) s.rows r no_row low (legal_clocks s legal) in
    ((rw e at keeps) m).0

-- a row of the frame order
pub row_low : (s : SegmentValue) (rows : List Row) (list : List ℕ) (i : ℕ) → IsLegal s → rows ≡ tree_rows s.rows → list ≡ order rows → i < length list
    → get_or list i 0 < length s.rows
row_low s rows list i legal t e low =
    let same : list ≡ order (tree_rows s.rows) = e ∙ ap order t in
    let many = order_many s legal in
    let within : i < length (order (tree_rows s.rows)) = rw same at low in
    rw same (row_within s legal i (omega (arith, within, many)))

-- one slave more
map_more : (f : ℕ → Slave) (xs : List ℕ) (x : ℕ) → map f (xs ++ x ∷ []) ≡ map f xs ++ f x ∷ []
map_more f [] x = refl
map_more f (y ∷ xs) x = ap (λ zs. f y ∷ zs) (map_more f xs x)

pub slave_more : (f : ℕ → Slave) (ss new : List Slave) (rows : List ℕ) (i r : ℕ) (s : Slave) → i < length rows → ss ≡ map f (take i rows) → r ≡ slice_index rows i
    → s ≡ f r → new ≡ ss ++ s ∷ [] → new ≡ map f (take (i + 1) rows)
slave_more f ss new rows i r s h e ri si n =
    n ∙ ap (λ zs. zs ++ s ∷ []) e ∙ ap (λ z. map f (take i rows) ++ z ∷ []) (si ∙ ap f ri) ∙ sym (map_more f (take i rows) (get_or rows i 0)) ∙ ap (map f) (sym (take_more rows i 0 h))

pub first_times : (way : ℕ) → way ≤ 10000000000000 → IsInTime way 0 0 0 0 0
first_times way h = record { sendings = omega arith; numbers = omega arith; way = h; latest = omega arith; next = omega arith }
