-- The slaves of a legal segment as they begin.
use Rattle.std.proofs.Common.{◌≡◌, ℕ, suc, ◌<◌, ◌≤◌, List, [], ◌∷◌, length, map, Option, Some, None, refl, ap, ◌∙◌, arith}
use Rattle.std.proofs.lemmas.List.{length-map}
use Rattle.std.specs.Prelude.{IfSome, slice_get, slice_index}
use Rattle.std.specs.List.{All, AllByRecursion}
use Rattle.std.specs.Option.{option_map}
use Rattle.std.proofs.lemmas.Option.{slice_get-map, slice_get-get_or}
use Rattle.esc_regs.specs.declared.clock_kind.ClockKind.{ClockKind}
use Rattle.esc_regs.specs.declared.clock_kind.ClockKind.TheVariants as kind
use Rattle.cable_tree.specs.Row.{Row, IsRow}
use Rattle.cable_tree.specs.FrameOrder.{order}
use Rattle.cable_tree.specs.PathSums.{port_time, round_trip}
use Rattle.cable_tree.specs.Segment.{IsTree}
use Rattle.cable_tree.specs.declared.port.Port.{Port}
use Rattle.cable_tree.specs.declared.port.Port.TheVariants.{P1, P2, P3}
use Rattle.segment_file.specs.Segment.{RowValue, SegmentValue, row_at, row_of, tree_rows}
use Rattle.segment_file.specs.Legal.{IsLegal}
use Rattle.segment_file.proofs.Exported.{order_many, row_within, rows_many}
use Rattle.frame_pass.specs.Invariants.{IsSound, IsSoundSegment, IsWithin, StandsBy}
use Rattle.segment_start.specs.Start.{slave_of, slave_by, timing_by, visits_of, started_segment}
use Rattle.cable_tree.proofs.Exported.{port_time_inside, inside}
use Rattle.segment_start.proofs.Registers.{start_size}

back_within : (rows : List Row) → IsTree rows → All IsRow rows → (r : ℕ) → r < length rows → (p : Port) (o : Option ℕ) → port_time rows r p ≡ o
    → IfSome o (λ at. at ≤ round_trip rows)
back_within rows tree slaves r low p None e = tt
back_within rows tree slaves r low p (Some t) e = let b = (port_time_inside rows tree slaves r p low t e).1 in omega (arith, b)

visits_within : (rows : List Row) → IsTree rows → All IsRow rows → (r : ℕ) → r < length rows → IsWithin (round_trip rows) (visits_of rows r)
visits_within rows tree slaves r low = record {
  arrive = let i = inside rows tree slaves r low in omega (arith, i);
  back3 = back_within rows tree slaves r low P3 (port_time rows r P3) refl;
  back1 = back_within rows tree slaves r low P1 (port_time rows r P1) refl;
  back2 = back_within rows tree slaves r low P2 (port_time rows r P2) refl;
}

stands_first : (k : ClockKind) (cycles : ℕ) (row : RowValue) → StandsBy 0 (timing_by k cycles row)
stands_first kind.None cycles row = tt
stands_first kind.R32 cycles row = omega arith
stands_first kind.C32 cycles row = omega arith
stands_first kind.C64 cycles row = omega arith

sound_by : (rows : List Row) (cycles r : ℕ) (row : RowValue) → IsTree rows → All IsRow rows → r < length rows → IsSound (round_trip rows) 0 (slave_by rows cycles r row)
sound_by rows cycles r row tree slaves low = record {
  size = start_size row.kind _;
  time = stands_first row.kind cycles row;
  visits = visits_within rows tree slaves r low;
}

sound_of : (s : SegmentValue) (r : ℕ) → IsLegal s → r < length s.rows → IsSound (round_trip (tree_rows s.rows)) 0 (slave_of s r)
unfolding slave_of
sound_of s r legal low =
    sound_by (tree_rows s.rows) s.head.cycles r (row_of s r) legal.tree.tree legal.tree.slaves (let many = rows_many s in omega (arith, low, many))

-- each of these rows is one of the segment
abbrev AreRows : ℕ → List ℕ → Type 0
AreRows n rs = AllByRecursion (λ r. r < n) rs

all_sound : (s : SegmentValue) → IsLegal s → (rs : List ℕ) → AreRows (length s.rows) rs → AllByRecursion (IsSound (round_trip (tree_rows s.rows)) 0) (map (slave_of s) rs)
all_sound s legal [] within = tt
all_sound s legal (r ∷ rs) within = (sound_of s r legal within.0, all_sound s legal rs within.1)

-- a list of numbers by its places
by_places : (n : ℕ) (rs : List ℕ) → ((i : ℕ) → i < length rs → slice_index rs i < n) → AreRows n rs
by_places n [] each = tt
by_places n (r ∷ rs) each = (each 0 (omega arith), by_places n rs (λ i low. each (suc i) (omega (arith, low))))

pub starts_timely : (s : SegmentValue) → IsLegal s → IsSoundSegment (started_segment s)
unfolding started_segment
starts_timely s legal =
    let many = order_many s legal in
    all_sound s legal (order (tree_rows s.rows)) (by_places (length s.rows) (order (tree_rows s.rows)) (λ i low. row_within s legal i (omega (arith, low, many))))

pub as_many : (s : SegmentValue) → IsLegal s → length (started_segment s).slaves ≡ length s.rows
unfolding started_segment
as_many s legal = length-map (order (tree_rows s.rows)) (slave_of s) ∙ order_many s legal

number_at_place : (rs : List ℕ) (p : ℕ) → p < length rs → slice_get rs p ≡ Some (slice_index rs p)
number_at_place rs p low = slice_get-get_or rs p 0 low

pub stands_at : (s : SegmentValue) (p : ℕ) → IsLegal s → p < length s.rows → slice_get (started_segment s).slaves p ≡ Some (slave_of s (row_at s p))
unfolding started_segment
stands_at s p legal low =
    let many = order_many s legal in
    slice_get-map (slave_of s) (order (tree_rows s.rows)) p
    ∙ ap (option_map (slave_of s)) (number_at_place (order (tree_rows s.rows)) p (omega (arith, low, many)))
