-- The greatest window is that of two signals: where two edges of one index are there, so are those of index 0.
use Rattle.std.specs.Prelude.{◌≡◌, ℕ, zero, suc, ◌<◌, ◌≤◌, Bool, true, false, not, ◌&&◌, nat_eq, if◌then◌else◌, List, [], ◌∷◌, length, map, slice_index_or}
use Rattle.std.specs.List.{Contains, filter}
use Rattle.std.proofs.Common.{ap, ap₂, sym, refl, subst, ◌∙◌, arith}
use Rattle.std.proofs.lemmas.Bool.Decides.{nat_tests}
use Rattle.std.proofs.lemmas.List.{get_or-map}
use Rattle.std.proofs.lemmas.List.FromFn.{get_or-range_with_len}
use Rattle.std.proofs.lemmas.List.Elements.{All-get_or, Contains-get_or, filter_passes}
use Rattle.segment_bounds.specs.Window.{greatest, window_between}
use Rattle.segment_bounds.proofs.Exported.{either_order}
use Rattle.segment_file.specs.Segment.{SegmentValue, row_at}
use Rattle.sync_units.specs.declared.edge.Signal.{Signal}
use Rattle.sync_units.specs.declared.edge.Signal.TheVariants.{Sync0, Sync1}
use Rattle.edge_report.specs.Edges.{AreEdges, edges_of, is_of, rank}
use Rattle.edge_report.specs.InsideWindow.{bounded, bounded_window}
use Rattle.edge_report.specs.Spread.{allowed_between, allowed_of, are_compared, signal_of}
use Rattle.edge_report.specs.declared.slave_edge.SlaveEdge.{SlaveEdge}
use Rattle.edge_report.proofs.Ordering.{index, kept, of_itself, position, turn}
use Rattle.edge_report.proofs.Pairs.{alike, at_least, of_images, within}

abbrev pub is_first : SlaveEdge → Bool
is_first x = nat_eq x.edge.index 0

abbrev pub firsts : List SlaveEdge → List SlaveEdge
firsts edges = filter is_first edges

from_filter : {X : Type 0} (p : X → Bool) (xs : List X) (x : X) → Contains (filter p xs) x → Contains xs x
from_filter p [] x has = absurd (omega (arith, has.1))
from_filter p (y ∷ ys) x has = by (p y) refl (λ more. from_filter p ys x more)
  where
    later : Contains ys x → Contains (y ∷ ys) x
    later more = (suc more.0, omega (arith, more.1), more.2)

    among : (k : ℕ) → k < length (y ∷ filter p ys) → slice_index_or (y ∷ filter p ys) k x ≡ x → (Contains (filter p ys) x → Contains ys x) → Contains (y ∷ ys) x
    among zero low at rest = (0, omega arith, at)
    among (suc k) low at rest = later (rest (k, omega (arith, low), at))

    by : (b : Bool) → p y ≡ b → (Contains (filter p ys) x → Contains ys x) → Contains (y ∷ ys) x
    by true e rest = let h : Contains (y ∷ filter p ys) x = subst (λ b. Contains (if b then y ∷ filter p ys else filter p ys) x) e has in among h.0 h.1 h.2 rest
    by false e rest = let h : Contains (filter p ys) x = subst (λ b. Contains (if b then y ∷ filter p ys else filter p ys) x) e has in later (rest h)

alike_numbers : (a b : ℕ) → nat_eq a b ≡ true → a ≡ b
alike_numbers a b e = grind (arith, nat_tests, e)

number_itself : (a : ℕ) → nat_eq a a ≡ true
number_itself a = grind (arith, nat_tests)

turned_around : (a b : ℕ) → nat_eq a b ≡ nat_eq b a
turned_around a b = grind (arith, nat_tests)

same_signals : (a b : Signal) → rank a ≡ rank b → a ≡ b
same_signals Sync0 Sync0 e = refl
same_signals Sync0 Sync1 e = absurd (omega (arith, e))
same_signals Sync1 Sync0 e = absurd (omega (arith, e))
same_signals Sync1 Sync1 e = refl

both : (a b : Bool) → (a && b) ≡ true → (a ≡ true) × (b ≡ true)
both true b e = (refl, e)
both false b e = absurd cc

-- the first edge of the signal of an edge
record IsFirstOf (s : SegmentValue) (edges : List SlaveEdge) (x y : SlaveEdge) : Type 0 where
  there : Contains (firsts edges) y
  at : position y ≡ position x
  of_it : signal_of s y ≡ signal_of s x
  first : is_first y ≡ true

first_of : (s : SegmentValue) (edges : List SlaveEdge) → AreEdges s edges → (x : SlaveEdge) → Contains edges x → (y : SlaveEdge) × IsFirstOf s edges x y
first_of s edges are x has =
    let own = edges_of x.position x.edge.signal edges in
    let among : Contains own x = kept (is_of x.position x.edge.signal) edges x has (of_itself x) in
    let some : 0 < length own = omega (arith, among.1) in
    let y = slice_index_or own 0 x in
    let counted = are.counted x.position x.edge.signal in
    let zeroth : index y ≡ 0 = sym (get_or-map index own 0 x 0 some) ∙ ap (λ xs. slice_index_or xs 0 0) counted.indices ∙ get_or-range_with_len 0 (length own) 0 0 some in
    let passes = both (nat_eq y.position x.position) (nat_eq (turn y) (turn x)) (All-get_or (λ z. is_of x.position x.edge.signal z ≡ true) own 0 x some (filter_passes (is_of x.position x.edge.signal) edges)) in
    let at : y.position ≡ x.position = alike_numbers y.position x.position passes.0 in
    let signal : y.edge.signal ≡ x.edge.signal = same_signals y.edge.signal x.edge.signal (alike_numbers (turn y) (turn x) passes.1) in
    let first : is_first y ≡ true = rw zeroth refl in (
      y,
      record {
        there = kept is_first edges y (from_filter (is_of x.position x.edge.signal) edges y (Contains-get_or own 0 x some)) first;
        at = at;
        of_it = rw (at, signal) refl;
        first = first;
      },
    )

-- the window of two edges, whichever comes first
pub either : (s : SegmentValue) (a b : SlaveEdge) → allowed_between s a b ≡ allowed_between s b a
either s a b =
    let compared : are_compared a b ≡ are_compared b a = ap₂ (λ x y. x && not y) (turned_around (index a) (index b)) (turned_around (position a) (position b)) in
    ap₂ (λ x y. if x then y else 0) compared (either_order s (signal_of s a) (signal_of s b))

pub itself : (s : SegmentValue) (a : SlaveEdge) → allowed_between s a a ≡ 0
itself s a = rw (number_itself (index a), number_itself (position a)) refl

-- of edges of index 0 it is that of their signals
at_zero : (s : SegmentValue) (x y : SlaveEdge) → is_first x ≡ true → is_first y ≡ true → window_between s (signal_of s x) (signal_of s y) ≡ allowed_between s x y
at_zero s x y here there = by (nat_eq (position x) (position y)) refl
  where
    same : nat_eq (index x) (index y) ≡ true
    same = let a = alike_numbers (index x) 0 here in let b = alike_numbers (index y) 0 there in rw (a, b) refl

    by : (b : Bool) → nat_eq (position x) (position y) ≡ b → window_between s (signal_of s x) (signal_of s y) ≡ allowed_between s x y
    by true e =
        let rows : nat_eq (row_at s x.position) (row_at s y.position) ≡ true = rw (alike_numbers (position x) (position y) e) (number_itself (row_at s y.position)) in
        rw (rows, same, e) refl
    by false e = rw (same, e) refl

above_firsts : (s : SegmentValue) (edges : List SlaveEdge) → AreEdges s edges → (x y : SlaveEdge) → Contains edges x → Contains edges y → allowed_between s x y ≤ greatest (allowed_between s) (firsts edges)
above_firsts s edges are x y here there = by (are_compared x y) refl
  where
    by : (b : Bool) → are_compared x y ≡ b → (if b then window_between s (signal_of s x) (signal_of s y) else 0) ≤ greatest (allowed_between s) (firsts edges)
    by false e = omega arith
    by true e =
        let a = first_of s edges are x here in
        let b = first_of s edges are y there in
        let h = at_least (allowed_between s) (either s) (itself s) (firsts edges) a.0 b.0 a.1.there b.1.there in
        let w : window_between s (signal_of s x) (signal_of s y) ≡ allowed_between s a.0 b.0 =
        sym (ap₂ (window_between s) a.1.of_it b.1.of_it) ∙ at_zero s a.0 b.0 a.1.first b.1.first in
        omega (arith, h, w)

pub windows_of_firsts : (s : SegmentValue) (edges : List SlaveEdge) → AreEdges s edges → greatest (bounded_window s.head.ppm) (map (bounded s) (firsts edges)) ≡ allowed_of s edges
unfolding allowed_of
windows_of_firsts s edges are =
    let up = within (allowed_between s) (greatest (allowed_between s) (firsts edges)) edges (above_firsts s edges are) in
    let down = within (allowed_between s) (greatest (allowed_between s) edges) (firsts edges)
    (λ x y here there. at_least (allowed_between s) (either s) (itself s) edges x y (from_filter is_first edges x here) (from_filter is_first edges y there)) in
    of_images (bounded s) (bounded_window s.head.ppm) (firsts edges)
    ∙ alike (λ x y. window_between s (signal_of s x) (signal_of s y)) (allowed_between s) (λ x. is_first x ≡ true) (at_zero s) (firsts edges) (filter_passes is_first edges)
    ∙ omega (arith, up, down)
