-- The spread, one edge on.
use Rattle.std.specs.Prelude.{◌≡◌, ℕ, ◌+◌, ◌^◌, ◌<◌, ◌≤◌, max, List, [], ◌∷◌, ◌++◌, length, take, slice_index_or, replicate, Option, Some, None, IfSome, unwrap_or, ◌⊎◌}
use Rattle.std.specs.List.{All}
use Rattle.std.proofs.Common.{ap, ap₂, sym, refl, subst, ◌∙◌, arith, inl, inr, set}
use Rattle.std.proofs.lemmas.Bool.{cases_eq}
use Rattle.std.proofs.lemmas.List.{get_or_default, get_or-replicate, get_or-set_same, get_or-set_other, length-replicate, length-set, take_more}
use Rattle.std.proofs.lemmas.List.Elements.{All-take, All-weaker}
use Rattle.segment_bounds.specs.Window.{greatest, greatest_with}
use Rattle.segment_file.specs.Legal.{IsLegal}
use Rattle.segment_file.specs.Segment.{RowValue, SegmentValue}
use Rattle.segment_file.proofs.Exported.{row_within}
use Rattle.sync_units.specs.declared.edge.Signal.{Signal}
use Rattle.sync_units.specs.declared.edge.Signal.TheVariants.{Sync0, Sync1}
use Rattle.edge_report.specs.Edges.{AreEdges, IsEdge, shift_of}
use Rattle.edge_report.specs.InsideSpread.{moved, no_edge, reach, turned, with_own}
use Rattle.edge_report.specs.Shifts.{HasSmallShifts}
use Rattle.edge_report.specs.Slaves.{slave_at}
use Rattle.edge_report.specs.Spread.{spread_between}
use Rattle.edge_report.specs.declared.meeting.Meeting.{Meeting}
use Rattle.edge_report.specs.declared.slave_edge.SlaveEdge.{SlaveEdge}
use Rattle.edge_report.proofs.Ordering.{index, indices_low, position}
use Rattle.edge_report.proofs.Pairs.{pushed}
use Rattle.edge_report.proofs.Places.{small_shifts}
use Rattle.edge_report.proofs.Reaching.{IsMeeting, IsShifted, either_way, extremes_where, no_meeting, others_at, pushed_other, pushed_own, reached, turned_is, turned_to}

-- the total shifts are below a second
small_shift : (r : RowValue) (signal : Signal) → HasSmallShifts r → shift_of r signal < 1000000000
small_shift r Sync0 small = omega (arith, small.shift_ns)
small_shift r Sync1 small = by r.sync1_ns small.sync1_ns
  where
    by : (o : Option ℕ) → IfSome o (λ ns. ns < 500000000) → r.shift_ns + unwrap_or o 0 < 1000000000
    by None h = omega (arith, small.shift_ns)
    by (Some ns) h = omega (arith, small.shift_ns, h)

shifted : (s : SegmentValue) → IsLegal s → (e : SlaveEdge) → IsEdge s e → IsShifted s e
shifted s legal e is = small_shift (slave_at s e.position) e.edge.signal (small_shifts s e.position legal (row_within s legal e.position is.position))

all_shifted : (s : SegmentValue) (edges : List SlaveEdge) → IsLegal s → AreEdges s edges → All (IsShifted s) edges
all_shifted s edges legal are = All-weaker (IsEdge s) (IsShifted s) (shifted s legal) edges are.each

-- the meeting of an index takes its next edge
abbrev pub next_meeting : SegmentValue → List Meeting → SlaveEdge → Meeting
next_meeting s ms e = with_own (moved s e) (turned (position e) (slice_index_or ms (index e) no_edge))

pub spread_more : (s : SegmentValue) (edges : List SlaveEdge) (i : ℕ) (z : SlaveEdge) (m : Meeting) (old far : ℕ) → IsLegal s → AreEdges s edges → i < length edges
    → old ≡ greatest (spread_between s) (take i edges) → IsMeeting s (index (slice_index_or edges i z)) (take i edges) m → m.position ≤ position (slice_index_or edges i z)
    → moved s (slice_index_or edges i z) < 2 ^ 128 → far ≡ reach (moved s (slice_index_or edges i z)) (turned (position (slice_index_or edges i z)) m).earlier
    → max far old ≡ greatest (spread_between s) (take (i + 1) edges)
spread_more s edges i z m old far legal are low was is order fits far_is =
    let e = slice_index_or edges i z in
    let xs = take i edges in
    let t = turned_is s (index e) (position e) xs m is order in
    let shifts = all_shifted s edges legal are in
    let seen : (turned (position e) m).earlier ≡ extremes_where (others_at (index e) (position e)) (moved s) xs =
    t.earlier ∙ ap (λ p. extremes_where (others_at (index e) p) (moved s) xs) (turned_to (position e) m) in
    let with : far ≡ greatest_with (spread_between s) e xs =
    far_is ∙ ap (reach (moved s e)) seen ∙ reached s e xs (shifts i z low) (All-take (IsShifted s) i edges shifts) fits in
    ap₂ max with was ∙ sym (pushed (spread_between s) (either_way s) xs e) ∙ ap (greatest (spread_between s)) (sym (take_more edges i z low))

-- what the meetings tell after some edges: each of its index, and no later edge stands before its last slave
pub record AreMeetings (s : SegmentValue) (edges : List SlaveEdge) (i : ℕ) (ms : List Meeting) : Type 0 where
  pub all : length ms ≡ s.head.cycles
  pub each : (k : ℕ) → k < s.head.cycles → IsMeeting s k (take i edges) (slice_index_or ms k no_edge)
  pub order : (k j : ℕ) (d : SlaveEdge) → k < s.head.cycles → i ≤ j → j < length edges → (slice_index_or ms k no_edge).position ≤ position (slice_index_or edges j d)

pub at_start : (s : SegmentValue) (edges : List SlaveEdge) (n : ℕ) (ms : List Meeting) → ms ≡ replicate n no_edge → n ≡ s.head.cycles → AreMeetings s edges 0 ms
at_start s edges n ms is all =
    let one : (k : ℕ) → k < s.head.cycles → slice_index_or ms k no_edge ≡ no_edge =
    λ k low. ap (λ xs. slice_index_or xs k no_edge) is ∙ get_or-replicate n k no_edge no_edge (omega (arith, low, all)) in
    record {
      all = ap length is ∙ length-replicate n no_edge ∙ all;
      each = λ k low. subst (IsMeeting s k []) (sym (one k low)) (no_meeting s k);
      order = λ k j d low least most. let e = ap (λ (m : Meeting). m.position) (one k low) in omega (arith, e);
    }

-- the meeting of the next edge's index
pub index_within : (s : SegmentValue) (edges : List SlaveEdge) (i : ℕ) (z : SlaveEdge) → AreEdges s edges → i < length edges → index (slice_index_or edges i z) < s.head.cycles
index_within s edges i z are low = indices_low s edges are i z low

pub one_more : (s : SegmentValue) (edges : List SlaveEdge) (i : ℕ) (z : SlaveEdge) (ms : List Meeting) → AreEdges s edges → i < length edges → AreMeetings s edges i ms
    → AreMeetings s edges (i + 1) (set ms (index (slice_index_or edges i z)) (next_meeting s ms (slice_index_or edges i z)))
one_more s edges i z ms are low told = record {
  all = length-set ms (index e) new ∙ told.all;
  each = λ k within. each k within (cases_eq k (index e));
  order = λ k j d within least most. order k j d within least most (cases_eq k (index e));
}
  where
    e : SlaveEdge
    e = slice_index_or edges i z

    m : Meeting
    m = slice_index_or ms (index e) no_edge

    new : Meeting
    new = next_meeting s ms e

    there : index e < s.head.cycles
    there = indices_low s edges are i z low

    in_order : m.position ≤ position e
    in_order = told.order (index e) i z there (omega arith) low

    put : (k : ℕ) → k ≡ index e → slice_index_or (set ms (index e) new) k no_edge ≡ new
    put k same = ap (λ n. slice_index_or (set ms (index e) new) n no_edge) same ∙ get_or-set_same ms (index e) new no_edge (omega (arith, there, told.all))

    kept : (k : ℕ) → (k ≡ index e → ⊥) → slice_index_or (set ms (index e) new) k no_edge ≡ slice_index_or ms k no_edge
    kept k other = get_or-set_other ms (index e) k new no_edge other

    taken : take (i + 1) edges ≡ take i edges ++ e ∷ []
    taken = take_more edges i z low

    each : (k : ℕ) → k < s.head.cycles → (k ≡ index e) ⊎ (k ≡ index e → ⊥) → IsMeeting s k (take (i + 1) edges) (slice_index_or (set ms (index e) new) k no_edge)
    each k within (inl same) =
        let before = subst (λ n. IsMeeting s n (take i edges) (slice_index_or ms n no_edge)) same (told.each k within) in
        let turned_now = turned_is s (index e) (position e) (take i edges) m before in_order in
        let after = pushed_own s (index e) (take i edges) (turned (position e) m) e turned_now refl (turned_to (position e) m) in
        let at_k = subst (λ n. IsMeeting s n (take i edges ++ e ∷ []) new) (sym same) after in
        subst (IsMeeting s k (take (i + 1) edges)) (sym (put k same)) (subst (λ xs. IsMeeting s k xs new) (sym taken) at_k)
    each k within (inr other) =
        let after = pushed_other s k (take i edges) (slice_index_or ms k no_edge) e (told.each k within) (λ h. other (sym h)) in
        subst (IsMeeting s k (take (i + 1) edges)) (sym (kept k other)) (subst (λ xs. IsMeeting s k xs (slice_index_or ms k no_edge)) (sym taken) after)

    order : (k j : ℕ) (d : SlaveEdge) → k < s.head.cycles → i + 1 ≤ j → j < length edges → (k ≡ index e) ⊎ (k ≡ index e → ⊥)
        → (slice_index_or (set ms (index e) new) k no_edge).position ≤ position (slice_index_or edges j d)
    order k j d within least most (inl same) =
        let at = ap (λ (x : Meeting). x.position) (put k same) in
        let is = turned_to (position e) m in
        let first = ap position (get_or_default edges i z d low) in
        let rise = are.order i j d (omega (arith, least)) most in
        omega (arith, at, is, first, rise)
    order k j d within least most (inr other) =
        let at = ap (λ (x : Meeting). x.position) (kept k other) in
        let before = told.order k j d within (omega (arith, least)) most in
        omega (arith, at, before)

-- a step of the loop, by what its calls tell
pub spread_step : (s : SegmentValue) (edges : List SlaveEdge) (i : ℕ) (z : SlaveEdge) (ms : List Meeting) (m : Meeting) (instant old far most : ℕ) → IsLegal s → AreEdges s edges → i < length edges
    → AreMeetings s edges i ms → old ≡ greatest (spread_between s) (take i edges) → instant ≡ moved s (slice_index_or edges i z) → instant < 2 ^ 128
    → m ≡ slice_index_or ms (index (slice_index_or edges i z)) no_edge → far ≡ reach instant (turned (position (slice_index_or edges i z)) m).earlier → most ≡ max far old
    → most ≡ greatest (spread_between s) (take (i + 1) edges)
spread_step s edges i z ms m instant old far most legal are low told was at fits is far_is most_is =
    let e = slice_index_or edges i z in
    let there = indices_low s edges are i z low in
    let meeting = subst (IsMeeting s (index e) (take i edges)) (sym is) (told.each (index e) there) in
    let order = ap (λ (x : Meeting). x.position) is in
    let before = told.order (index e) i z there (omega arith) low in
    let far_at : far ≡ reach (moved s e) (turned (position e) m).earlier = far_is ∙ ap (λ x. reach x (turned (position e) m).earlier) at in
    most_is ∙ spread_more s edges i z m old far legal are low was meeting (omega (arith, order, before)) (subst (λ x. x < 2 ^ 128) at fits) far_at

pub told_step : (s : SegmentValue) (edges : List SlaveEdge) (i : ℕ) (z : SlaveEdge) (ms : List Meeting) (m new : Meeting) (instant : ℕ) → AreEdges s edges → i < length edges
    → AreMeetings s edges i ms → instant ≡ moved s (slice_index_or edges i z) → m ≡ slice_index_or ms (index (slice_index_or edges i z)) no_edge
    → new ≡ with_own instant (turned (position (slice_index_or edges i z)) m) → AreMeetings s edges (i + 1) (set ms (index (slice_index_or edges i z)) new)
told_step s edges i z ms m new instant are low told at is new_is =
    let e = slice_index_or edges i z in
    let same : new ≡ next_meeting s ms e = new_is ∙ ap₂ (λ x y. with_own x (turned (position e) y)) at is in
    subst (λ x. AreMeetings s edges (i + 1) (set ms (index e) x)) (sym same) (one_more s edges i z ms are low told)
