-- The edges that are told of a bench are the edges of a run.
use Rattle.std.proofs.Common.{◌≡◌, ℕ, zero, suc, ◌<◌, ◌≤◌, Bool, true, false, nat_eq, List, [], ◌++◌, length, map, refl, sym, ap, subst, ◌∙◌, arith}
use Rattle.std.specs.List.{All, flat_map, range_with_len}
use Rattle.std.proofs.lemmas.Bool.Decides.{nat_tests}
use Rattle.std.proofs.lemmas.List.{append-nil, length-map}
use Rattle.std.proofs.lemmas.List.Elements.{All-append, All-nil, All-weaker, filter-append}
use Rattle.std.proofs.lemmas.List.FromFn.{length-range_with_len}
use Rattle.honest_slaves.specs.OwnSignals.{AllKeepTo, signals_at}
use Rattle.edge_report.specs.Edges.{AreCounted, AreEdges, IsEdge, edges_of, is_of}
use Rattle.edge_report.specs.declared.slave_edge.SlaveEdge.{SlaveEdge}
use Rattle.edge_report.proofs.Exported.{keeps_none}
use Rattle.frame_pass.specs.SegmentState.{SegmentState}
use Rattle.segment_bench.proofs.Exported.{IsWireOf}
use Rattle.segment_file.specs.Segment.{SegmentValue}
use Rattle.sync_units.specs.declared.edge.Edge.{Edge}
use Rattle.sync_units.specs.declared.edge.Signal.{Signal}
use Rattle.bench_report.specs.Edges.{edges_told, kept_at, own_edges}
use Rattle.bench_report.proofs.KeptEdges.{AreFew, few_kept}
use Rattle.bench_report.proofs.Lists.{flat_more, sorted_behind}
use Rattle.bench_report.proofs.Own.{kept_own, own_at, own_each, own_indices}

-- the edges of the positions below one
record AreBelow (s : SegmentValue) (n : ℕ) (xs : List SlaveEdge) : Type 0 where
  are : AreEdges s xs
  before : All (λ x. x.position < n) xs

-- the edges of a position are counted
piece_counted : (cycles p : ℕ) (signal : Signal) (es : List Edge) → AreFew cycles es → AreCounted cycles (edges_of p signal (own_edges p es))
piece_counted cycles p signal es few =
    let xs = edges_of p signal (own_edges p es) in
    let is : map (λ (x : SlaveEdge). x.edge.index) xs ≡ range_with_len 0 (few.many signal) = own_indices p signal es ∙ few.indices signal in
    let many : length xs ≡ few.many signal = sym (length-map xs (λ (x : SlaveEdge). x.edge.index)) ∙ ap length is ∙ length-range_with_len 0 (few.many signal) in
    let most = few.few signal in
    record { indices = is ∙ ap (range_with_len 0) (sym many); most = omega (arith, many, most) }

apart : (p : ℕ) (signal : Signal) (x : SlaveEdge) → nat_eq x.position p ≡ false → is_of p signal x ≡ false
apart p signal x h = rw h refl

none_of : (p : ℕ) (signal : Signal) (xs : List SlaveEdge) → All (λ x. nat_eq x.position p ≡ false) xs → edges_of p signal xs ≡ []
none_of p signal xs all = keeps_none (is_of p signal) xs (All-weaker (λ (x : SlaveEdge). nat_eq x.position p ≡ false) (λ x. is_of p signal x ≡ false) (apart p signal) xs all)

-- those of one more position behind them
piece_behind : (s : SegmentValue) (n : ℕ) (xs ys : List SlaveEdge) → AreBelow s n xs → All (IsEdge s) ys → All (λ y. y.position ≡ n) ys
    → ((signal : Signal) → AreCounted s.head.cycles (edges_of n signal ys)) → AreBelow s (suc n) (xs ++ ys)
piece_behind s n xs ys below each at own = record {
  are = record {
    each = All-append (IsEdge s) xs ys below.are.each each;
    order = sorted_behind (λ (x : SlaveEdge). x.position) n xs ys below.are.order
        (All-weaker (λ (x : SlaveEdge). x.position < n) (λ x. x.position ≤ n) (λ x h. omega (arith, h)) xs below.before) at;
    counted = λ p signal. counted p signal (nat_eq n p) refl;
  };
  before = All-append (λ (x : SlaveEdge). x.position < suc n) xs ys
      (All-weaker (λ (x : SlaveEdge). x.position < n) (λ x. x.position < suc n) (λ x h. omega (arith, h)) xs below.before)
      (All-weaker (λ (x : SlaveEdge). x.position ≡ n) (λ x. x.position < suc n) (λ x h. omega (arith, h)) ys at);
}
  where
    counted : (p : ℕ) (signal : Signal) (b : Bool) → nat_eq n p ≡ b → AreCounted s.head.cycles (edges_of p signal (xs ++ ys))
    counted p signal true here =
        let same : n ≡ p = grind (arith, nat_tests, here) in
        let none = none_of p signal xs (All-weaker (λ (x : SlaveEdge). x.position < n) (λ x. nat_eq x.position p ≡ false) (λ x low. grind (arith, nat_tests, low, same)) xs below.before) in
        subst (AreCounted s.head.cycles) (sym (filter-append (is_of p signal) xs ys ∙ ap (λ zs. zs ++ edges_of p signal ys) none))
        (subst (λ (q : ℕ). AreCounted s.head.cycles (edges_of q signal ys)) same (own signal))
    counted p signal false there =
        let none = none_of p signal ys (All-weaker (λ (x : SlaveEdge). x.position ≡ n) (λ x. nat_eq x.position p ≡ false) (λ x at. rw at there) ys at) in
        subst (AreCounted s.head.cycles) (sym (filter-append (is_of p signal) xs ys ∙ ap (λ zs. edges_of p signal xs ++ zs) none ∙ append-nil (edges_of p signal xs)))
        (below.are.counted p signal)

none_yet : (s : SegmentValue) → AreBelow s 0 []
none_yet s = record {
  are = record { each = All-nil (IsEdge s); order = λ i j d order low. absurd (omega (arith, low)); counted = λ p signal. record { indices = refl; most = omega arith } };
  before = All-nil (λ (x : SlaveEdge). x.position < 0);
}

below : (s : SegmentValue) (w : SegmentState) → IsWireOf s w → AllKeepTo (signals_at s) w.slaves → (n : ℕ) → n ≤ length s.rows
    → AreBelow s n (flat_map (λ p. own_edges p (kept_at w p)) (range_with_len 0 n))
below s w is own zero low = none_yet s
below s w is own (suc n) low =
    subst (AreBelow s (suc n)) (sym (flat_more (λ p. own_edges p (kept_at w p)) n))
    (piece_behind s n (flat_map (λ p. own_edges p (kept_at w p)) (range_with_len 0 n)) (own_edges n (kept_at w n)) (below s w is own n (omega (arith, low)))
    (own_each s n (omega (arith, low)) (kept_at w n) (kept_own s w own n)) (own_at n (kept_at w n)) (λ signal. piece_counted s.head.cycles n signal (kept_at w n) (few_kept s w is n)))

pub are_edges : (s : SegmentValue) (w : SegmentState) → IsWireOf s w → AllKeepTo (signals_at s) w.slaves → AreEdges s (edges_told s w)
unfolding edges_told
are_edges s w is own = (below s w is own (length s.rows) (omega arith)).are
