-- One more edge at the end.
use Rattle.std.specs.Prelude.{◌≡◌, ℕ, zero, suc, ◌+◌, ◌-◌, ◌<◌, ◌≤◌, Bool, true, false, ◌&&◌, nat_eq, if◌then◌else◌, List, [], ◌∷◌, ◌++◌, length, map, slice_index_or, take, is_some, Option, None, IsSome}
use Rattle.std.specs.Bool.{then_some}
use Rattle.std.specs.List.{All, range_with_len}
use Rattle.std.proofs.Common.{ap, ap₂, sym, refl, subst, ◌∙◌, arith, append-nil}
use Rattle.std.proofs.lemmas.Bool.Decides.{nat_tests}
use Rattle.std.proofs.lemmas.List.{get_or-map, length-append, map-append, take_more}
use Rattle.std.proofs.lemmas.List.Elements.{All-nil, All-push, All-weaker, filter-append}
use Rattle.std.proofs.lemmas.List.Sorted.{IsNonDecreasingBy-push}
use Rattle.cable_tree.specs.FrameOrder.{order}
use Rattle.segment_file.specs.Legal.{IsLegal}
use Rattle.segment_file.specs.Segment.{SegmentValue, clock_at, is_clock, no_row, row_at, tree_rows}
use Rattle.segment_file.proofs.Exported.{order_many, row_within}
use Rattle.sync_units.specs.declared.edge.Signal.{Signal}
use Rattle.sync_units.specs.declared.edge.Signal.TheVariants.{Sync0, Sync1}
use Rattle.edge_report.specs.Edges.{AreCounted, AreEdges, HasSignal, IsEdge, edges_of, is_of, rank}
use Rattle.edge_report.specs.Slaves.{slave_at}
use Rattle.edge_report.specs.declared.slave_edge.SlaveEdge.{SlaveEdge}
use Rattle.edge_report.proofs.Exported.{keeps_none}
use Rattle.segment_cases.specs.Runs.{IsRunBefore, IsRunTo}

pushed_of : (p : ℕ) (signal : Signal) (edges : List SlaveEdge) (e : SlaveEdge) → edges_of p signal (edges ++ e ∷ []) ≡ edges_of p signal edges ++ (if is_of p signal e then e ∷ [] else [])
pushed_of p signal edges e = filter-append (is_of p signal) edges (e ∷ [])

range_up : (a n : ℕ) → range_with_len a (suc n) ≡ range_with_len a n ++ (a + n) ∷ []
range_up a zero = let h : a ≡ a + 0 = omega arith in ap (λ x. x ∷ []) h
range_up a (suc n) = let h : a + 1 + n ≡ a + suc n = omega arith in ap (λ t. a ∷ t) (range_up (a + 1) n ∙ ap (λ x. range_with_len (a + 1) n ++ x ∷ []) h)

range_more : (a n : ℕ) → range_with_len a (n + 1) ≡ range_with_len a n ++ (a + n) ∷ []
range_more a n = let h : n + 1 ≡ suc n = omega arith in ap (range_with_len a) h ∙ range_up a n

both : (a b : Bool) → (a && b) ≡ true → (a ≡ true) × (b ≡ true)
both true b e = (refl, e)
both false b e = absurd cc

alike : (a b : ℕ) → nat_eq a b ≡ true → a ≡ b
alike a b e = grind (arith, nat_tests, e)

same_signals : (a b : Signal) → rank a ≡ rank b → a ≡ b
same_signals Sync0 Sync0 e = refl
same_signals Sync0 Sync1 e = absurd (omega (arith, e))
same_signals Sync1 Sync0 e = absurd (omega (arith, e))
same_signals Sync1 Sync1 e = refl

counted_more : (cycles : ℕ) (own : List SlaveEdge) (e : SlaveEdge) → AreCounted cycles own → length own ≡ e.edge.index → e.edge.index < cycles → AreCounted cycles (own ++ e ∷ [])
counted_more cycles own e are next low =
    let many = length-append own (e ∷ []) in
    let up : length (own ++ e ∷ []) ≡ length own + 1 = omega (arith, many) in
    let at : e.edge.index ≡ 0 + length own = omega (arith, next) in
    record {
      indices = map-append (λ (x : SlaveEdge). x.edge.index) own (e ∷ []) ∙ ap₂ (λ xs x. xs ++ x ∷ []) are.indices at ∙ sym (range_more 0 (length own)) ∙ ap (range_with_len 0) (sym up);
      most = omega (arith, up, next, low);
    }

pub edges_more : (s : SegmentValue) (edges : List SlaveEdge) (e : SlaveEdge) → AreEdges s edges → IsEdge s e → All (λ x. x.position ≤ e.position) edges
    → length (edges_of e.position e.edge.signal edges) ≡ e.edge.index → e.edge.index < s.head.cycles → AreEdges s (edges ++ e ∷ [])
edges_more s edges e are is last next low = record {
  each = All-push (IsEdge s) edges e are.each is;
  order = IsNonDecreasingBy-push (λ (x : SlaveEdge). x.position) edges e are.order (λ d some. last (length edges - 1) d (omega (arith, some)));
  counted = λ p signal. counted p signal (is_of p signal e) refl;
}
  where
    counted : (p : ℕ) (signal : Signal) (b : Bool) → is_of p signal e ≡ b → AreCounted s.head.cycles (edges_of p signal (edges ++ e ∷ []))
    counted p signal false off =
        subst (AreCounted s.head.cycles) (sym (pushed_of p signal edges e ∙ rw off (append-nil (edges_of p signal edges)))) (are.counted p signal)
    counted p signal true on =
        let parts = both (nat_eq e.position p) (nat_eq (rank e.edge.signal) (rank signal)) on in
        let at : e.position ≡ p = alike e.position p parts.0 in
        let of_it : e.edge.signal ≡ signal = same_signals e.edge.signal signal (alike (rank e.edge.signal) (rank signal) parts.1) in
        let next_at : length (edges_of p signal edges) ≡ e.edge.index = ap₂ (λ q x. length (edges_of q x edges)) (sym at) (sym of_it) ∙ next in
        subst (AreCounted s.head.cycles) (sym (pushed_of p signal edges e ∙ rw on refl)) (counted_more s.head.cycles (edges_of p signal edges) e (are.counted p signal) next_at low)

-- how many edges a signal then has
itself : (p : ℕ) → nat_eq p p ≡ true
itself p = grind (arith, nat_tests)

pub count_own : (p : ℕ) (signal : Signal) (edges new : List SlaveEdge) (e : SlaveEdge) → new ≡ edges ++ e ∷ [] → e.position ≡ p → e.edge.signal ≡ signal
    → length (edges_of p signal new) ≡ length (edges_of p signal edges) + 1
count_own p signal edges new e is at of_it =
    let passes : is_of p signal e ≡ true = rw (at, of_it, itself p, itself (rank signal)) refl in
    ap (λ xs. length (edges_of p signal xs)) is ∙ ap length (pushed_of p signal edges e) ∙ rw passes (length-append (edges_of p signal edges) (e ∷ []))

pub count_other : (p : ℕ) (signal : Signal) (edges new : List SlaveEdge) (e : SlaveEdge) → new ≡ edges ++ e ∷ [] → nat_eq (rank e.edge.signal) (rank signal) ≡ false
    → length (edges_of p signal new) ≡ length (edges_of p signal edges)
count_other p signal edges new e is other = ap (λ xs. length (edges_of p signal xs)) is ∙ ap length (pushed_of p signal edges e) ∙ by (nat_eq e.position p) refl
  where
    by : (b : Bool) → nat_eq e.position p ≡ b → length (edges_of p signal edges ++ (if is_of p signal e then e ∷ [] else [])) ≡ length (edges_of p signal edges)
    by true e1 = rw (e1, other) (ap length (append-nil (edges_of p signal edges)))
    by false e1 = rw e1 (ap length (append-nil (edges_of p signal edges)))

-- nothing stands at a position yet
pub begins : (s : SegmentValue) (p : ℕ) (edges : List SlaveEdge) → IsRunBefore s p edges → IsRunTo s p 0 edges
begins s p edges run = record {
  are = run.are;
  last = All-weaker (λ (x : SlaveEdge). x.position < p) (λ x. x.position ≤ p) (λ x h. omega (arith, h)) edges run.before;
  counts = λ signal has. ap length (keeps_none (is_of p signal) edges (λ k d low. none signal (slice_index_or edges k d) (run.before k d low)));
}
  where
    none : (signal : Signal) (x : SlaveEdge) → x.position < p → is_of p signal x ≡ false
    none signal x low = let e : nat_eq x.position p ≡ false = grind (arith, nat_tests, low) in rw e refl

pub ends : (s : SegmentValue) (p k : ℕ) (edges : List SlaveEdge) → IsRunTo s p k edges → IsRunBefore s (p + 1) edges
ends s p k edges run = record {
  are = run.are;
  before = All-weaker (λ (x : SlaveEdge). x.position ≤ p) (λ x. x.position < p + 1) (λ x h. omega (arith, h)) edges run.last;
}

pub none_at_first : (s : SegmentValue) (edges : List SlaveEdge) → edges ≡ [] → IsRunBefore s 0 edges
none_at_first s edges e = subst (IsRunBefore s 0) (sym e) (record {
  are = record { each = All-nil (IsEdge s); order = λ i j d order low. absurd (omega (arith, low)); counted = λ p signal. record { indices = refl; most = omega arith } };
  before = All-nil (λ (x : SlaveEdge). x.position < 0);
})

pub goes_on : (s : SegmentValue) (p : ℕ) (edges : List SlaveEdge) → IsRunBefore s p edges → IsRunBefore s (p + 1) edges
goes_on s p edges run = record {
  are = run.are;
  before = All-weaker (λ (x : SlaveEdge). x.position < p) (λ x. x.position < p + 1) (λ x h. omega (arith, h)) edges run.before;
}

-- a delay exactly where a clock stands
pub delay_more : (s : SegmentValue) (p : ℕ) (delays : List (Option ℕ)) (x : Option ℕ) → IsLegal s → p < length s.rows → is_some x ≡ is_clock (slave_at s p)
    → map is_some delays ≡ map (clock_at s.rows) (take p (order (tree_rows s.rows)))
    → map is_some (delays ++ x ∷ []) ≡ map (clock_at s.rows) (take (p + 1) (order (tree_rows s.rows)))
unfolding slave_at
delay_more s p delays x legal low is before =
    let rows = order (tree_rows s.rows) in
    let within = row_within s legal p low in
    let flag : is_clock (slave_at s p) ≡ clock_at s.rows (row_at s p) = sym (get_or-map is_clock s.rows (row_at s p) no_row false within) in
    map-append is_some delays (x ∷ []) ∙ ap₂ (λ xs b. xs ++ b ∷ []) before (is ∙ flag)
    ∙ sym (map-append (clock_at s.rows) (take p rows) (slice_index_or rows p 0 ∷ [])) ∙ ap (map (clock_at s.rows)) (sym (take_more rows p 0 (omega (arith, low, order_many s legal))))

-- the edges of an index
last_of : (p : ℕ) (edges new : List SlaveEdge) (e : SlaveEdge) → All (λ x. x.position ≤ p) edges → new ≡ edges ++ e ∷ [] → e.position ≡ p → All (λ x. x.position ≤ p) new
last_of p edges new e all is at = subst (All (λ (x : SlaveEdge). x.position ≤ p)) (sym is) (All-push (λ (x : SlaveEdge). x.position ≤ p) edges e all (omega (arith, at)))

pub index_alone : (s : SegmentValue) (p k : ℕ) (edges new : List SlaveEdge) (e : SlaveEdge) → IsRunTo s p k edges → AreEdges s new → new ≡ edges ++ e ∷ [] → e.position ≡ p → e.edge.signal ≡ Sync0
    → (slave_at s p).sync1_ns ≡ None → IsRunTo s p (k + 1) new
index_alone s p k edges new e run are is at of_it none = record { are = are; last = last_of p edges new e run.last is at; counts = counts }
  where
    counts : (signal : Signal) → HasSignal (slave_at s p) signal → length (edges_of p signal new) ≡ k + 1
    counts Sync0 has = count_own p Sync0 edges new e is at of_it ∙ ap (λ n. n + 1) (run.counts Sync0 has)
    counts Sync1 has = absurd (let some = subst (λ (o : Option ℕ). IsSome o) none has.1 in cc)

pub index_both : (s : SegmentValue) (p k : ℕ) (edges one two : List SlaveEdge) (e f : SlaveEdge) → IsRunTo s p k edges → AreEdges s two → one ≡ edges ++ e ∷ [] → two ≡ one ++ f ∷ [] → e.position ≡ p
    → f.position ≡ p → e.edge.signal ≡ Sync0 → f.edge.signal ≡ Sync1 → IsRunTo s p (k + 1) two
index_both s p k edges one two e f run are is too at there zeroth first = record { are = are; last = last_of p one two f (last_of p edges one e run.last is at) too there; counts = counts }
  where
    counts : (signal : Signal) → HasSignal (slave_at s p) signal → length (edges_of p signal two) ≡ k + 1
    counts Sync0 has = count_other p Sync0 one two f too (rw first refl) ∙ count_own p Sync0 edges one e is at zeroth ∙ ap (λ n. n + 1) (run.counts Sync0 has)
    counts Sync1 has = count_own p Sync1 one two f too there first ∙ ap (λ n. n + 1) (count_other p Sync1 edges one e is (rw zeroth refl) ∙ run.counts Sync1 has)

-- before the second edge of an index
pub next_of_second : (s : SegmentValue) (p k : ℕ) (edges one : List SlaveEdge) (e : SlaveEdge) → IsRunTo s p k edges → one ≡ edges ++ e ∷ [] → e.edge.signal ≡ Sync0 → HasSignal (slave_at s p) Sync1
    → length (edges_of p Sync1 one) ≡ k
next_of_second s p k edges one e run is zeroth has = count_other p Sync1 edges one e is (rw zeroth refl) ∙ run.counts Sync1 has

pub last_of_second : (p : ℕ) (edges new : List SlaveEdge) (e : SlaveEdge) → All (λ x. x.position ≤ p) edges → new ≡ edges ++ e ∷ [] → e.position ≡ p → All (λ x. x.position ≤ p) new
last_of_second p edges new e all is at = last_of p edges new e all is at

pub some_if : (b : Bool) (n : ℕ) (x : Option ℕ) → x ≡ then_some b n → is_some x ≡ b
some_if true n x e = ap is_some e
some_if false n x e = ap is_some e
