-- Edges that are sorted by index, position and signal stand in order.
use Rattle.std.specs.Prelude.{◌≡◌, ℕ, zero, suc, ◌+◌, ◌<◌, ◌≤◌, Bool, true, false, not, nat_eq, nat_lt, ◌&&◌, List, [], ◌∷◌, ◌++◌, length, slice_index_or}
use Rattle.std.specs.List.{All, Contains, filter, flat_map, range_with_len}
use Rattle.std.specs.List.Sorted.{IsNonDecreasingBy, IsSortedBy, IsStableBy, ties}
use Rattle.std.specs.Cmp.{IsStrictWeakOrder, IsTotalOrder}
use Rattle.std.specs.Ordering.{is_lt, nat_cmp, ordering_then}
use Rattle.std.proofs.Common.{Ordering, Less, Equal, Greater, ap, sym, subst, refl, ◌∙◌, arith, append-nil, zero-add, inl, inr, ◌⊎◌}
use Rattle.std.proofs.lemmas.Bool.{cases_lt}
use Rattle.std.proofs.lemmas.Bool.Decides.{nat_tests}
use Rattle.std.proofs.lemmas.Cmp.{nat_cmp_total, on_total, then_total}
use Rattle.std.proofs.lemmas.List.{get_or-map}
use Rattle.std.proofs.lemmas.List.FromFn.{get_or-range_with_len}
use Rattle.std.proofs.lemmas.List.Elements.{Contains-get_or, filter_agree, filter_passes, All-filter}
use Rattle.std.proofs.lemmas.List.Kept.{IsSortedBy-filter}
use Rattle.std.proofs.lemmas.List.MinMax.{ranks_by}
use Rattle.sync_units.specs.declared.edge.Signal.{Signal}
use Rattle.sync_units.specs.declared.edge.Signal.TheVariants.{Sync0, Sync1}
use Rattle.edge_report.specs.EdgeRows.{by_index, edges_at, is_at}
use Rattle.edge_report.specs.Edges.{AreCounted, AreEdges, edges_of, is_of, rank}
use Rattle.segment_file.specs.Segment.{SegmentValue}
use Rattle.edge_report.specs.declared.slave_edge.SlaveEdge.{SlaveEdge}
use Rattle.edge_report.proofs.Sorting.{by_number, filter_both, flat_map_alike, rising_in}

abbrev pub index : SlaveEdge → ℕ
index e = e.edge.index

abbrev pub position : SlaveEdge → ℕ
position e = e.position

abbrev pub turn : SlaveEdge → ℕ
turn e = rank e.edge.signal

abbrev pub order_key : SlaveEdge → ℕ × ℕ × ℕ
order_key e = (index e, position e, turn e)

abbrev pub key_cmp : ℕ × ℕ × ℕ → ℕ × ℕ × ℕ → Ordering
key_cmp x y = ordering_then (ordering_then (nat_cmp x.0 y.0) (nat_cmp x.1 y.1)) (nat_cmp x.2 y.2)

abbrev pub comes_before : SlaveEdge → SlaveEdge → Bool
comes_before x y = is_lt (key_cmp (order_key x) (order_key y))

key_total : IsTotalOrder key_cmp
key_total = then_total (then_total (on_total (λ (t : ℕ × ℕ × ℕ). t.0) nat_cmp_total) (on_total (λ (t : ℕ × ℕ × ℕ). t.1) nat_cmp_total)) (on_total (λ (t : ℕ × ℕ × ℕ). t.2) nat_cmp_total)

before_is_order : IsStrictWeakOrder comes_before
before_is_order = ranks_by key_total order_key

less : (x y : ℕ) → x < y → nat_cmp x y ≡ Less
less x y h = let e : nat_lt x y ≡ true = grind (arith, nat_tests, h) in rw e refl

equal : (x y : ℕ) → x ≡ y → nat_cmp x y ≡ Equal
equal x y h =
    let e : nat_lt x y ≡ false = grind (arith, nat_tests, h) in
    let f : nat_eq x y ≡ true = grind (arith, nat_tests, h) in
    rw (e, f) refl

greater : (x y : ℕ) → y < x → nat_cmp x y ≡ Greater
greater x y h =
    let e : nat_lt x y ≡ false = grind (arith, nat_tests, h) in
    let f : nat_eq x y ≡ false = grind (arith, nat_tests, h) in
    rw (e, f) refl

-- the same by how three numbers compare
abbrev says : Ordering → Ordering → Ordering → Bool
says o p q = is_lt (ordering_then (ordering_then o p) q)

-- what is not before tells of the numbers
by_indices : (a b c d e f : ℕ) → is_lt (key_cmp (d, e, f) (a, b, c)) ≡ false → a ≤ d
by_indices a b c d e f h = by (cases_lt d a)
  where
    by : (d < a) ⊎ (a ≤ d) → a ≤ d
    by (inl low) = absurd (let g = subst (λ o. says o (nat_cmp e b) (nat_cmp f c) ≡ false) (less d a low) h in cc)
    by (inr high) = high

by_positions : (a b c d e f : ℕ) → a ≡ d → is_lt (key_cmp (d, e, f) (a, b, c)) ≡ false → b ≤ e
by_positions a b c d e f same h = by (cases_lt e b)
  where
    by : (e < b) ⊎ (b ≤ e) → b ≤ e
    by (inl low) =
        absurd (
        let g = subst (λ o. says o (nat_cmp e b) (nat_cmp f c) ≡ false) (equal d a (sym same)) h in
        let i = subst (λ o. says Equal o (nat_cmp f c) ≡ false) (less e b low) g in
        cc
        )
    by (inr high) = high

by_turns : (a b c d e f : ℕ) → a ≡ d → b ≡ e → is_lt (key_cmp (d, e, f) (a, b, c)) ≡ false → c ≤ f
by_turns a b c d e f same too h = by (cases_lt f c)
  where
    by : (f < c) ⊎ (c ≤ f) → c ≤ f
    by (inl low) =
        absurd (
        let g = subst (λ o. says o (nat_cmp e b) (nat_cmp f c) ≡ false) (equal d a (sym same)) h in
        let i = subst (λ o. says Equal o (nat_cmp f c) ≡ false) (equal e b (sym too)) g in
        let j = subst (λ o. says Equal Equal o ≡ false) (less f c low) i in
        cc
        )
    by (inr high) = high

-- neither number is before the other exactly where they are the same
data Compared (x y : ℕ) : Type 0 where
  below : nat_cmp x y ≡ Less → nat_cmp y x ≡ Greater → nat_eq y x ≡ false → Compared x y
  same : nat_cmp x y ≡ Equal → nat_cmp y x ≡ Equal → nat_eq y x ≡ true → Compared x y
  above : nat_cmp x y ≡ Greater → nat_cmp y x ≡ Less → nat_eq y x ≡ false → Compared x y

compared : (x y : ℕ) → Compared x y
compared x y = by (cases_lt x y) (cases_lt y x)
  where
    by : (x < y) ⊎ (y ≤ x) → (y < x) ⊎ (x ≤ y) → Compared x y
    by (inl low) other = below (less x y low) (greater y x low) (grind (arith, nat_tests, low))
    by (inr high) (inl low) = above (greater x y low) (less y x low) (grind (arith, nat_tests, low))
    by (inr high) (inr low) = let e : x ≡ y = omega (arith, high, low) in same (equal x y e) (equal y x (sym e)) (grind (arith, nat_tests, e))

-- and neither edge before the other, that all three numbers are the same
ties_are : (a b c d e f : ℕ) → (not (is_lt (key_cmp (a, b, c) (d, e, f))) && not (is_lt (key_cmp (d, e, f) (a, b, c)))) ≡ (nat_eq d a && (nat_eq e b && nat_eq f c))
ties_are a b c d e f = by (compared a d) (compared b e) (compared c f)
  where
    by : Compared a d → Compared b e → Compared c f → (not (says (nat_cmp a d) (nat_cmp b e) (nat_cmp c f)) && not (says (nat_cmp d a) (nat_cmp e b) (nat_cmp f c))) ≡ (nat_eq d a && (nat_eq e b && nat_eq f c))
    by (below p q r) y z = rw (p, r) refl
    by (above p q r) y z = rw (p, q, r) refl
    by (same p q r) (below s t u) z = rw (p, s, r, u) refl
    by (same p q r) (above s t u) z = rw (p, s, q, t, r, u) refl
    by (same p q r) (same s t u) (below v w x) = rw (p, s, v, r, u, x) refl
    by (same p q r) (same s t u) (above v w x) = rw (p, s, v, q, t, w, r, u, x) refl
    by (same p q r) (same s t u) (same v w x) = rw (p, s, v, q, t, w, r, u, x) refl

-- an edge at this place
abbrev probe : ℕ → ℕ → Signal → SlaveEdge
probe k p signal = record { position = p; edge = record { signal = signal; index = k; time_fs = 0 } }

and_again : (a b c : Bool) → ((a && b) && c) ≡ (a && (b && c))
and_again true b c = refl
and_again false b c = refl

-- the edges of one place are the same ones, and in the same order, after a stable sort
placed : (edges rows : List SlaveEdge) → IsStableBy comes_before edges rows → (k p : ℕ) (signal : Signal)
    → filter (λ x. nat_eq (turn x) (rank signal)) (filter (λ x. nat_eq (position x) p) (filter (λ x. nat_eq (index x) k) rows)) ≡ filter (is_at k p signal) edges
placed edges rows stable k p signal =
    ap (filter (λ x. nat_eq (turn x) (rank signal))) (filter_both (λ x. nat_eq (position x) p) (λ x. nat_eq (index x) k) rows)
    ∙ filter_both (λ x. nat_eq (turn x) (rank signal)) (λ x. nat_eq (index x) k && nat_eq (position x) p) rows
    ∙ filter_agree (λ x. (nat_eq (index x) k && nat_eq (position x) p) && nat_eq (turn x) (rank signal)) (ties comes_before (probe k p signal))
    (λ x. and_again (nat_eq (index x) k) (nat_eq (position x) p) (nat_eq (turn x) (rank signal)) ∙ sym (ties_are k p (rank signal) (index x) (position x) (turn x))) rows
    ∙ stable (probe k p signal)
    ∙ filter_agree (ties comes_before (probe k p signal)) (is_at k p signal) (λ x. ties_are k p (rank signal) (index x) (position x) (turn x)) edges

turn_low : (e : SlaveEdge) → turn e < 2
turn_low e = low e.edge.signal
  where
    low : (s : Signal) → rank s < 2
    low Sync0 = omega arith
    low Sync1 = omega arith

equal_from : (x y : ℕ) → nat_eq x y ≡ true → x ≡ y
equal_from x y e = grind (arith, nat_tests, e)

-- at one place
turns_in : (edges rows : List SlaveEdge) → IsSortedBy comes_before rows → IsStableBy comes_before edges rows → (k p : ℕ)
    → filter (λ x. nat_eq (position x) p) (filter (λ x. nat_eq (index x) k) rows) ≡ edges_at edges k p
turns_in edges rows up stable k p =
    let of_index = filter (λ x. nat_eq (index x) k) rows in
    let of_both = filter (λ x. nat_eq (position x) p) of_index in
    let indices : All (λ x. nat_eq (index x) k ≡ true) of_both =
    All-filter (λ x. nat_eq (position x) p) (λ x. nat_eq (index x) k ≡ true) of_index (filter_passes (λ x. nat_eq (index x) k) rows) in
    let positions : All (λ x. nat_eq (position x) p ≡ true) of_both = filter_passes (λ x. nat_eq (position x) p) of_index in
    let sorted : IsSortedBy comes_before of_both =
    IsSortedBy-filter comes_before before_is_order (λ x. nat_eq (position x) p) of_index (IsSortedBy-filter comes_before before_is_order (λ x. nat_eq (index x) k) rows up) in
    let rising : IsNonDecreasingBy turn of_both =
    rising_in comes_before before_is_order turn (λ x. (nat_eq (index x) k ≡ true) × (nat_eq (position x) p ≡ true)) of_both sorted (λ i d low. (indices i d low, positions i d low))
    (λ x y here there h.
    by_turns (index x) (position x) (turn x) (index y) (position y) (turn y) (equal_from (index x) k here.0 ∙ sym (equal_from (index y) k there.0))
    (equal_from (position x) p here.1 ∙ sym (equal_from (position y) p there.1)) h) in
    by_number turn 0 2 of_both rising (λ i d low. omega arith) (λ i d low. turn_low (slice_index_or of_both i d))
    ∙ ap (λ t. filter (λ x. nat_eq (turn x) 0) of_both ++ t) (append-nil (filter (λ x. nat_eq (turn x) 1) of_both))
    ∙ ap (λ t. t ++ filter (λ x. nat_eq (turn x) 1) of_both) (placed edges rows stable k p Sync0)
    ∙ ap (λ t. filter (is_at k p Sync0) edges ++ t) (placed edges rows stable k p Sync1)

positions_in : (edges rows : List SlaveEdge) (slaves : ℕ) → IsSortedBy comes_before rows → IsStableBy comes_before edges rows → All (λ x. position x < slaves) rows → (k : ℕ)
    → filter (λ x. nat_eq (index x) k) rows ≡ flat_map (edges_at edges k) (range_with_len 0 slaves)
positions_in edges rows slaves up stable few k =
    let of_index = filter (λ x. nat_eq (index x) k) rows in
    let sorted : IsSortedBy comes_before of_index = IsSortedBy-filter comes_before before_is_order (λ x. nat_eq (index x) k) rows up in
    let rising : IsNonDecreasingBy position of_index =
    rising_in comes_before before_is_order position (λ x. nat_eq (index x) k ≡ true) of_index sorted (filter_passes (λ x. nat_eq (index x) k) rows)
    (λ x y here there h.
    by_positions (index x) (position x) (turn x) (index y) (position y) (turn y) (equal_from (index x) k here ∙ sym (equal_from (index y) k there)) h) in
    by_number position 0 slaves of_index rising (λ i d low. omega arith) (All-filter (λ x. nat_eq (index x) k) (λ x. position x < 0 + slaves) rows (λ i d low. omega (arith, few i d low)))
    ∙ flat_map_alike (λ p. filter (λ x. nat_eq (position x) p) of_index) (edges_at edges k) 0 slaves (λ p low high. turns_in edges rows up stable k p)

-- all of them
pub sorted_in_order : (edges rows : List SlaveEdge) (cycles slaves : ℕ) → IsSortedBy comes_before rows → IsStableBy comes_before edges rows → All (λ x. position x < slaves) rows
    → All (λ x. index x < cycles) rows → rows ≡ by_index cycles slaves edges
sorted_in_order edges rows cycles slaves up stable few low =
    let rising : IsNonDecreasingBy index rows =
    rising_in comes_before before_is_order index (λ x. 0 ≤ index x) rows up (λ i d h. omega arith)
    (λ x y here there h. by_indices (index x) (position x) (turn x) (index y) (position y) (turn y) h) in
    by_number index 0 cycles rows rising (λ i d h. omega arith) (λ i d h. omega (arith, low i d h))
    ∙ flat_map_alike (λ k. filter (λ x. nat_eq (index x) k) rows) (λ k. flat_map (edges_at edges k) (range_with_len 0 slaves)) 0 cycles (λ k least most. positions_in edges rows slaves up stable few k)

-- the indices of edges are below the number of cycles
abbrev pub of_signal : SlaveEdge → SlaveEdge → Bool
of_signal e x = is_of e.position e.edge.signal x

pub of_itself : (e : SlaveEdge) → of_signal e e ≡ true
of_itself e = rw (same (position e), same (turn e)) refl
  where
    same : (n : ℕ) → nat_eq n n ≡ true
    same n = grind (arith, nat_tests)

pub kept : {X : Type 0} (p : X → Bool) (xs : List X) (x : X) → Contains xs x → p x ≡ true → Contains (filter p xs) x
kept p [] x has passes = absurd (omega (arith, has.1))
kept p (y ∷ ys) x has passes = by has.0 has.1 has.2 (λ more. kept p ys x more passes)
  where
    behind : (b : Bool) → p y ≡ b → Contains (filter p ys) x → Contains (filter p (y ∷ ys)) x
    behind true e rest = rw e (suc rest.0, omega (arith, rest.1), rest.2)
    behind false e rest = rw e rest

    by : (k : ℕ) → k < length (y ∷ ys) → slice_index_or (y ∷ ys) k x ≡ x → (Contains ys x → Contains (filter p ys) x) → Contains (filter p (y ∷ ys)) x
    by zero low at rest = let e : p y ≡ true = ap p at ∙ passes in rw e (0, omega arith, at)
    by (suc k) low at rest = behind (p y) refl (rest (k, omega (arith, low), at))

counted_index : (cycles : ℕ) (own : List SlaveEdge) (e : SlaveEdge) → AreCounted cycles own → Contains own e → index e < cycles
counted_index cycles own e are has =
    let at : index e ≡ has.0 =
    sym (ap index has.2) ∙ sym (get_or-map index own has.0 e 0 has.1) ∙ ap (λ xs. slice_index_or xs has.0 0) are.indices ∙ get_or-range_with_len 0 (length own) has.0 0 has.1
    ∙ zero-add has.0 in
    omega (arith, at, has.1, are.most)

pub indices_low : (s : SegmentValue) (edges : List SlaveEdge) → AreEdges s edges → All (λ x. index x < s.head.cycles) edges
indices_low s edges are =
    λ k d low.
    let e = slice_index_or edges k d in
    counted_index s.head.cycles (edges_of e.position e.edge.signal edges) e (are.counted e.position e.edge.signal)
    (kept (of_signal e) edges e (Contains-get_or edges k d low) (of_itself e))
