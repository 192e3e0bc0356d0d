-- The extremes of some instants, and the edges of an index that come by position.
use Rattle.std.specs.Prelude.{◌≡◌, ℕ, ◌^◌, ◌<◌, ◌≤◌, max, Bool, true, false, not, ◌&&◌, nat_eq, if◌then◌else◌, List, [], ◌∷◌, ◌++◌, slice_index_or}
use Rattle.std.specs.List.{All}
use Rattle.std.proofs.Common.{ap, ap₂, sym, refl, ◌∙◌, arith}
use Rattle.std.proofs.lemmas.Bool.Decides.{nat_tests}
use Rattle.std.proofs.lemmas.List.Elements.{All-head, All-tail, All-nil, All-push}
use Rattle.segment_bounds.specs.Window.{apart, greatest_with}
use Rattle.segment_file.specs.Segment.{SegmentValue}
use Rattle.edge_report.specs.Edges.{total_shift}
use Rattle.edge_report.specs.InsideSpread.{at_instant, joined, moved, no_edge, no_instant, reach, turned, with_own}
use Rattle.edge_report.specs.Spread.{are_compared, gap_between, spread_between}
use Rattle.edge_report.specs.declared.extremes.Extremes.{Extremes}
use Rattle.edge_report.specs.declared.meeting.Meeting.{Meeting}
use Rattle.edge_report.specs.declared.slave_edge.SlaveEdge.{SlaveEdge}
use Rattle.edge_report.proofs.Ordering.{index, position}

-- the extremes of the elements that pass a test
pub extremes_where : {X : Type 0} → (X → Bool) → (X → ℕ) → List X → Extremes
extremes_where p f [] = no_instant
extremes_where p f (x ∷ xs) = if p x then joined (at_instant (f x)) (extremes_where p f xs) else extremes_where p f xs

abbrev of_both : ℕ → ℕ → Extremes
of_both l g = record { least = l; greatest = g }

alike : (a b c d : ℕ) → a ≡ c → b ≡ d → of_both a b ≡ of_both c d
alike a b c d e f = rw (e, f) refl

joined_again : (a b c : Extremes) → joined a (joined b c) ≡ joined (joined a b) c
joined_again a b c = alike _ _ _ _ (omega arith) (omega arith)

joined_turned : (a b : Extremes) → joined a b ≡ joined b a
joined_turned a b = alike _ _ _ _ (omega arith) (omega arith)

joined_past : (a b c : Extremes) → joined a (joined b c) ≡ joined b (joined a c)
joined_past a b c = alike _ _ _ _ (omega arith) (omega arith)

none_twice : joined no_instant no_instant ≡ no_instant
none_twice = alike _ _ _ _ (omega arith) (omega arith)

-- with one more element at the end
pub where_pushed : {X : Type 0} (p : X → Bool) (f : X → ℕ) (xs : List X) (y : X)
    → extremes_where p f (xs ++ y ∷ []) ≡ (if p y then joined (extremes_where p f xs) (at_instant (f y)) else extremes_where p f xs)
unfolding extremes_where
where_pushed p f [] y = by (p y)
  where
    by : (b : Bool) → (if b then joined (at_instant (f y)) no_instant else no_instant) ≡ (if b then joined no_instant (at_instant (f y)) else no_instant)
    by true = joined_turned (at_instant (f y)) no_instant
    by false = refl
where_pushed p f (x ∷ xs) y = by (p x) (p y) (where_pushed p f xs y)
  where
    by : (a b : Bool) → extremes_where p f (xs ++ y ∷ []) ≡ (if b then joined (extremes_where p f xs) (at_instant (f y)) else extremes_where p f xs)
        → (if a then joined (at_instant (f x)) (extremes_where p f (xs ++ y ∷ [])) else extremes_where p f (xs ++ y ∷ []))
        ≡ (if b then joined (if a then joined (at_instant (f x)) (extremes_where p f xs) else extremes_where p f xs) (at_instant (f y))
        else (if a then joined (at_instant (f x)) (extremes_where p f xs) else extremes_where p f xs))
    by true true e = ap (joined (at_instant (f x))) e ∙ joined_again (at_instant (f x)) (extremes_where p f xs) (at_instant (f y))
    by true false e = ap (joined (at_instant (f x))) e
    by false true e = e
    by false false e = e

-- where none passes
pub where_none : {X : Type 0} (p : X → Bool) (f : X → ℕ) (xs : List X) → All (λ x. p x ≡ false) xs → extremes_where p f xs ≡ no_instant
unfolding extremes_where
where_none p f [] all = refl
where_none p f (x ∷ xs) all = rw (All-head (λ y. p y ≡ false) x xs all) (where_none p f xs (All-tail (λ y. p y ≡ false) x xs all))

-- a test that is one of two others, which are never both
pub data Splits (r p q : Bool) : Type 0 where
  of_first : r ≡ true → p ≡ true → q ≡ false → Splits r p q
  of_second : r ≡ true → p ≡ false → q ≡ true → Splits r p q
  of_none : r ≡ false → p ≡ false → q ≡ false → Splits r p q

pub where_either : {X : Type 0} (r p q : X → Bool) (f : X → ℕ) (xs : List X) → All (λ x. Splits (r x) (p x) (q x)) xs
    → extremes_where r f xs ≡ joined (extremes_where p f xs) (extremes_where q f xs)
unfolding extremes_where
where_either r p q f [] all = sym none_twice
where_either r p q f (x ∷ xs) all =
    by (All-head (λ y. Splits (r y) (p y) (q y)) x xs all) (where_either r p q f xs (All-tail (λ y. Splits (r y) (p y) (q y)) x xs all))
  where
    by : Splits (r x) (p x) (q x) → extremes_where r f xs ≡ joined (extremes_where p f xs) (extremes_where q f xs)
        → extremes_where r f (x ∷ xs) ≡ joined (extremes_where p f (x ∷ xs)) (extremes_where q f (x ∷ xs))
    by (of_first a b c) rest = rw (a, b, c) (ap (joined (at_instant (f x))) rest ∙ joined_again (at_instant (f x)) (extremes_where p f xs) (extremes_where q f xs))
    by (of_second a b c) rest = rw (a, b, c) (ap (joined (at_instant (f x))) rest ∙ joined_past (at_instant (f x)) (extremes_where p f xs) (extremes_where q f xs))
    by (of_none a b c) rest = rw (a, b, c) rest

-- tests that agree
pub where_agree : {X : Type 0} (p q : X → Bool) (f : X → ℕ) (xs : List X) → All (λ x. p x ≡ q x) xs → extremes_where p f xs ≡ extremes_where q f xs
unfolding extremes_where
where_agree p q f [] all = refl
where_agree p q f (x ∷ xs) all =
    rw (All-head (λ y. p y ≡ q y) x xs all) (ap (λ e. if q x then joined (at_instant (f x)) e else e) (where_agree p q f xs (All-tail (λ y. p y ≡ q y) x xs all)))

-- what is left of two edges, their shifts taken off, is the difference of their moved instants
abbrev pub IsShifted : SegmentValue → SlaveEdge → Type 0
IsShifted s e = total_shift s e < 1000000000

moved_apart : (s : SegmentValue) (a b : SlaveEdge) → IsShifted s a → IsShifted s b → gap_between s a b ≡ apart (moved s a) (moved s b)
moved_apart s a b low too = omega (arith, low, too)

-- the edges of an index at other positions
pub others_at : ℕ → ℕ → SlaveEdge → Bool
others_at k p x = nat_eq (index x) k && not (nat_eq (position x) p)

pub own_at : ℕ → ℕ → SlaveEdge → Bool
own_at k p x = nat_eq (index x) k && nat_eq (position x) p

same_way : (a b : ℕ) → nat_eq a b ≡ nat_eq b a
same_way a b = grind (arith, nat_tests)

not_empty : (x : ℕ) → x < 2 ^ 128 → reach x no_instant ≡ 0
not_empty x low = omega (arith, low)

reach_more : (x y : ℕ) (e : Extremes) → reach x (joined (at_instant y) e) ≡ max (apart x y) (reach x e)
reach_more x y e = omega arith

-- the farthest edge of those on other slaves
pub reached : (s : SegmentValue) (e : SlaveEdge) (xs : List SlaveEdge) → IsShifted s e → All (IsShifted s) xs → moved s e < 2 ^ 128
    → reach (moved s e) (extremes_where (others_at (index e) (position e)) (moved s) xs) ≡ greatest_with (spread_between s) e xs
unfolding extremes_where greatest_with others_at
reached s e [] here all low = not_empty (moved s e) low
reached s e (x ∷ xs) here all low =
    by (others_at (index e) (position e) x) refl (reached s e xs here (All-tail (IsShifted s) x xs all) low)
  where
    rest : Extremes
    rest = extremes_where (others_at (index e) (position e)) (moved s) xs

    compared : are_compared e x ≡ others_at (index e) (position e) x
    compared = ap₂ (λ a b. a && not b) (same_way (index e) (index x)) (same_way (position e) (position x))

    by : (b : Bool) → others_at (index e) (position e) x ≡ b → reach (moved s e) rest ≡ greatest_with (spread_between s) e xs
        → reach (moved s e) (if others_at (index e) (position e) x then joined (at_instant (moved s x)) rest else rest) ≡ max (spread_between s e x) (greatest_with (spread_between s) e xs)
    by true is same =
        let e1 : spread_between s e x ≡ gap_between s e x = rw (compared, is) refl in
        let gap = moved_apart s e x here (All-head (IsShifted s) x xs all) in
        rw is (reach_more (moved s e) (moved s x) rest ∙ ap₂ max (sym gap ∙ sym e1) same)
    by false is same =
        let e0 : spread_between s e x ≡ 0 = rw (compared, is) refl in
        rw is (omega (arith, e0, same))

-- a meeting tells of the edges of an index: of the last slave's, and of those before it
pub record IsMeeting (s : SegmentValue) (k : ℕ) (xs : List SlaveEdge) (m : Meeting) : Type 0 where
  pub own : m.own ≡ extremes_where (own_at k m.position) (moved s) xs
  pub earlier : m.earlier ≡ extremes_where (others_at k m.position) (moved s) xs
  pub last : All (λ x. index x ≡ k → position x ≤ m.position) xs

pub no_meeting : (s : SegmentValue) (k : ℕ) → IsMeeting s k [] no_edge
unfolding extremes_where
no_meeting s k = record { own = refl; earlier = refl; last = All-nil (λ x. index x ≡ k → position x ≤ 0) }

-- another slave comes
none_yet : (k p q : ℕ) (x : SlaveEdge) → q < p → (index x ≡ k → position x ≤ q) → own_at k p x ≡ false
unfolding own_at
none_yet k p q x low last = by (nat_eq (index x) k) refl
  where
    by : (b : Bool) → nat_eq (index x) k ≡ b → (b && nat_eq (position x) p) ≡ false
    by false e = refl
    by true e = let is : index x ≡ k = grind (arith, nat_tests, e) in let below = last is in grind (arith, nat_tests, below, low)

splits_at : (k p q : ℕ) (x : SlaveEdge) → q < p → (index x ≡ k → position x ≤ q) → Splits (others_at k p x) (others_at k q x) (own_at k q x)
unfolding others_at own_at
splits_at k p q x low last = by (nat_eq (index x) k) (nat_eq (position x) q) refl refl
  where
    by : (a b : Bool) → nat_eq (index x) k ≡ a → nat_eq (position x) q ≡ b
        → Splits (nat_eq (index x) k && not (nat_eq (position x) p)) (nat_eq (index x) k && not (nat_eq (position x) q)) (nat_eq (index x) k && nat_eq (position x) q)
    by false b e f = of_none (rw e refl) (rw e refl) (rw e refl)
    by true b e f =
        let is : index x ≡ k = grind (arith, nat_tests, e) in
        let below = last is in
        let other : nat_eq (position x) p ≡ false = grind (arith, nat_tests, below, low) in
        among b f other e
      where
        among : (b : Bool) → nat_eq (position x) q ≡ b → nat_eq (position x) p ≡ false → nat_eq (index x) k ≡ true
            → Splits (nat_eq (index x) k && not (nat_eq (position x) p)) (nat_eq (index x) k && not (nat_eq (position x) q)) (nat_eq (index x) k && nat_eq (position x) q)
        among true f other e = of_second (rw (e, other) refl) (rw (e, f) refl) (rw (e, f) refl)
        among false f other e = of_first (rw (e, other) refl) (rw (e, f) refl) (rw (e, f) refl)

pub turned_is : (s : SegmentValue) (k p : ℕ) (xs : List SlaveEdge) (m : Meeting) → IsMeeting s k xs m → m.position ≤ p → IsMeeting s k xs (turned p m)
turned_is s k p xs m is low = by (nat_eq m.position p) refl
  where
    by : (b : Bool) → nat_eq m.position p ≡ b → IsMeeting s k xs (if b then m else record { position = p; own = no_instant; earlier = joined m.earlier m.own })
    by true e = is
    by false e =
        let less : m.position < p = grind (arith, nat_tests, e, low) in
        record {
          own = sym (where_none (own_at k p) (moved s) xs (λ i d h. none_yet k p m.position (slice_index_or xs i d) less (is.last i d h)));
          earlier = ap₂ joined is.earlier is.own
              ∙ sym (where_either (others_at k p) (others_at k m.position) (own_at k m.position) (moved s) xs (λ i d h. splits_at k p m.position (slice_index_or xs i d) less (is.last i d h)));
          last = λ i d h same. let below = is.last i d h same in omega (arith, below, less);
        }

pub turned_to : (p : ℕ) (m : Meeting) → (turned p m).position ≡ p
turned_to p m = by (nat_eq m.position p) refl
  where
    by : (b : Bool) → nat_eq m.position p ≡ b → (if b then m else record { position = p; own = no_instant; earlier = joined m.earlier m.own }).position ≡ p
    by true e = grind (arith, nat_tests, e)
    by false e = refl

-- an edge of the last slave comes
pub pushed_own : (s : SegmentValue) (k : ℕ) (xs : List SlaveEdge) (m : Meeting) (e : SlaveEdge) → IsMeeting s k xs m → index e ≡ k → m.position ≡ position e
    → IsMeeting s k (xs ++ e ∷ []) (with_own (moved s e) m)
unfolding own_at others_at
pushed_own s k xs m e is same at =
    let here : nat_eq (index e) k ≡ true = grind (arith, nat_tests, same) in
    let there : nat_eq (position e) m.position ≡ true = grind (arith, nat_tests, at) in
    let passes : own_at k m.position e ≡ true = rw (here, there) refl in
    let other : others_at k m.position e ≡ false = rw (here, there) refl in
    record {
      own = sym (where_pushed (own_at k m.position) (moved s) xs e ∙ rw passes (ap (λ r. joined r (at_instant (moved s e))) (sym is.own)));
      earlier = sym (where_pushed (others_at k m.position) (moved s) xs e ∙ rw other (sym is.earlier));
      last = All-push (λ x. index x ≡ k → position x ≤ m.position) xs e is.last (λ h. omega (arith, at));
    }

-- an edge of another index comes
pub pushed_other : (s : SegmentValue) (k : ℕ) (xs : List SlaveEdge) (m : Meeting) (e : SlaveEdge) → IsMeeting s k xs m → (index e ≡ k → ⊥) → IsMeeting s k (xs ++ e ∷ []) m
unfolding own_at others_at
pushed_other s k xs m e is differs =
    let here : nat_eq (index e) k ≡ false = grind (arith, nat_tests, differs) in
    let passes : own_at k m.position e ≡ false = rw here refl in
    let other : others_at k m.position e ≡ false = rw here refl in
    record {
      own = is.own ∙ sym (where_pushed (own_at k m.position) (moved s) xs e ∙ rw passes refl);
      earlier = is.earlier ∙ sym (where_pushed (others_at k m.position) (moved s) xs e ∙ rw other refl);
      last = All-push (λ x. index x ≡ k → position x ≤ m.position) xs e is.last (λ h. absurd (differs h));
    }

-- which of two edges comes first makes no difference
pub either_way : (s : SegmentValue) (a b : SlaveEdge) → spread_between s a b ≡ spread_between s b a
either_way s a b =
    let compared : are_compared a b ≡ are_compared b a = ap₂ (λ x y. x && not y) (same_way (index a) (index b)) (same_way (position a) (position b)) in
    let gap : gap_between s a b ≡ gap_between s b a = omega arith in
    ap₂ (λ x y. if x then y else 0) compared gap

same_number : (n : ℕ) → nat_eq n n ≡ true
same_number n = grind (arith, nat_tests)

-- an edge makes no pair with itself
pub none_itself : (s : SegmentValue) (a : SlaveEdge) → spread_between s a a ≡ 0
none_itself s a = rw (same_number (index a), same_number (position a)) refl
