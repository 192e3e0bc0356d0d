-- A unit that was armed raises the edges of the definition, each once and in order.
use Rattle.std.proofs.Common.{◌≡◌, ℕ, suc, zero, ◌+◌, ◌*◌, ◌%◌, ◌^◌, ◌<◌, ◌≤◌, min, Bool, true, false, List, [], ◌∷◌, ◌++◌, length, Option, Some, None, arith, refl, sym, ap, ap₂, ◌∙◌, subst, inl, inr}
use Rattle.std.specs.Prelude.{slice_get}
use Rattle.std.specs.Option.{option_map, option_map_or}
use Rattle.std.proofs.Math.Nat.{mod-add-mod, mod-eq_of_lt}
use Rattle.std.proofs.lemmas.Bool.{cases_lt}
use Rattle.std.proofs.lemmas.List.{append-nil, length_push}
use Rattle.std.proofs.lemmas.List.Elements.{filter-append}
use Rattle.local_clock.specs.FirstReaching.{is_behind}
use Rattle.sync_units.specs.declared.edge.Edge.{Edge}
use Rattle.sync_units.specs.declared.edge.Signal.{Signal}
use Rattle.sync_units.specs.declared.edge.Signal.TheVariants.{Sync0, Sync1}
use Rattle.sync_units.specs.SyncRule.{Due, Armed, due_of, first_due, armed_by, moved_on, due_after_tick, raised, after_tick, tick_edges, raised_of, after_ticks, ticks_edges}
use Rattle.sync_units.specs.Edges.{IsNextReached, EdgeAt, AreEdges, start_of, edge_of, is_same, edges_of}

-- an edge is at one tick only
next_unique : (w v m n n' : ℕ) (copy : ℕ → ℕ) → IsNextReached w copy v m n → IsNextReached w copy v m n' → n ≡ n'
next_unique w v m n n' copy h h' = elim (cases_lt n n') [
  | inl lt ↦ let early = h'.before n h.after lt in let reached = h.reached in absurd (cc (early, reached))
  | inr ge ↦ elim (cases_lt n' n) [
    | inl lt ↦ let early = h.before n' h'.after lt in let reached = h'.reached in absurd (cc (early, reached))
    | inr le ↦ omega arith
  ]
]

pub edge_unique : (w : ℕ) (copy : ℕ → ℕ) (cycle v k n n' : ℕ) → EdgeAt w copy cycle v k n → EdgeAt w copy cycle v k n' → n ≡ n'
edge_unique w copy cycle v zero n n' h h' = next_unique w v 0 n n' copy h h'
edge_unique w copy cycle v (suc k) n n' (m, before, next) (m', before', next') =
    let e : m ≡ m' = edge_unique w copy cycle v k m m' before before' in
    next_unique w ((v + suc k * cycle) % 2 ^ w) m n n' copy next (rw (← e) at next')

-- the tick after which edge k is looked for: 0, or that of edge k - 1
abbrev pub IsLast : ℕ → (ℕ → ℕ) → ℕ → ℕ → ℕ → ℕ → Type 0
IsLast w copy cycle v zero m = m ≡ 0
IsLast w copy cycle v (suc k) m = EdgeAt w copy cycle v k m

last_unique : (w : ℕ) (copy : ℕ → ℕ) (cycle v k m m' : ℕ) → IsLast w copy cycle v k m → IsLast w copy cycle v k m' → m ≡ m'
last_unique w copy cycle v zero m m' h h' = h ∙ sym h'
last_unique w copy cycle v (suc k) m m' h h' = edge_unique w copy cycle v k m m' h h'

due_first : (w cycle v : ℕ) → v < 2 ^ w → (v + 0 * cycle) % 2 ^ w ≡ v
due_first w cycle v word = ap (λ x. x % 2 ^ w) (let e : v + 0 * cycle ≡ v = omega arith in e) ∙ mod-eq_of_lt word

edge_from_last : (w : ℕ) (copy : ℕ → ℕ) (cycle v k m n : ℕ) → v < 2 ^ w → IsLast w copy cycle v k m
    → IsNextReached w copy ((v + k * cycle) % 2 ^ w) m n → EdgeAt w copy cycle v k n
edge_from_last w copy cycle v zero m n word last next =
    subst (λ u. IsNextReached w copy u 0 n) (due_first w cycle v word)
    (subst (λ j. IsNextReached w copy ((v + 0 * cycle) % 2 ^ w) j n) last next)
edge_from_last w copy cycle v (suc k) m n word last next = (m, last, next)

last_of_edge : (w : ℕ) (copy : ℕ → ℕ) (cycle v k n : ℕ) → v < 2 ^ w → EdgeAt w copy cycle v k n
    → (m : ℕ) × IsLast w copy cycle v k m × IsNextReached w copy ((v + k * cycle) % 2 ^ w) m n
last_of_edge w copy cycle v zero n word next =
    (0, refl, subst (λ u. IsNextReached w copy u 0 n) (sym (due_first w cycle v word)) next)
last_of_edge w copy cycle v (suc k) n word edge = edge

-- an edge comes after all those before it
earlier_edge : (w : ℕ) (copy : ℕ → ℕ) (cycle v k n j : ℕ) → EdgeAt w copy cycle v k n → j ≤ k
    → (m : ℕ) × EdgeAt w copy cycle v j m × (m ≤ n)
earlier_edge w copy cycle v zero n j edge le =
    let e : 0 ≡ j = omega arith in
    (n, subst (λ i. EdgeAt w copy cycle v i n) e edge, omega arith)
earlier_edge w copy cycle v (suc k) n j (m, before, next) le = elim (cases_lt k j) [
  | inl lt ↦
      let e : suc k ≡ j = omega arith in
      let edge : EdgeAt w copy cycle v (suc k) n = (m, before, next) in
      (n, subst (λ i. EdgeAt w copy cycle v i n) e edge, omega arith)
  | inr ge ↦
      let found = earlier_edge w copy cycle v k m j before ge in
      let after = next.after in
      (found.0, found.1, omega (arith, found.2, after))
]

-- one signal alone
pub signal_due : ℕ → (ℕ → ℕ) → ℕ → ℕ → Due → Due
signal_due w copy cycle zero d = d
signal_due w copy cycle (suc k) d = due_after_tick w cycle (copy (suc k)) (signal_due w copy cycle k d)

pub signal_edges : ℕ → (ℕ → ℕ) → (ℕ → ℕ) → ℕ → Signal → ℕ → Due → List Edge
signal_edges w copy time cycle s zero d = []
signal_edges w copy time cycle s (suc k) d =
    signal_edges w copy time cycle s k d ++ raised w s (copy (suc k)) (time (suc k)) (signal_due w copy cycle k d)

-- after n ticks a signal has raised its first edges, up to the one before edge `count`, and waits for that one
pub record HasRaised (w : ℕ) (copy time : ℕ → ℕ) (cycle v : ℕ) (s : Signal) (n : ℕ) (d : Due) (es : List Edge) (count last : ℕ) : Type 0 where
  pub length : length es ≡ count
  pub value : d.value ≡ (v + count * cycle) % 2 ^ w
  pub index : d.index ≡ min count (2 ^ 32)
  pub is_last : IsLast w copy cycle v count last
  pub within : last ≤ n
  pub quiet : (i : ℕ) → last < i → i ≤ n → is_behind w (copy i) ((v + count * cycle) % 2 ^ w) ≡ true
  pub edges : (k : ℕ) → k < count → (m : ℕ) × EdgeAt w copy cycle v k m × (m ≤ n) × (slice_get es k ≡ Some (edge_of s k (time m)))

slice_get_front : (es : List Edge) (e : Edge) (k : ℕ) → k < length es → slice_get (es ++ e ∷ []) k ≡ slice_get es k
slice_get_front [] e k lt = absurd (omega arith)
slice_get_front (x ∷ es) e zero lt = refl
slice_get_front (x ∷ es) e (suc k) lt = slice_get_front es e k (omega arith)

slice_get_last : (es : List Edge) (e : Edge) (k : ℕ) → length es ≡ k → slice_get (es ++ e ∷ []) k ≡ Some e
slice_get_last [] e zero is = refl
slice_get_last [] e (suc k) is = absurd (omega arith)
slice_get_last (x ∷ es) e zero is = absurd (omega arith)
slice_get_last (x ∷ es) e (suc k) is = slice_get_last es e k (omega arith)

waits : (w : ℕ) (copy time : ℕ → ℕ) (cycle v : ℕ) (s : Signal) (n : ℕ) (d : Due) (es : List Edge) (count last : ℕ)
    → HasRaised w copy time cycle v s n d es count last → is_behind w (copy (suc n)) d.value ≡ true
    → HasRaised w copy time cycle v s (suc n) d es count last
waits w copy time cycle v s n d es count last h behind = record {
  length = h.length;
  value = h.value;
  index = h.index;
  is_last = h.is_last;
  within = let b = h.within in omega (arith, b);
  quiet = λ i after le. elim (cases_lt n i) [
    | inl lt ↦
        let e : suc n ≡ i = omega arith in
        ap₂ (λ j u. is_behind w (copy j) u) (sym e) (sym h.value) ∙ behind
    | inr ge ↦ h.quiet i after ge
  ];
  edges = λ k lt. (let found = h.edges k lt in (found.0, found.1, omega (arith, found.2), found.3));
}

raises : (w : ℕ) (copy time : ℕ → ℕ) (cycle v : ℕ) (s : Signal) (n : ℕ) (d : Due) (es : List Edge) (count last : ℕ) → v < 2 ^ w
    → HasRaised w copy time cycle v s n d es count last → is_behind w (copy (suc n)) d.value ≡ false
    → HasRaised w copy time cycle v s (suc n) (moved_on w cycle d)
    (es ++ record { signal = s; index = d.index; time_fs = time (suc n) } ∷ []) (suc count) (suc n)
raises w copy time cycle v s n d es count last word h reached =
    let e : Edge = record { signal = s; index = d.index; time_fs = time (suc n) } in
    let here : EdgeAt w copy cycle v count (suc n) =
    edge_from_last w copy cycle v count last (suc n) word h.is_last (record {
      after = let b = h.within in omega (arith, b);
      reached = subst (λ u. is_behind w (copy (suc n)) u ≡ false) h.value reached;
      before = λ i after lt. h.quiet i after (omega arith);
    }) in
    record {
      length = let l = length_push es e in let b = h.length in omega (arith, l, b);
      value =
          ap (λ u. (u + cycle) % 2 ^ w) h.value ∙ mod-add-mod (v + count * cycle) (2 ^ w) cycle
          ∙ ap (λ x. x % 2 ^ w) (let p : v + count * cycle + cycle ≡ v + suc count * cycle = omega arith in p);
      index = let b = h.index in omega (arith, b);
      is_last = here;
      within = omega arith;
      quiet = λ i after le. absurd (omega arith);
      edges = λ k lt. elim (cases_lt k count) [
        | inl less ↦
            let found = h.edges k less in
            let len = h.length in
            (found.0, found.1, omega (arith, found.2), slice_get_front es e k (omega (arith, len)) ∙ found.3)
        | inr ge ↦
            let is : count ≡ k = omega arith in (
              suc n,
              subst (λ j. EdgeAt w copy cycle v j (suc n)) is here,
              omega arith,
              slice_get_last es e k (h.length ∙ is)
                  ∙ ap (λ i. Some (let t : Edge = record { signal = s; index = i; time_fs = time (suc n) } in t)) (h.index ∙ ap (λ j. min j (2 ^ 32)) is),
            )
      ];
    }

has_raised : (w : ℕ) (copy time : ℕ → ℕ) (cycle v : ℕ) (s : Signal) (n : ℕ) → v < 2 ^ w
    → (count : ℕ) × (last : ℕ)
    × HasRaised w copy time cycle v s n (signal_due w copy cycle n (first_due v)) (signal_edges w copy time cycle s n (first_due v)) count last
unfolding signal_due signal_edges
has_raised w copy time cycle v s zero word = (
  0,
  0,
  record {
    length = refl;
    value = sym (due_first w cycle v word);
    index = refl;
    is_last = refl;
    within = omega arith;
    quiet = λ i after le. absurd (omega arith);
    edges = λ k lt. absurd (omega arith);
  },
)
has_raised w copy time cycle v s (suc n) word =
    let before = has_raised w copy time cycle v s n word in
    at (signal_due w copy cycle n (first_due v)) (signal_edges w copy time cycle s n (first_due v)) before.0 before.1 before.2
    (is_behind w (copy (suc n)) (signal_due w copy cycle n (first_due v)).value) refl
  where
    at : (d : Due) (es : List Edge) (count last : ℕ) → HasRaised w copy time cycle v s n d es count last
        → (b : Bool) → is_behind w (copy (suc n)) d.value ≡ b
        → (count : ℕ) × (last : ℕ)
        × HasRaised w copy time cycle v s (suc n) (due_after_tick w cycle (copy (suc n)) d) (es ++ raised w s (copy (suc n)) (time (suc n)) d) count last
    at d es count last h true is =
        (count, last, rw (is, append-nil es) (waits w copy time cycle v s n d es count last h is))
    at d es count last h false is = (suc count, suc n, rw is (raises w copy time cycle v s n d es count last word h is))

pub signal_exact : (w : ℕ) (copy time : ℕ → ℕ) (cycle v : ℕ) (s : Signal) (n : ℕ) → v < 2 ^ w
    → AreEdges w copy time cycle v s n (signal_edges w copy time cycle s n (first_due v))
signal_exact w copy time cycle v s n word =
    let (count, last, h) = has_raised w copy time cycle v s n word in
    record {
      all = λ k m edge le. elim (cases_lt k count) [
        | inl lt ↦
            let found = h.edges k lt in
            found.3 ∙ ap (λ j. Some (edge_of s k (time j))) (edge_unique w copy cycle v k found.0 m found.1 edge)
        | inr ge ↦
            let due = earlier_edge w copy cycle v k m count edge ge in
            let before = last_of_edge w copy cycle v count due.0 word due.1 in
            let e : before.0 ≡ last = last_unique w copy cycle v count before.0 last before.1 h.is_last in
            let after = before.2.after in
            let reached = before.2.reached in
            let quiet = h.quiet due.0 (omega (arith, e, after)) (omega (arith, due.2)) in
            absurd (cc (reached, quiet))
      ];
      only = λ k lt. (let len = h.length in let found = h.edges k (omega (arith, len)) in (found.0, found.1, found.2));
    }

same_raised : (w x at : ℕ) (d : Due) (s : Signal) → is_same s s ≡ true → edges_of s (raised w s x at d) ≡ raised w s x at d
same_raised w x at d s same = by (is_behind w x d.value) refl
  where
    by : (b : Bool) → is_behind w x d.value ≡ b → edges_of s (raised w s x at d) ≡ raised w s x at d
    by true is = rw is refl
    by false is = rw is (rw same refl)

other_raised : (w x at : ℕ) (d : Due) (r s : Signal) → is_same r s ≡ false → edges_of s (raised w r x at d) ≡ []
other_raised w x at d r s other = by (is_behind w x d.value) refl
  where
    by : (b : Bool) → is_behind w x d.value ≡ b → edges_of s (raised w r x at d) ≡ []
    by true is = rw is refl
    by false is = rw is (rw other refl)

cycle_stays : (w : ℕ) (copy : ℕ → ℕ) (k : ℕ) (a : Armed) → (after_ticks w copy k a).cycle ≡ a.cycle
cycle_stays w copy zero a = refl
cycle_stays w copy (suc k) a = cycle_stays w copy k a

due_moved : (w x : ℕ) (a : Armed) (s : Signal) → due_of s (after_tick w x a) ≡ option_map (due_after_tick w a.cycle x) (due_of s a)
due_moved w x a Sync0 = refl
due_moved w x a Sync1 = refl

-- what is due of a signal does not depend on the other
due_alone : (w : ℕ) (copy : ℕ → ℕ) (k : ℕ) (a : Armed) (s : Signal)
    → due_of s (after_ticks w copy k a) ≡ option_map (signal_due w copy a.cycle k) (due_of s a)
unfolding signal_due
due_alone w copy zero a s = at_zero (due_of s a)
  where
    at_zero : (o : Option Due) → o ≡ option_map (signal_due w copy a.cycle 0) o
    at_zero None = refl
    at_zero (Some d) = refl
due_alone w copy (suc k) a s =
    due_moved w (copy (suc k)) (after_ticks w copy k a) s
    ∙ ap₂ (λ c o. option_map (due_after_tick w c (copy (suc k))) o) (cycle_stays w copy k a) (due_alone w copy k a s)
    ∙ twice (due_of s a)
  where
    twice : (o : Option Due)
        → option_map (due_after_tick w a.cycle (copy (suc k))) (option_map (signal_due w copy a.cycle k) o) ≡ option_map (signal_due w copy a.cycle (suc k)) o
    twice None = refl
    twice (Some d) = refl

no_others : (w x at : ℕ) (o : Option Due) → edges_of Sync0 (option_map_or (raised w Sync1 x at) o []) ≡ []
no_others w x at None = refl
no_others w x at (Some d) = other_raised w x at d Sync1 Sync0 refl

all_same : (w x at : ℕ) (o : Option Due) → edges_of Sync1 (option_map_or (raised w Sync1 x at) o []) ≡ option_map_or (raised w Sync1 x at) o []
all_same w x at None = refl
all_same w x at (Some d) = same_raised w x at d Sync1 refl

-- a tick raises of a signal what is due of it
raised_alone : (w x at : ℕ) (a : Armed) (s : Signal) → edges_of s (tick_edges w x at a) ≡ raised_of w s x at a
raised_alone w x at a Sync0 =
    filter-append (λ e. is_same e.signal Sync0) (raised w Sync0 x at a.sync0) (option_map_or (raised w Sync1 x at) a.sync1 [])
    ∙ ap₂ (λ (es fs : List Edge). es ++ fs) (same_raised w x at a.sync0 Sync0 refl) (no_others w x at a.sync1)
    ∙ append-nil (raised w Sync0 x at a.sync0)
raised_alone w x at a Sync1 =
    filter-append (λ e. is_same e.signal Sync1) (raised w Sync0 x at a.sync0) (option_map_or (raised w Sync1 x at) a.sync1 [])
    ∙ ap₂ (λ (es fs : List Edge). es ++ fs) (other_raised w x at a.sync0 Sync0 Sync1 refl) (all_same w x at a.sync1)

edges_alone : (w : ℕ) (copy time : ℕ → ℕ) (k : ℕ) (a : Armed) (s : Signal)
    → edges_of s (ticks_edges w copy time k a) ≡ option_map_or (signal_edges w copy time a.cycle s k) (due_of s a) []
unfolding signal_due signal_edges
edges_alone w copy time zero a s = at_zero (due_of s a)
  where
    at_zero : (o : Option Due) → [] ≡ option_map_or (signal_edges w copy time a.cycle s 0) o []
    at_zero None = refl
    at_zero (Some d) = refl
edges_alone w copy time (suc k) a s =
    let b = after_ticks w copy k a in
    let tick = tick_edges w (copy (suc k)) (time (suc k)) b in
    filter-append (λ e. is_same e.signal s) (ticks_edges w copy time k a) tick
    ∙ ap₂ (λ (es fs : List Edge). es ++ fs) (edges_alone w copy time k a s)
    (raised_alone w (copy (suc k)) (time (suc k)) b s
    ∙ ap (λ o. option_map_or (raised w s (copy (suc k)) (time (suc k))) o []) (due_alone w copy k a s))
    ∙ one_more (due_of s a)
  where
    one_more : (o : Option Due)
        → option_map_or (signal_edges w copy time a.cycle s k) o []
        ++ option_map_or (raised w s (copy (suc k)) (time (suc k))) (option_map (signal_due w copy a.cycle k) o) []
        ≡ option_map_or (signal_edges w copy time a.cycle s (suc k)) o []
    one_more None = refl
    one_more (Some d) = refl

armed_with : (w start cycle : ℕ) (sync1 : Option ℕ) (s : Signal) → due_of s (armed_by w start cycle sync1) ≡ option_map first_due (start_of w start sync1 s)
armed_with w start cycle sync1 Sync0 = refl
armed_with w start cycle None Sync1 = refl
armed_with w start cycle (Some time) Sync1 = refl

of_armed : (w : ℕ) (copy time : ℕ → ℕ) (n start cycle : ℕ) (sync1 : Option ℕ) (s : Signal)
    → edges_of s (ticks_edges w copy time n (armed_by w start cycle sync1))
    ≡ option_map_or (signal_edges w copy time cycle s n) (option_map first_due (start_of w start sync1 s)) []
of_armed w copy time n start cycle sync1 s =
    edges_alone w copy time n (armed_by w start cycle sync1) s
    ∙ ap (λ o. option_map_or (signal_edges w copy time cycle s n) o []) (armed_with w start cycle sync1 s)

pub exact : (w : ℕ) (copy time : ℕ → ℕ) (n start cycle v : ℕ) (sync1 : Option ℕ) (s : Signal) → start_of w start sync1 s ≡ Some v → v < 2 ^ w
    → AreEdges w copy time cycle v s n (edges_of s (ticks_edges w copy time n (armed_by w start cycle sync1)))
exact w copy time n start cycle v sync1 s is word =
    subst (AreEdges w copy time cycle v s n)
    (sym (of_armed w copy time n start cycle sync1 s ∙ ap (λ o. option_map_or (signal_edges w copy time cycle s n) (option_map first_due o) []) is))
    (signal_exact w copy time cycle v s n word)

pub exact_none : (w : ℕ) (copy time : ℕ → ℕ) (n start cycle : ℕ) (sync1 : Option ℕ) (s : Signal) → start_of w start sync1 s ≡ None
    → edges_of s (ticks_edges w copy time n (armed_by w start cycle sync1)) ≡ []
exact_none w copy time n start cycle sync1 s none =
    of_armed w copy time n start cycle sync1 s ∙ ap (λ o. option_map_or (signal_edges w copy time cycle s n) (option_map first_due o) []) none
