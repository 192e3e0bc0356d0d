-- What a list keeps of the edges that are raised into it.
use Rattle.std.proofs.Common.{◌≡◌, ℕ, suc, zero, ◌+◌, ◌-◌, ◌%◌, ◌^◌, ◌≤◌, Bool, true, false, List, [], ◌∷◌, ◌++◌, Option, Some, None, arith, refl, sym, ap, ◌∙◌, subst, inl, inr, append_assoc}
use Rattle.std.specs.Prelude.{nat_lt}
use Rattle.std.specs.Option.{option_map, option_map_or}
use Rattle.std.proofs.lemmas.Bool.{cases_lt}
use Rattle.std.proofs.lemmas.Bool.Decides.{nat_tests}
use Rattle.std.proofs.lemmas.List.{append-nil}
use Rattle.std.proofs.lemmas.Option.{same_Some}
use Rattle.std.proofs.lemmas.List.Elements.{filter-append}
use Rattle.local_clock.specs.FirstReaching.{is_behind}
use Rattle.sync_units.specs.declared.edge.Edge.{Edge}
use Rattle.sync_units.specs.declared.edge.Signal.{Signal}
use Rattle.sync_units.specs.declared.edge.Signal.TheVariants.{Sync0, Sync1}
use Rattle.sync_units.specs.SyncRule.{Due, Armed, due_of, first_due, armed_by, due_after_tick, raised, after_tick, tick_edges, after_tick_of, raised_of, after_ticks, ticks_edges}
use Rattle.sync_units.specs.KeptEdges.{Kept, empty_list, room, edges_with, with_edge, put, put_all}
use Rattle.sync_units.specs.Edges.{is_same, first_edges}

pub put_all-append : (es fs : List Edge) (l : Kept) → put_all (es ++ fs) l ≡ put_all fs (put_all es l)
put_all-append [] fs l = refl
put_all-append (e ∷ es) fs l = put_all-append es fs (put e l)

-- the room that a list has for a signal is what the signal's next index leaves of `keep`
record IsRoom (keep : ℕ) (l : Kept) (s : Signal) (d : Due) : Type 0 where
  pub room : room s l ≡ keep - d.index
  pub small : d.index ≤ 2 ^ 32

-- so it is for each signal of a unit, and the list has kept the first of these edges
record Follows (keep : ℕ) (l : Kept) (a : Armed) (es : List Edge) : Type 0 where
  pub rooms : (s : Signal) (d : Due) → due_of s a ≡ Some d → IsRoom keep l s d
  pub edges : l.edges ≡ first_edges keep es

-- one signal at one tick
record Takes (keep w cycle x at : ℕ) (s : Signal) (d : Due) (l m : Kept) : Type 0 where
  pub edges : m.edges ≡ l.edges ++ first_edges keep (raised w s x at d)
  pub left : IsRoom keep m s (due_after_tick w cycle x d)
  pub other : (r : Signal) → is_same s r ≡ false → room r m ≡ room r l

edges_taken : (keep : ℕ) (e : Edge) (l : Kept) → keep ≤ 2 ^ 32 → room e.signal l ≡ keep - e.index
    → edges_with e l ≡ l.edges ++ first_edges keep (e ∷ [])
edges_taken keep e l few is = elim (cases_lt e.index keep) [
  | inl lt ↦
      let a : nat_lt 0 (room e.signal l) ≡ true = grind (arith, nat_tests) in
      let b : nat_lt e.index (2 ^ 32) ≡ true = grind (arith, nat_tests) in
      let c : nat_lt e.index keep ≡ true = grind (arith, nat_tests) in
      rw (a, b, c) refl
  | inr ge ↦
      let a : nat_lt 0 (room e.signal l) ≡ false = grind (arith, nat_tests) in
      let c : nat_lt e.index keep ≡ false = grind (arith, nat_tests) in
      rw (a, c) (sym (append-nil l.edges))
]

with_edges : (s : Signal) (es : List Edge) (l : Kept) → (with_edge s es l).edges ≡ es
with_edges Sync0 es l = refl
with_edges Sync1 es l = refl

with_room : (s : Signal) (es : List Edge) (l : Kept) → room s (with_edge s es l) ≡ room s l - 1
with_room Sync0 es l = refl
with_room Sync1 es l = refl

with_other : (s r : Signal) (es : List Edge) (l : Kept) → is_same s r ≡ false → room r (with_edge s es l) ≡ room r l
with_other Sync0 Sync1 es l other = refl
with_other Sync1 Sync0 es l other = refl
with_other Sync0 Sync0 es l other = absurd (cc other)
with_other Sync1 Sync1 es l other = absurd (cc other)

takes : (keep w cycle x at : ℕ) (s : Signal) (d : Due) (l : Kept) → keep ≤ 2 ^ 32 → IsRoom keep l s d
    → Takes keep w cycle x at s d l (put_all (raised w s x at d) l)
takes keep w cycle x at s d l few is = by (is_behind w x d.value) refl
  where
    by : (b : Bool) → is_behind w x d.value ≡ b → Takes keep w cycle x at s d l (put_all (raised w s x at d) l)
    by true behind = record {
      edges = rw behind (sym (append-nil l.edges));
      left = record { room = rw behind is.room; small = rw behind is.small };
      other = λ r other. rw behind refl;
    }
    by false reached =
        let e : Edge = record { signal = s; index = d.index; time_fs = at } in
        record {
          edges = rw reached (with_edges s (edges_with e l) l ∙ edges_taken keep e l few is.room);
          left = record {
            room = rw reached (let r = is.room in with_room s (edges_with e l) l ∙ omega (arith, r));
            small = rw reached (omega arith);
          };
          other = λ r other. rw reached (with_other s r (edges_with e l) l other);
        }

-- a tick that is taken for signal s moves what is due of s, and leaves what is due of the other
rooms_moved : (keep w x : ℕ) (s : Signal) (a : Armed) (l : Kept)
    → ((d : Due) → due_of s a ≡ Some d → IsRoom keep l s (due_after_tick w a.cycle x d))
    → ((r : Signal) (d : Due) → is_same s r ≡ false → due_of r a ≡ Some d → IsRoom keep l r d)
    → (r : Signal) (d : Due) → due_of r (after_tick_of w x s a) ≡ Some d → IsRoom keep l r d
rooms_moved keep w x Sync0 a l own other Sync0 d is =
    subst (IsRoom keep l Sync0) (same_Some (due_after_tick w a.cycle x a.sync0) d is) (own a.sync0 refl)
rooms_moved keep w x Sync0 a l own other Sync1 d is = other Sync1 d refl is
rooms_moved keep w x Sync1 a l own other Sync0 d is = other Sync0 d refl is
rooms_moved keep w x Sync1 a l own other Sync1 d is = by a.sync1 refl is
  where
    by : (o : Option Due) → a.sync1 ≡ o → option_map (due_after_tick w a.cycle x) o ≡ Some d → IsRoom keep l Sync1 d
    by None none moved = absurd (cc moved)
    by (Some e) some moved = subst (IsRoom keep l Sync1) (same_Some (due_after_tick w a.cycle x e) d moved) (own e some)

follows_one : (keep w x at : ℕ) (s : Signal) (a : Armed) (l : Kept) (es : List Edge) → keep ≤ 2 ^ 32 → Follows keep l a es
    → Follows keep (put_all (raised_of w s x at a) l) (after_tick_of w x s a) (es ++ raised_of w s x at a)
follows_one keep w x at s a l es few h = by (due_of s a) refl
  where
    by : (o : Option Due) → due_of s a ≡ o
        → Follows keep (put_all (option_map_or (raised w s x at) o []) l) (after_tick_of w x s a) (es ++ option_map_or (raised w s x at) o [])
    by None none = record {
      rooms = rooms_moved keep w x s a l (λ d is. absurd (cc (none, is))) (λ r d other is. h.rooms r d is);
      edges = h.edges ∙ ap (first_edges keep) (sym (append-nil es));
    }
    by (Some d) some =
        let m = put_all (raised w s x at d) l in
        let taken = takes keep w a.cycle x at s d l few (h.rooms s d some) in
        record {
          rooms = rooms_moved keep w x s a m
              (λ e is. let same : d ≡ e = cc (some, is) in subst (λ u. IsRoom keep m s (due_after_tick w a.cycle x u)) same taken.left)
              (λ r e other is. record { room = taken.other r other ∙ (h.rooms r e is).room; small = (h.rooms r e is).small });
          edges = taken.edges ∙ ap (λ fs. fs ++ first_edges keep (raised w s x at d)) h.edges
              ∙ sym (filter-append (λ e. nat_lt e.index keep) es (raised w s x at d));
        }

-- a tick is taken for SYNC0 and then for SYNC1
follows_tick : (keep w x at : ℕ) (a : Armed) (l : Kept) (es : List Edge) → keep ≤ 2 ^ 32 → Follows keep l a es
    → Follows keep (put_all (tick_edges w x at a) l) (after_tick w x a) (es ++ tick_edges w x at a)
follows_tick keep w x at a l es few h =
    let b = after_tick_of w x Sync0 a in
    let fs = raised_of w Sync0 x at a in
    let gs = raised_of w Sync1 x at b in
    let both = follows_one keep w x at Sync1 b (put_all fs l) (es ++ fs) few (follows_one keep w x at Sync0 a l es few h) in
    subst (λ k. Follows keep k (after_tick w x a) (es ++ (fs ++ gs))) (sym (put_all-append fs gs l))
    (subst (Follows keep (put_all gs (put_all fs l)) (after_tick w x a)) (append_assoc es fs gs) both)

follows : (keep w : ℕ) (copy time : ℕ → ℕ) (n : ℕ) (a : Armed) (l : Kept) → keep ≤ 2 ^ 32 → Follows keep l a []
    → Follows keep (put_all (ticks_edges w copy time n a) l) (after_ticks w copy n a) (ticks_edges w copy time n a)
follows keep w copy time zero a l few h = h
follows keep w copy time (suc n) a l few h =
    let b = after_ticks w copy n a in
    let es = ticks_edges w copy time n a in
    rw (put_all-append es (tick_edges w (copy (suc n)) (time (suc n)) b) l)
    (follows_tick keep w (copy (suc n)) (time (suc n)) b (put_all es l) es few (follows keep w copy time n a l few h))

-- an empty list keeps the first edges of a unit that begins with index 0
pub kept : (w : ℕ) (copy time : ℕ → ℕ) (n v cycle : ℕ) (sync1 : Option ℕ) (keep : ℕ) → keep ≤ 2 ^ 32
    → (put_all (ticks_edges w copy time n (armed_by w v cycle sync1)) (empty_list keep)).edges
    ≡ first_edges keep (ticks_edges w copy time n (armed_by w v cycle sync1))
kept w copy time n v cycle sync1 keep few =
    (follows keep w copy time n (armed_by w v cycle sync1) (empty_list keep) few (record { rooms = begins sync1; edges = refl })).edges
  where
    at_zero : (s : Signal) (u : ℕ) (d : Due) → first_due u ≡ d → IsRoom keep (empty_list keep) s d
    at_zero Sync0 u d is = let e : 0 ≡ d.index = ap (λ d. d.index) is in record { room = omega (arith, e); small = omega (arith, e) }
    at_zero Sync1 u d is = let e : 0 ≡ d.index = ap (λ d. d.index) is in record { room = omega (arith, e); small = omega (arith, e) }

    begins : (sync1 : Option ℕ) (s : Signal) (d : Due) → due_of s (armed_by w v cycle sync1) ≡ Some d → IsRoom keep (empty_list keep) s d
    begins sync1 Sync0 d is = at_zero Sync0 v d (same_Some (first_due v) d is)
    begins None Sync1 d is = absurd (cc is)
    begins (Some time) Sync1 d is = at_zero Sync1 ((v + time) % 2 ^ w) d (same_Some (first_due ((v + time) % 2 ^ w)) d is)
