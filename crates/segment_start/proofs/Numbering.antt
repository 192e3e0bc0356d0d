-- Edges that are raised into a list go on with its numbers.
use Rattle.std.proofs.Common.{◌≡◌, ℕ, suc, zero, ◌+◌, ◌-◌, ◌^◌, ◌≤◌, Bool, true, false, List, [], ◌∷◌, ◌++◌, map, Option, Some, None, min, arith, refl, sym, ap, ap₂, ◌∙◌, subst, inl, inr}
use Rattle.std.specs.Prelude.{nat_lt, ◌&&◌, IfSome}
use Rattle.std.specs.List.{range_with_len}
use Rattle.std.specs.Option.{option_map_or}
use Rattle.std.proofs.lemmas.Bool.{cases_lt}
use Rattle.std.proofs.lemmas.Bool.Decides.{nat_tests}
use Rattle.std.proofs.lemmas.List.{append-nil, map-append}
use Rattle.std.proofs.lemmas.List.Elements.{filter-append}
use Rattle.local_clock.specs.FirstReaching.{is_behind}
use Rattle.sync_units.specs.declared.edge.Edge.{Edge}
use Rattle.sync_units.specs.declared.edge.Signal.{Signal}
use Rattle.sync_units.specs.declared.edge.Signal.TheVariants.{Sync0, Sync1}
use Rattle.sync_units.specs.Edges.{edges_of, is_same}
use Rattle.sync_units.specs.SyncRule.{Due, Armed, moved_on, due_after_tick, raised, after_tick, tick_edges, after_ticks, ticks_edges}
use Rattle.sync_units.specs.KeptEdges.{Kept, room, edges_with, with_edge, put, put_all}
use Rattle.sync_units.proofs.Exported.{put_all-append}
use Rattle.segment_start.specs.Numbered.{IsNumberedSignal, AreNumbered, IsDueBy, IsArmedBy}

-- one number more
range_more : (a n : ℕ) → range_with_len a (suc n) ≡ range_with_len a n ++ (a + n) ∷ []
range_more a zero = ap (λ (x : ℕ). x ∷ []) (omega arith)
range_more a (suc n) =
    let last : a + 1 + n ≡ a + suc n = omega arith in
    ap (λ (xs : List ℕ). a ∷ xs) (range_more (a + 1) n ∙ ap (λ (x : ℕ). range_with_len (a + 1) n ++ x ∷ []) last)

-- one edge of a signal into a list, whose index tells the room
pub record Goes (s : Signal) (l m : Kept) : Type 0 where
  pub keep : m.keep ≡ l.keep
  pub same : IsNumberedSignal s l → IsNumberedSignal s m

own : (s : Signal) → is_same s s ≡ true
own Sync0 = refl
own Sync1 = refl

with_keep : (s : Signal) (es : List Edge) (l : Kept) → (with_edge s es l).keep ≡ l.keep
with_keep Sync0 es l = refl
with_keep Sync1 es l = refl

with_room : (s : Signal) (es : List Edge) (l : Kept) → room s (with_edge s es l) ≡ room s l - 1
with_room Sync0 es l = refl
with_room Sync1 es l = refl

with_edges : (s : Signal) (es : List Edge) (l : Kept) → (with_edge s es l).edges ≡ es
with_edges Sync0 es l = refl
with_edges Sync1 es l = refl

one_edge : (s : Signal) (index time : ℕ) → edges_of s (record { signal = s; index = index; time_fs = time } ∷ []) ≡ record { signal = s; index = index; time_fs = time } ∷ []
one_edge Sync0 index time = refl
one_edge Sync1 index time = refl

zero_more : (n : ℕ) → n ≡ 0 + n
zero_more n = omega arith

-- the edge of its own signal
pub own_edge : (s : Signal) (index time : ℕ) (l : Kept) → l.keep ≤ 2 ^ 32 → index ≤ 2 ^ 32 → room s l ≡ l.keep - index → IsNumberedSignal s l
    → IsNumberedSignal s (put (record { signal = s; index = index; time_fs = time }) l)
own_edge s index time l few small is h = elim (cases_lt index l.keep) [
  | inl lt ↦
      let e : Edge = record { signal = s; index = index; time_fs = time } in
      let some : nat_lt 0 (room s l) ≡ true = grind (arith, nat_tests, is, lt) in
      let fits : nat_lt index (2 ^ 32) ≡ true = grind (arith, nat_tests, lt, few) in
      let kept : edges_with e l ≡ l.edges ++ e ∷ [] = rw (some, fits) refl in
      let edges : (put e l).edges ≡ l.edges ++ e ∷ [] = with_edges s (edges_with e l) l ∙ kept in
      let left : room s (put e l) ≡ room s l - 1 = with_room s (edges_with e l) l in
      let size : (put e l).keep ≡ l.keep = with_keep s (edges_with e l) l in
      let count : l.keep - room s l ≡ index = omega (arith, is, lt) in
      let next : (put e l).keep - room s (put e l) ≡ suc index = omega (arith, left, size, is, lt) in
      record {
        indices_are =
            ap (λ es. map (λ (x : Edge). x.index) (edges_of s es)) edges
            ∙ ap (map (λ (x : Edge). x.index)) (filter-append (λ (x : Edge). is_same x.signal s) l.edges (e ∷ []))
            ∙ map-append (λ (x : Edge). x.index) (edges_of s l.edges) (edges_of s (e ∷ []))
            ∙ ap₂ (λ (xs ys : List ℕ). xs ++ ys) (h.indices_are ∙ ap (range_with_len 0) count) (ap (map (λ (x : Edge). x.index)) (one_edge s index time) ∙ ap (λ (x : ℕ). x ∷ []) (zero_more index))
            ∙ sym (range_more 0 index) ∙ ap (range_with_len 0) (sym next);
        room_is = let r = h.room_is in omega (arith, left, size, r);
      }
  | inr ge ↦
      let e : Edge = record { signal = s; index = index; time_fs = time } in
      let full : nat_lt 0 (room s l) ≡ false = grind (arith, nat_tests, is, ge) in
      let kept : edges_with e l ≡ l.edges = rw full refl in
      let edges : (put e l).edges ≡ l.edges = with_edges s (edges_with e l) l ∙ kept in
      let left : room s (put e l) ≡ room s l - 1 = with_room s (edges_with e l) l in
      let size : (put e l).keep ≡ l.keep = with_keep s (edges_with e l) l in
      let same : l.keep - room s l ≡ (put e l).keep - room s (put e l) = omega (arith, left, size, is, ge) in
      record {
        indices_are = ap (λ es. map (λ (x : Edge). x.index) (edges_of s es)) edges ∙ h.indices_are ∙ ap (range_with_len 0) same;
        room_is = let r = h.room_is in omega (arith, left, size, r);
      }
]

-- an edge of the other signal leaves it
other_put : (s : Signal) (e : Edge) (l : Kept) → is_same e.signal s ≡ false → edges_of s (put e l).edges ≡ edges_of s l.edges
other_put s e l other = with_kept (edges_with e l) refl
  where
    none : edges_of s (e ∷ []) ≡ []
    none = rw other refl

    with_kept : (es : List Edge) → edges_with e l ≡ es → edges_of s (put e l).edges ≡ edges_of s l.edges
    with_kept es is = ap (edges_of s) (with_edges e.signal (edges_with e l) l) ∙ by (nat_lt 0 (room e.signal l) && nat_lt e.index (2 ^ 32)) refl
      where
        by : (b : Bool) → (nat_lt 0 (room e.signal l) && nat_lt e.index (2 ^ 32)) ≡ b → edges_of s (edges_with e l) ≡ edges_of s l.edges
        by true t = rw t (filter-append (λ (x : Edge). is_same x.signal s) l.edges (e ∷ []) ∙ ap (λ (xs : List Edge). edges_of s l.edges ++ xs) none ∙ append-nil (edges_of s l.edges))
        by false t = rw t refl

other_room : (s t : Signal) (es : List Edge) (l : Kept) → is_same t s ≡ false → room s (with_edge t es l) ≡ room s l
other_room Sync0 Sync0 es l other = absurd (let x = other in cc)
other_room Sync0 Sync1 es l other = refl
other_room Sync1 Sync0 es l other = refl
other_room Sync1 Sync1 es l other = absurd (let x = other in cc)

other_edge : (s : Signal) (e : Edge) (l : Kept) → is_same e.signal s ≡ false → IsNumberedSignal s l → IsNumberedSignal s (put e l)
other_edge s e l other h =
    let left = other_room s e.signal (edges_with e l) l other in
    let size = with_keep e.signal (edges_with e l) l in
    let same : l.keep - room s l ≡ (put e l).keep - room s (put e l) = omega (arith, left, size) in
    record {
      indices_are = ap (map (λ (x : Edge). x.index)) (other_put s e l other) ∙ h.indices_are ∙ ap (range_with_len 0) same;
      room_is = let r = h.room_is in omega (arith, left, size, r);
    }

-- a signal at one tick, with what it leaves of both
pub record TakesSignal (w cycle x : ℕ) (s t : Signal) (d : Due) (l m : Kept) : Type 0 where
  pub keep : m.keep ≡ l.keep
  pub own : IsNumberedSignal s m
  pub due : IsDueBy s m (due_after_tick w cycle x d)
  pub other : IsNumberedSignal t l → IsNumberedSignal t m
  pub other_room : room t m ≡ room t l

next_due : (s : Signal) (l m : Kept) (i j : ℕ) {v : ℕ} → room s m ≡ room s l - 1 → m.keep ≡ l.keep → room s l ≡ l.keep - i → l.keep ≤ 2 ^ 32 → i ≤ 2 ^ 32 → j ≡ min (i + 1) (2 ^ 32)
    → IsDueBy s m (record { value = v; index = j })
next_due s l m i j left size is few small next = record { room_is = omega (arith, left, size, is, few, small, next); small = omega (arith, next) }

takes_signal : (w cycle x at : ℕ) (s t : Signal) (d : Due) (l : Kept) → is_same s t ≡ false → l.keep ≤ 2 ^ 32 → IsDueBy s l d → IsNumberedSignal s l
    → TakesSignal w cycle x s t d l (put_all (raised w s x at d) l)
takes_signal w cycle x at s t d l apart few due h = by (is_behind w x d.value) refl
  where
    by : (b : Bool) → is_behind w x d.value ≡ b → TakesSignal w cycle x s t d l (put_all (raised w s x at d) l)
    by true behind =
        let put_is : put_all (raised w s x at d) l ≡ l = rw behind refl in
        let next : due_after_tick w cycle x d ≡ d = rw behind refl in
        subst (λ (m : Kept). TakesSignal w cycle x s t d l m) (sym put_is)
        (record { keep = refl; own = h; due = subst (IsDueBy s l) (sym next) due; other = λ o. o; other_room = refl })
    by false reached =
        let e : Edge = record { signal = s; index = d.index; time_fs = at } in
        let left = with_room s (edges_with e l) l in
        let size = with_keep s (edges_with e l) l in
        let is = due.room_is in
        let small = due.small in
        let put_is : put_all (raised w s x at d) l ≡ put e l = rw reached refl in
        let next : due_after_tick w cycle x d ≡ moved_on w cycle d = rw reached refl in
        subst (λ (m : Kept). TakesSignal w cycle x s t d l m) (sym put_is) (record {
          keep = size;
          own = own_edge s d.index at l few small is h;
          due = subst (λ (n : Due). IsDueBy s (put e l) n) (sym next) (next_due s l (put e l) d.index (min (d.index + 1) (2 ^ 32)) left size is few small refl);
          other = λ o. other_edge t e l apart o;
          other_room = other_room t s (edges_with e l) l apart;
        })

-- a tick
pub record IsGoing (l : Kept) (a : Armed) : Type 0 where
  pub edges : AreNumbered l
  pub armed : IsArmedBy l a

moved_room : (s : Signal) (l m : Kept) (d : Due) → m.keep ≡ l.keep → room s m ≡ room s l → IsDueBy s l d → IsDueBy s m d
moved_room s l m d keep same h = record { room_is = let r = h.room_is in omega (arith, keep, same, r); small = h.small }

pub going_tick : (w x at : ℕ) (a : Armed) (l : Kept) → IsGoing l a → IsGoing (put_all (tick_edges w x at a) l) (after_tick w x a)
going_tick w x at a l h =
    let m = put_all (raised w Sync0 x at a.sync0) l in
    let first = takes_signal w a.cycle x at Sync0 Sync1 a.sync0 l refl h.edges.few h.armed.sync0 h.edges.sync0 in
    subst (λ (k : Kept). IsGoing k (after_tick w x a)) (sym (put_all-append (raised w Sync0 x at a.sync0) (option_map_or (raised w Sync1 x at) a.sync1 []) l))
    (second m first a.sync1 refl h.armed.sync1)
  where
    second : (m : Kept) → TakesSignal w a.cycle x Sync0 Sync1 a.sync0 l m → (o : Option Due) → a.sync1 ≡ o → IfSome o (IsDueBy Sync1 l)
        → IsGoing (put_all (option_map_or (raised w Sync1 x at) a.sync1 []) m) (after_tick w x a)
    second m first None none due = rw none (record {
      edges = record { sync0 = first.own; sync1 = first.other h.edges.sync1; few = let k = first.keep in let f = h.edges.few in omega (arith, k, f) };
      armed = record { sync0 = first.due; sync1 = tt };
    })
    second m first (Some d) some due =
        let few : m.keep ≤ 2 ^ 32 = let k = first.keep in let f = h.edges.few in omega (arith, k, f) in
        let next = takes_signal w a.cycle x at Sync1 Sync0 d m refl few (moved_room Sync1 l m d first.keep first.other_room due) (first.other h.edges.sync1) in
        rw some (record {
          edges = record { sync0 = next.other first.own; sync1 = next.own; few = let k = next.keep in omega (arith, k, few) };
          armed = record {
            sync0 = moved_room Sync0 m (put_all (raised w Sync1 x at d) m) (due_after_tick w a.cycle x a.sync0) next.keep next.other_room first.due;
            sync1 = next.due;
          };
        })

pub going_ticks : (w : ℕ) (copy time : ℕ → ℕ) (n : ℕ) (a : Armed) (l : Kept) → IsGoing l a → IsGoing (put_all (ticks_edges w copy time n a) l) (after_ticks w copy n a)
going_ticks w copy time zero a l h = h
going_ticks w copy time (suc n) a l h =
    let before = going_ticks w copy time n a l h in
    let b = after_ticks w copy n a in
    let es = ticks_edges w copy time n a in
    rw (put_all-append es (tick_edges w (copy (suc n)) (time (suc n)) b) l) (going_tick w (copy (suc n)) (time (suc n)) b (put_all es l) before)
