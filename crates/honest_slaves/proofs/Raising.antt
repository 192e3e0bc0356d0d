-- What ticks raise of a unit that is armed with some signals alone.
use Rattle.std.proofs.Common.{◌≡◌, ℕ, zero, suc, ◌^◌, Bool, true, false, List, [], ◌∷◌, ◌++◌, Option, Some, None, refl, sym, subst}
use Rattle.std.specs.Prelude.{nat_lt, ◌&&◌, IfSome, if◌then◌else◌}
use Rattle.std.specs.Option.{option_map, option_map_or}
use Rattle.local_clock.specs.FirstReaching.{is_behind}
use Rattle.sync_units.specs.declared.edge.Edge.{Edge}
use Rattle.sync_units.specs.declared.edge.Signal.{Signal}
use Rattle.sync_units.specs.declared.edge.Signal.TheVariants.{Sync0, Sync1}
use Rattle.sync_units.specs.KeptEdges.{Kept, room, edges_with, with_edge, put, put_all}
use Rattle.sync_units.specs.SyncRule.{Due, Armed, due_after_tick, raised, after_tick, tick_edges, after_ticks, ticks_edges, unit_after, unit_edges}
use Rattle.honest_slaves.specs.OwnSignals.{AreOf, IsArmedOf}

-- a fact that does not depend on the value
pub mapped : {X Y : Type 0} (P : Type 0) (f : X → Y) (o : Option X) → IfSome o (λ x. P) → IfSome (option_map f o) (λ y. P)
mapped P f None h = tt
mapped P f (Some x) h = h

module _ (own : Signal → Bool) where
  of_append : (xs ys : List Edge) → AreOf own xs → AreOf own ys → AreOf own (xs ++ ys)
  of_append [] ys a b = b
  of_append (x ∷ xs) ys a b = (a.0, of_append xs ys a.1 b)

  -- a list that takes such edges
  with_edges : (s : Signal) (es : List Edge) (l : Kept) → (with_edge s es l).edges ≡ es
  with_edges Sync0 es l = refl
  with_edges Sync1 es l = refl

  put_of : (e : Edge) (l : Kept) → own e.signal ≡ true → AreOf own l.edges → AreOf own (put e l).edges
  put_of e l is h = subst (AreOf own) (sym (with_edges e.signal (edges_with e l) l)) (by (nat_lt 0 (room e.signal l) && nat_lt e.index (2 ^ 32)))
    where
      by : (b : Bool) → AreOf own (if b then l.edges ++ e ∷ [] else l.edges)
      by true = of_append l.edges (e ∷ []) h (is, tt)
      by false = h

  pub put_all_of : (es : List Edge) (l : Kept) → AreOf own es → AreOf own l.edges → AreOf own (put_all es l).edges
  put_all_of [] l a h = h
  put_all_of (e ∷ es) l a h = put_all_of es (put e l) a.1 (put_of e l a.0 h)

  -- a tick
  raised_of : (w : ℕ) (s : Signal) (x at : ℕ) (d : Due) → own s ≡ true → AreOf own (raised w s x at d)
  raised_of w s x at d is = by (is_behind w x d.value)
    where
      by : (b : Bool) → AreOf own (if b then [] else record { signal = s; index = d.index; time_fs = at } ∷ [])
      by true = tt
      by false = (is, tt)

  raised_second : (w x at : ℕ) (o : Option Due) → IfSome o (λ d. own Sync1 ≡ true) → AreOf own (option_map_or (raised w Sync1 x at) o [])
  raised_second w x at None is = tt
  raised_second w x at (Some d) is = raised_of w Sync1 x at d is

  tick_of : (w x at : ℕ) (a : Armed) → IsArmedOf own a → AreOf own (tick_edges w x at a)
  tick_of w x at a h = of_append (raised w Sync0 x at a.sync0) _ (raised_of w Sync0 x at a.sync0 h.sync0) (raised_second w x at a.sync1 h.sync1)

  armed_tick : (w x : ℕ) (a : Armed) → IsArmedOf own a → IsArmedOf own (after_tick w x a)
  armed_tick w x a h = record { sync0 = h.sync0; sync1 = mapped (own Sync1 ≡ true) (due_after_tick w a.cycle x) a.sync1 h.sync1 }

  -- ticks
  armed_ticks : (w : ℕ) (copy : ℕ → ℕ) (n : ℕ) (a : Armed) → IsArmedOf own a → IsArmedOf own (after_ticks w copy n a)
  armed_ticks w copy zero a h = h
  armed_ticks w copy (suc n) a h = armed_tick w (copy (suc n)) (after_ticks w copy n a) (armed_ticks w copy n a h)

  ticks_of : (w : ℕ) (copy time : ℕ → ℕ) (n : ℕ) (a : Armed) → IsArmedOf own a → AreOf own (ticks_edges w copy time n a)
  ticks_of w copy time zero a h = tt
  ticks_of w copy time (suc n) a h =
      of_append (ticks_edges w copy time n a) _ (ticks_of w copy time n a h)
      (tick_of w (copy (suc n)) (time (suc n)) (after_ticks w copy n a) (armed_ticks w copy n a h))

  pub unit_stays : (w : ℕ) (copy : ℕ → ℕ) (n : ℕ) (u : Option Armed) → IfSome u (IsArmedOf own) → IfSome (unit_after w copy n u) (IsArmedOf own)
  unit_stays w copy n None h = tt
  unit_stays w copy n (Some a) h = armed_ticks w copy n a h

  pub unit_raises : (w : ℕ) (copy time : ℕ → ℕ) (n : ℕ) (u : Option Armed) → IfSome u (IsArmedOf own) → AreOf own (unit_edges w copy time n u)
  unit_raises w copy time n None h = tt
  unit_raises w copy time n (Some a) h = ticks_of w copy time n a h
