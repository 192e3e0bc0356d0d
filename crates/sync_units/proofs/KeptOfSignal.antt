-- The edges of one signal that a list keeps are the first of those that were raised.
use Rattle.std.proofs.Common.{◌≡◌, ℕ, suc, zero, ◌+◌, ◌-◌, ◌%◌, ◌^◌, ◌<◌, ◌≤◌, min, Bool, true, false, List, [], ◌∷◌, take, Option, Some, None, arith, refl, sym, ap, ◌∙◌, subst, inl, inr}
use Rattle.std.specs.Prelude.{nat_lt, slice_get}
use Rattle.std.specs.List.{filter}
use Rattle.std.proofs.lemmas.Bool.{cases_lt}
use Rattle.std.proofs.lemmas.Bool.Decides.{nat_tests}
use Rattle.std.proofs.lemmas.Option.{same_Some, slice_get_within}
use Rattle.sync_units.specs.declared.edge.Edge.{Edge}
use Rattle.sync_units.specs.declared.edge.Signal.{Signal}
use Rattle.sync_units.specs.declared.edge.Signal.TheVariants.{Sync0, Sync1}
use Rattle.sync_units.specs.SyncRule.{armed_by, ticks_edges}
use Rattle.sync_units.specs.KeptEdges.{empty_list, put_all}
use Rattle.sync_units.specs.Edges.{AreEdges, start_of, edge_of, is_same, edges_of, first_edges}
use Rattle.sync_units.proofs.Exact.{exact, exact_none}
use Rattle.sync_units.proofs.Kept.{kept}

none_taken : (n : ℕ) → [] ≡ take {A = Edge} n []
none_taken zero = refl
none_taken (suc n) = refl

filters_swap : (p q : Edge → Bool) (es : List Edge) → filter p (filter q es) ≡ filter q (filter p es)
filters_swap p q [] = refl
filters_swap p q (e ∷ es) = by (p e) (q e) refl refl (filters_swap p q es)
  where
    by : (a b : Bool) → p e ≡ a → q e ≡ b → filter p (filter q es) ≡ filter q (filter p es)
        → filter p (filter q (e ∷ es)) ≡ filter q (filter p (e ∷ es))
    by true true pe qe h = rw (qe, pe) (rw qe (ap (λ fs. e ∷ fs) h))
    by true false pe qe h = rw (qe, pe) (rw qe h)
    by false true pe qe h = rw (qe, pe) h
    by false false pe qe h = rw (qe, pe) h

-- edges with the indices from b on
first_are_taken : (keep b : ℕ) (es : List Edge) → keep ≤ 2 ^ 32
    → ((k : ℕ) (e : Edge) → slice_get es k ≡ Some e → e.index ≡ min (b + k) (2 ^ 32)) → first_edges keep es ≡ take (keep - b) es
first_are_taken keep b [] few is = none_taken (keep - b)
first_are_taken keep b (e ∷ es) few is =
    let here : e.index ≡ min (b + 0) (2 ^ 32) = is 0 e refl in
    let rest : first_edges keep es ≡ take (keep - (b + 1)) es =
    first_are_taken keep (b + 1) es few (λ k f at. (let i = is (suc k) f at in omega (arith, i))) in
    elim (cases_lt b keep) [
      | inl lt ↦
          let yes : nat_lt e.index keep ≡ true = grind (arith, nat_tests) in
          let n : keep - b ≡ suc (keep - (b + 1)) = omega arith in
          rw (yes, n) (ap (λ fs. e ∷ fs) rest)
      | inr ge ↦
          let no : nat_lt e.index keep ≡ false = grind (arith, nat_tests) in
          let n : keep - b ≡ 0 = omega arith in
          let m : keep - (b + 1) ≡ 0 = omega arith in
          let none : first_edges keep es ≡ take 0 es = rw m at rest in
          rw (no, n) none
    ]

indices : (w : ℕ) (copy time : ℕ → ℕ) (cycle v : ℕ) (s : Signal) (n : ℕ) (es : List Edge) → AreEdges w copy time cycle v s n es
    → (k : ℕ) (e : Edge) → slice_get es k ≡ Some e → e.index ≡ min (0 + k) (2 ^ 32)
indices w copy time cycle v s n es h k e at =
    let found = h.only k (slice_get_within es k e at) in
    let is = h.all k found.0 found.1 found.2 in
    let same : edge_of s k (time found.0) ≡ e = same_Some (edge_of s k (time found.0)) e (sym is ∙ at) in
    let index = ap (λ f. f.index) same in
    omega (arith, index)

taken : (keep w : ℕ) (copy time : ℕ → ℕ) (cycle v : ℕ) (s : Signal) (n : ℕ) (es : List Edge) → keep ≤ 2 ^ 32
    → AreEdges w copy time cycle v s n es → first_edges keep es ≡ take keep es
taken keep w copy time cycle v s n es few h =
    let e : keep - 0 ≡ keep = omega arith in
    first_are_taken keep 0 es few (indices w copy time cycle v s n es h) ∙ ap (λ m. take m es) e

start_word : (w start v : ℕ) (sync1 : Option ℕ) (s : Signal) → start < 2 ^ w → start_of w start sync1 s ≡ Some v → v < 2 ^ w
start_word w start v sync1 Sync0 word is = subst (λ u. u < 2 ^ w) (same_Some start v is) word
start_word w start v None Sync1 word is = absurd (cc is)
start_word w start v (Some time) Sync1 word is = subst (λ u. u < 2 ^ w) (same_Some ((start + time) % 2 ^ w) v is) (omega arith)

pub kept_of_signal : (w : ℕ) (copy time : ℕ → ℕ) (n start cycle : ℕ) (sync1 : Option ℕ) (keep : ℕ) (s : Signal) → start < 2 ^ w → keep ≤ 2 ^ 32
    → edges_of s (put_all (ticks_edges w copy time n (armed_by w start cycle sync1)) (empty_list keep)).edges
    ≡ take keep (edges_of s (ticks_edges w copy time n (armed_by w start cycle sync1)))
kept_of_signal w copy time n start cycle sync1 keep s word few =
    let es = ticks_edges w copy time n (armed_by w start cycle sync1) in
    ap (edges_of s) (kept w copy time n start cycle sync1 keep few)
    ∙ filters_swap (λ e. is_same e.signal s) (λ e. nat_lt e.index keep) es
    ∙ by (start_of w start sync1 s) refl
  where
    by : (o : Option ℕ) → start_of w start sync1 s ≡ o
        → first_edges keep (edges_of s (ticks_edges w copy time n (armed_by w start cycle sync1)))
        ≡ take keep (edges_of s (ticks_edges w copy time n (armed_by w start cycle sync1)))
    by (Some v) some = taken keep w copy time cycle v s n _ few (exact w copy time n start cycle v sync1 s some (start_word w start v sync1 s word some))
    by None none = let empty = exact_none w copy time n start cycle sync1 s none in rw empty (none_taken keep)
