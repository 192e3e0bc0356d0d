-- What the judgement after the last Identify says of the slaves.
use Rattle.std.proofs.Common.{◌≡◌, ◌≢◌, ◌↔◌, ℕ, Bool, true, false, cond, List, [], ◌∷◌, length, map, filter, Option, Some, None, Result, Ok, Err, refl, sym, ap, subst, ◌∙◌}
use Rattle.std.specs.List.{find}
use Rattle.dc_bounds.specs.Weight.{flag}
use Rattle.dc_delay.specs.Refusals.{first_timed, first_unmeasurable}
use Rattle.dc_delay.specs.ShapeRows.{positions}
use Rattle.dc_topology.specs.Listed.{Place}
use Rattle.dc_topology.specs.declared.error.TopologyError.{TopologyError}
use Rattle.master_script.specs.Slaves.{SlaveWords, clocks, is_clock, is_measuring, judged_clocks, judged_tree, judgement, tree_told}
use Rattle.master_script.specs.declared.step.Refusal.TheVariants.{NoReference, Topology, Unmeasurable}
use Rattle.master_script.proofs.Within.{tree_length, HasLength}

-- the first one found is the first of those that pass
found_first : (p : ℕ → Bool) (xs : List ℕ) (x : ℕ) → find p xs ≡ Some x → (rest : List ℕ) × (filter p xs ≡ x ∷ rest)
found_first p [] x e = absurd cc
found_first p (y ∷ ys) x e = by_test (p y) e (found_first p ys x)
  where
    by_test : (b : Bool) → cond b (Some y) (find p ys) ≡ Some x → (find p ys ≡ Some x → (rest : List ℕ) × (filter p ys ≡ x ∷ rest)) → (rest : List ℕ) × (cond b (y ∷ filter p ys) (filter p ys) ≡ x ∷ rest)
    by_test true e go = let s : y ≡ x = cc in (filter p ys, ap (λ (z : ℕ). z ∷ filter p ys) s)
    by_test false e go = go e

found_none : (p : ℕ → Bool) (xs : List ℕ) → find p xs ≡ None → filter p xs ≡ []
found_none p [] e = refl
found_none p (y ∷ ys) e = by_test (p y) e (found_none p ys)
  where
    by_test : (b : Bool) → cond b (Some y) (find p ys) ≡ None → (find p ys ≡ None → filter p ys ≡ []) → cond b (y ∷ filter p ys) (filter p ys) ≡ []
    by_test true e go = absurd cc
    by_test false e go = go e

first_found : (p : ℕ → Bool) (xs : List ℕ) (x : ℕ) (rest : List ℕ) → filter p xs ≡ x ∷ rest → find p xs ≡ Some x
first_found p [] x rest e = absurd cc
first_found p (y ∷ ys) x rest e = by_test (p y) e (first_found p ys x rest)
  where
    by_test : (b : Bool) → cond b (y ∷ filter p ys) (filter p ys) ≡ x ∷ rest → (filter p ys ≡ x ∷ rest → find p ys ≡ Some x) → cond b (Some y) (find p ys) ≡ Some x
    by_test true e go = let s : y ≡ x = cc in ap (λ (z : ℕ). Some z) s
    by_test false e go = go e

none_found : (p : ℕ → Bool) (xs : List ℕ) (o : Option ℕ) → find p xs ≡ o → filter p xs ≡ [] → o ≡ None
none_found p xs None e f = refl
none_found p xs (Some x) e f = let g = found_first p xs x e in absurd (let z : [] ≡ x ∷ g.0 = sym f ∙ g.1 in cc)

-- the first clock of the tree is that of the slaves
first_clock : (ss : List SlaveWords) (hung : List Place) → length hung ≡ length ss → first_timed hung (flag (map is_clock ss)) ≡ find (flag (map is_clock ss)) (positions (length ss))
first_clock ss hung l = ap (λ (n : ℕ). find (flag (map is_clock ss)) (positions n)) l

tree_all : (ss : List SlaveWords) (r : Result (List Place) TopologyError) (hung : List Place) → r ≡ Ok hung → HasLength (length ss) r → length hung ≡ length ss
tree_all ss (Ok found) hung e h = let s : found ≡ hung = cc in subst (λ (x : List Place). length x ≡ length ss) s h
tree_all ss (Err f) hung e h = absurd cc

all_of : (ss : List SlaveWords) (hung : List Place) → tree_told ss ≡ Ok hung → length hung ≡ length ss
all_of ss hung e = tree_all ss (tree_told ss) hung e (tree_length ss)

-- Topology
topology_by : (ss : List SlaveWords) (r : Result (List Place) TopologyError) (e : TopologyError) → (judged_tree ss r ≡ Err (Topology e)) ↔ (r ≡ Err e)
topology_by ss (Ok hung) e = (λ h. absurd (never (first_timed hung (flag (map is_clock ss))) (first_unmeasurable hung (flag (map is_measuring ss))) h), λ h. absurd cc)
  where
    never : (a b : Option ℕ) → judged_clocks a b ≡ Err (Topology e) → ⊥
    never None b h = cc
    never (Some x) None h = cc
    never (Some x) (Some y) h = cc
topology_by ss (Err f) e = (λ h. cc, λ h. cc)

pub topology_judged : (ss : List SlaveWords) (e : TopologyError) → (judgement ss ≡ Err (Topology e)) ↔ (tree_told ss ≡ Err e)
unfolding judgement
topology_judged ss e = topology_by ss (tree_told ss) e

-- no clock
no_clock_by : (a b : Option ℕ) → (judged_clocks a b ≡ Err NoReference) ↔ (a ≡ None)
no_clock_by None b = (λ h. refl, λ h. refl)
no_clock_by (Some x) None = (λ h. absurd cc, λ h. absurd cc)
no_clock_by (Some x) (Some y) = (λ h. absurd cc, λ h. absurd cc)

pub no_clock_judged : (ss : List SlaveWords) (hung : List Place) → tree_told ss ≡ Ok hung → (judgement ss ≡ Err NoReference) ↔ (clocks ss ≡ [])
unfolding judgement
no_clock_judged ss hung e =
    let f = flag (map is_clock ss) in
    let first = first_clock ss hung (all_of ss hung e) in
    let by = no_clock_by (first_timed hung f) (first_unmeasurable hung (flag (map is_measuring ss))) in (
      λ h. found_none f (positions (length ss)) (sym first ∙ by.0 (rw e at h)),
      λ h. rw e (by.1 (first ∙ none_found f (positions (length ss)) (find f (positions (length ss))) refl h)),
    )

-- a slave that cannot be measured
unmeasurable_by : (a b : Option ℕ) (k : ℕ) → (judged_clocks a b ≡ Err (Unmeasurable k)) ↔ ((a ≢ None) × (b ≡ Some k))
unmeasurable_by None b k = (λ h. absurd cc, λ h. absurd (h.0 refl))
unmeasurable_by (Some x) None k = (λ h. absurd cc, λ h. absurd (let z = h.1 in cc))
unmeasurable_by (Some x) (Some y) k = (λ h. (λ e. absurd cc, cc), λ h. let z = h.1 in cc)

pub unmeasurable_judged : (ss : List SlaveWords) (hung : List Place) (k : ℕ) → tree_told ss ≡ Ok hung
    → (judgement ss ≡ Err (Unmeasurable k)) ↔ ((clocks ss ≢ []) × (first_unmeasurable hung (flag (map is_measuring ss)) ≡ Some k))
unfolding judgement
unmeasurable_judged ss hung k e =
    let f = flag (map is_clock ss) in
    let first = first_clock ss hung (all_of ss hung e) in
    let by = unmeasurable_by (first_timed hung f) (first_unmeasurable hung (flag (map is_measuring ss))) k in (
      λ h. let g = by.0 (rw e at h) in (λ none. g.0 (first ∙ none_found f (positions (length ss)) (find f (positions (length ss))) refl none), g.1),
      λ h. rw e (by.1 (λ none. h.0 (found_none f (positions (length ss)) (sym first ∙ none)), h.1)),
    )

-- the reference
reference_by : (ss : List SlaveWords) (r : Result (List Place) TopologyError) (x : ℕ) → HasLength (length ss) r → judged_tree ss r ≡ Ok x
    → (hung : List Place) × (r ≡ Ok hung) × (first_timed hung (flag (map is_clock ss)) ≡ Some x) × (first_unmeasurable hung (flag (map is_measuring ss)) ≡ None)
reference_by ss (Err e) x l h = absurd cc
reference_by ss (Ok hung) x l h = let g = both (first_timed hung (flag (map is_clock ss))) (first_unmeasurable hung (flag (map is_measuring ss))) h in (hung, refl, g.0, g.1)
  where
    both : (a b : Option ℕ) → judged_clocks a b ≡ Ok x → (a ≡ Some x) × (b ≡ None)
    both None b h = absurd cc
    both (Some y) None h = (cc, refl)
    both (Some y) (Some z) h = absurd cc

judged_reference : (ss : List SlaveWords) (x : ℕ) → judgement ss ≡ Ok x
    → (hung : List Place) × (rest : List ℕ) × (tree_told ss ≡ Ok hung) × (clocks ss ≡ x ∷ rest) × (first_unmeasurable hung (flag (map is_measuring ss)) ≡ None)
unfolding judgement
judged_reference ss x j =
    let g = reference_by ss (tree_told ss) x (tree_length ss) j in
    let first = first_clock ss g.0 (all_of ss g.0 g.1) in
    let f = found_first (flag (map is_clock ss)) (positions (length ss)) x (sym first ∙ g.2) in
    (g.0, f.0, g.1, f.1, g.3)

pub reference_judged : (ss : List SlaveWords) (x : ℕ)
    → (judgement ss ≡ Ok x) ↔ ((hung : List Place) × (rest : List ℕ) × (tree_told ss ≡ Ok hung) × (clocks ss ≡ x ∷ rest)
    × (first_unmeasurable hung (flag (map is_measuring ss)) ≡ None))
unfolding judgement
reference_judged ss x = (
  judged_reference ss x,
  λ h.
      let f = flag (map is_clock ss) in
      let first = first_clock ss h.0 (all_of ss h.0 h.2) in
      let found = first_found f (positions (length ss)) x h.1 h.3 in
      rw (h.2, first ∙ found, h.4) refl,
)
