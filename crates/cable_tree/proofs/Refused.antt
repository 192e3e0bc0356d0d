-- The refusals: at most one is right, and none is where the rows are a tree.
use Rattle.std.proofs.Common.{◌≡◌, ℕ, List, length, refl, ap, arith, ◌⊎◌, inl, inr}
use Rattle.std.proofs.lemmas.Bool.{cases_lt}
use Rattle.cable_tree.specs.declared.error.TreeError.{TreeError}
use Rattle.cable_tree.specs.declared.error.TreeError.TheVariants.{Empty, NoParent, TwoRoots, PortTaken, Cycle, NoMemory}
use Rattle.cable_tree.specs.Row.{Row}
use Rattle.cable_tree.specs.Segment.{IsTree}
use Rattle.cable_tree.specs.Refusals.{IsOrphan, IsLaterRoot, IsDoubled, IsCyclic, IsFree, IsLeast, IsRefused, MayAnswer}

least_same : (rows : List Row) (fault : ℕ → Type 0) (r s : ℕ) → IsLeast rows fault r → IsLeast rows fault s → r ≡ s
least_same rows fault r s a b =
    elim (cases_lt r s) [
      | inl lt ↦ absurd (b.least r lt a.here)
      | inr le ↦ elim (cases_lt s r) [ inl lt ↦ absurd (a.least s lt b.here) | inr ge ↦ omega arith ]
    ]

not_free : (rows : List Row) (fault : ℕ → Type 0) (r : ℕ) → IsFree rows fault → IsLeast rows fault r → ⊥
not_free rows fault r free least = free r least.within least.here

not_empty : (rows : List Row) (fault : ℕ → Type 0) (r : ℕ) → length rows ≡ 0 → IsLeast rows fault r → ⊥
not_empty rows fault r none least = let less = least.within in omega arith

-- whatever is answered is the refusal, or want of memory
pub refusal_same : (rows : List Row) (e f : TreeError) → MayAnswer rows e → IsRefused rows f → (e ≡ f) ⊎ (e ≡ NoMemory)
refusal_same rows NoMemory f h g = inr refl
refusal_same rows Empty Empty h g = inl refl
refusal_same rows Empty (NoParent s) h g = absurd (not_empty rows (IsOrphan rows) s h g)
refusal_same rows Empty (TwoRoots s) h g = absurd (not_empty rows (IsLaterRoot rows) s h g.1)
refusal_same rows Empty (PortTaken s) h g = absurd (not_empty rows (IsDoubled rows) s h g.2)
refusal_same rows Empty (Cycle s) h g = absurd (not_empty rows (IsCyclic rows) s h g.3)
refusal_same rows Empty NoMemory h g = absurd g
refusal_same rows (NoParent r) Empty h g = absurd (not_empty rows (IsOrphan rows) r g h)
refusal_same rows (NoParent r) (NoParent s) h g = inl (ap NoParent (least_same rows (IsOrphan rows) r s h g))
refusal_same rows (NoParent r) (TwoRoots s) h g = absurd (not_free rows (IsOrphan rows) r g.0 h)
refusal_same rows (NoParent r) (PortTaken s) h g = absurd (not_free rows (IsOrphan rows) r g.0 h)
refusal_same rows (NoParent r) (Cycle s) h g = absurd (not_free rows (IsOrphan rows) r g.0 h)
refusal_same rows (NoParent r) NoMemory h g = absurd g
refusal_same rows (TwoRoots r) Empty h g = absurd (not_empty rows (IsLaterRoot rows) r g h.1)
refusal_same rows (TwoRoots r) (NoParent s) h g = absurd (not_free rows (IsOrphan rows) s h.0 g)
refusal_same rows (TwoRoots r) (TwoRoots s) h g = inl (ap TwoRoots (least_same rows (IsLaterRoot rows) r s h.1 g.1))
refusal_same rows (TwoRoots r) (PortTaken s) h g = absurd (not_free rows (IsLaterRoot rows) r g.1 h.1)
refusal_same rows (TwoRoots r) (Cycle s) h g = absurd (not_free rows (IsLaterRoot rows) r g.1 h.1)
refusal_same rows (TwoRoots r) NoMemory h g = absurd g
refusal_same rows (PortTaken r) Empty h g = absurd (not_empty rows (IsDoubled rows) r g h.2)
refusal_same rows (PortTaken r) (NoParent s) h g = absurd (not_free rows (IsOrphan rows) s h.0 g)
refusal_same rows (PortTaken r) (TwoRoots s) h g = absurd (not_free rows (IsLaterRoot rows) s h.1 g.1)
refusal_same rows (PortTaken r) (PortTaken s) h g = inl (ap PortTaken (least_same rows (IsDoubled rows) r s h.2 g.2))
refusal_same rows (PortTaken r) (Cycle s) h g = absurd (not_free rows (IsDoubled rows) r g.2 h.2)
refusal_same rows (PortTaken r) NoMemory h g = absurd g
refusal_same rows (Cycle r) Empty h g = absurd (not_empty rows (IsCyclic rows) r g h.3)
refusal_same rows (Cycle r) (NoParent s) h g = absurd (not_free rows (IsOrphan rows) s h.0 g)
refusal_same rows (Cycle r) (TwoRoots s) h g = absurd (not_free rows (IsLaterRoot rows) s h.1 g.1)
refusal_same rows (Cycle r) (PortTaken s) h g = absurd (not_free rows (IsDoubled rows) s h.2 g.2)
refusal_same rows (Cycle r) (Cycle s) h g = inl (ap Cycle (least_same rows (IsCyclic rows) r s h.3 g.3))
refusal_same rows (Cycle r) NoMemory h g = absurd g

-- a tree is not refused
pub tree_unrefused : (rows : List Row) (e : TreeError) → IsTree rows → IsRefused rows e → ⊥
tree_unrefused rows Empty tree h = let some = tree.some in omega arith
tree_unrefused rows (NoParent r) tree h = let outside = h.here.2 in let inside = tree.parents r h.here.0 h.within h.here.1 in omega arith
tree_unrefused rows (TwoRoots r) tree h =
    let first = h.1.here.1 in
    let less = first.1 in
    let within = h.1.within in
    let same = tree.one_root first.0 r (omega arith) within first.2 h.1.here.0 in
    omega arith
tree_unrefused rows (PortTaken r) tree h =
    let doubled = h.2.here in
    let first = doubled.2 in
    let less = first.1 in
    let within = h.2.within in
    let same = tree.ports first.0 r doubled.0 (omega arith) within first.2 doubled.1 in
    omega arith
tree_unrefused rows (Cycle r) tree h = h.3.here (tree.leads r h.3.within)
tree_unrefused rows NoMemory tree h = h
