-- Statuses list at most one tree, or have one refusal.
use Rattle.std.specs.Prelude.{◌≡◌, ℕ, ◌<◌, ◌≤◌, true, false, List, [], ◌∷◌, ◌++◌, length, take, drop, None, slice_index}
use Rattle.std.proofs.Common.{arith, refl, sym, ap, ◌∙◌, subst, inl, inr}
use Rattle.std.proofs.lemmas.Bool.{cases_lt}
use Rattle.std.proofs.lemmas.List.{append-nil, take_all, take-append-drop, take-take, length-take-le, length-drop, get_or-take}
use Rattle.dc_topology.specs.DlStatus.{is_formed}
use Rattle.dc_topology.specs.Listed.{Place, Lists}
use Rattle.dc_topology.specs.Refusals.{ListsFront, AreFormed, IsRefused}
use Rattle.dc_topology.specs.declared.error.TopologyError.{TopologyError}
use Rattle.dc_topology.specs.declared.error.TopologyError.TheVariants.{BadStatus, Surplus, Missing}
use Rattle.dc_topology.proofs.Walking.{Walks, taken, walks_of, same_walk, walk_formed}

pub same_tree : (ss : List ℕ) (hs hs' : List Place) → Lists ss hs → Lists ss hs' → hs ≡ hs'
same_tree ss hs hs' a b = (same_walk (None ∷ []) 0 ss hs (walks_of ss hs a) [] hs' (subst (λ x. Walks (None ∷ []) 0 x hs') (sym (append-nil ss)) (walks_of ss hs' b))).1

-- a front that lists a tree is the whole list
whole_front : (ss : List ℕ) (hs : List Place) (k : ℕ) → Lists ss hs → ListsFront ss k → length ss ≤ k
whole_front ss hs k a front =
    let joined : take k ss ++ drop k ss ≡ ss = take-append-drop k ss in
    let w = subst (λ x. Walks (None ∷ []) 0 x hs) (sym joined) (walks_of ss hs a) in
    let none = (same_walk (None ∷ []) 0 (take k ss) front.0 (walks_of (take k ss) front.0 front.1) (drop k ss) hs w).0 in
    let count = length-drop k ss in
    let empty = ap length none in
    omega (arith, count, empty)

listed_formed : (ss : List ℕ) (hs : List Place) → Lists ss hs → AreFormed ss (length ss)
listed_formed ss hs a = walk_formed (None ∷ []) 0 ss hs (walks_of ss hs a)

front_formed : (ss : List ℕ) (k j : ℕ) → k ≤ length ss → ListsFront ss k → j < k → is_formed (slice_index ss j) ≡ true
front_formed ss k j low front less =
    let count = length-take-le k ss low in
    ap is_formed (sym (get_or-take k ss j 0 less)) ∙ listed_formed (take k ss) front.0 front.1 j (omega (arith, count, less))

none_listed : (hs : List Place) → ¬ Lists [] hs
none_listed hs a = let t = taken (None ∷ []) 0 [] hs (walks_of [] hs a) None [] refl in let none = t.begins in absurd cc

some_listed : (ss : List ℕ) (hs : List Place) → Lists ss hs → 1 ≤ length ss
some_listed [] hs a = absurd (none_listed hs a)
some_listed (s ∷ ss) hs a = omega arith

itself : (ss : List ℕ) (hs : List Place) → Lists ss hs → ListsFront ss (length ss)
itself ss hs a = (hs, subst (λ x. Lists x hs) (sym (take_all (length ss) ss (omega arith))) a)

well_or_not : (b : ℕ) (ss : List ℕ) → is_formed (slice_index ss b) ≡ true → is_formed (slice_index ss b) ≡ false → ⊥
well_or_not b ss p q = let e = sym p ∙ q in absurd cc

pub not_both : (ss : List ℕ) (hs : List Place) (e : TopologyError) → Lists ss hs → IsRefused ss e → ⊥
not_both ss hs (Surplus k) a r = let long = whole_front ss hs k a r.2 in omega (arith, long, r.1)
not_both ss hs (BadStatus k) a r = well_or_not k ss (listed_formed ss hs a k r.0) r.1
not_both ss hs Missing a r = r.1 (length ss) (some_listed ss hs a) (omega arith) (itself ss hs a)

-- of two fronts that list trees neither goes on behind the other
front_within : (ss : List ℕ) (j k : ℕ) → j ≤ k → k ≤ length ss → ListsFront ss j → ListsFront ss k → k ≤ j
front_within ss j k order low a b =
    let cut : take j (take k ss) ≡ take j ss = take-take j k ss order in
    let inner : ListsFront (take k ss) j = (a.0, subst (λ x. Lists x a.0) (sym cut) a.1) in
    let long = whole_front (take k ss) b.0 j b.1 inner in
    let count = length-take-le k ss low in
    omega (arith, long, count)

same_surplus : (ss : List ℕ) (j k : ℕ) → IsRefused ss (Surplus j) → IsRefused ss (Surplus k) → j ≡ k
same_surplus ss j k a b = elim (cases_lt j k) [
  | inl less ↦ let low = front_within ss j k (omega arith) (omega (arith, b.1)) a.2 b.2 in absurd (omega (arith, low, less))
  | inr more ↦ let low = front_within ss k j more (omega (arith, a.1)) b.2 a.2 in omega (arith, low, more)
]

surplus_or_bad : (ss : List ℕ) (k b : ℕ) → IsRefused ss (Surplus k) → IsRefused ss (BadStatus b) → ⊥
surplus_or_bad ss k b a r = elim (cases_lt b k) [
  | inl less ↦ well_or_not b ss (front_formed ss k b (omega (arith, a.1)) a.2 less) r.1
  | inr more ↦ r.3 k a.0 more a.2
]

surplus_or_missing : (ss : List ℕ) (k : ℕ) → IsRefused ss (Surplus k) → IsRefused ss Missing → ⊥
surplus_or_missing ss k a r = r.1 k a.0 (omega (arith, a.1)) a.2

same_bad : (ss : List ℕ) (j k : ℕ) → IsRefused ss (BadStatus j) → IsRefused ss (BadStatus k) → j ≡ k
same_bad ss j k a b = elim (cases_lt j k) [
  | inl less ↦ absurd (well_or_not j ss (b.2 j less) a.1)
  | inr more ↦ elim (cases_lt k j) [
    | inl less ↦ absurd (well_or_not k ss (a.2 k less) b.1)
    | inr same ↦ omega (arith, more, same)
  ]
]

pub same_refusal : (ss : List ℕ) (e e' : TopologyError) → IsRefused ss e → IsRefused ss e' → e ≡ e'
same_refusal ss (Surplus j) (Surplus k) a b = ap Surplus (same_surplus ss j k a b)
same_refusal ss (Surplus k) (BadStatus j) a b = absurd (surplus_or_bad ss k j a b)
same_refusal ss (BadStatus j) (Surplus k) a b = absurd (surplus_or_bad ss k j b a)
same_refusal ss (Surplus k) Missing a b = absurd (surplus_or_missing ss k a b)
same_refusal ss Missing (Surplus k) a b = absurd (surplus_or_missing ss k b a)
same_refusal ss (BadStatus j) (BadStatus k) a b = ap BadStatus (same_bad ss j k a b)
same_refusal ss (BadStatus j) Missing a b = absurd (well_or_not j ss (b.0 j a.0) a.1)
same_refusal ss Missing (BadStatus j) a b = absurd (well_or_not j ss (a.0 j b.0) b.1)
same_refusal ss Missing Missing a b = refl
