-- What the checks know after each row.
use Rattle.std.proofs.Common.{◌≡◌, ℕ, suc, zero, ◌+◌, ◌-◌, ◌<◌, ◌≤◌, Bool, true, false, Option, Some, None, List, length, get_or, set, replicate, arith, refl, sym, ap, ap₂, ◌∙◌, subst, get_or-set_same, get_or-set_other, length-set, ◌⊎◌, inl, inr}
use Rattle.std.specs.Prelude.{MatchOption}
use Rattle.std.specs.Option.{is_some}
use Rattle.std.proofs.lemmas.Bool.{false≢true, cases_lt}
use Rattle.std.proofs.lemmas.Bool.Decides.{eqb_tells}
use Rattle.std.proofs.lemmas.List.{get_or_default, length-replicate, get_or-replicate}
use borrow.Author.Count.{below_more}
use Rattle.cable_tree.specs.declared.port.Above.{Above}
use Rattle.cable_tree.specs.declared.port.Port.{Port}
use Rattle.cable_tree.specs.declared.kids.Kids.{Kids}
use Rattle.cable_tree.specs.Row.{Row, above, no_row}
use Rattle.cable_tree.specs.Segment.{IsTree, IsRoot, LeadsToRoot}
use Rattle.cable_tree.specs.Refusals.{IsOrphan, IsLaterRoot, IsDoubled, IsFree, IsLeast}
use Rattle.cable_tree.specs.FrameOrder.{is_port, child}
use Rattle.cable_tree.specs.Kept.{kid_at, no_kids, AreKids}
use Rattle.cable_tree.proofs.Children.{at_spot, child_hangs, child_some, port_true}
use Rattle.cable_tree.proofs.Levels.{none_some, some_same}

pub above_here : (rows : List Row) (i : ℕ) (x : Row) (o : Option Above) → i < length rows → x ≡ get_or rows i x → o ≡ x.above → above rows i ≡ o
above_here rows i x o within is e =
    ap (λ (y : Row). y.above) (get_or_default rows i no_row x within ∙ sym is) ∙ sym e

pub is_none : {A : Type 0} (o : Option A) → false ≡ is_some o → o ≡ None
is_none None h = refl
is_none (Some x) h = absurd (false≢true h)

pub is_one : {A : Type 0} (o : Option A) → true ≡ is_some o → (x : A) × (o ≡ Some x)
is_one None h = absurd (false≢true (sym h))
is_one (Some x) h = (x, refl)

-- the roots among the first k rows
pub record AreRoots (rows : List Row) (k : ℕ) (found : Option ℕ) : Type 0 where
  pub first : MatchOption found ((q : ℕ) → q < k → IsRoot rows q → ⊥) (λ r. (r < k) × IsRoot rows r)
  pub one : (q : ℕ) → q < k → IsLaterRoot rows q → ⊥

first_more : (rows : List Row) (k : ℕ) (found : Option ℕ) → (IsRoot rows k → ⊥) → MatchOption found ((q : ℕ) → q < k → IsRoot rows q → ⊥) (λ r. (r < k) × IsRoot rows r)
    → MatchOption found ((q : ℕ) → q < k + 1 → IsRoot rows q → ⊥) (λ r. (r < k + 1) × IsRoot rows r)
first_more rows k None other h = below_more (λ q. IsRoot rows q → ⊥) k h other
first_more rows k (Some r) other h = let less = h.0 in (omega arith, h.1)

pub roots_skip : (rows : List Row) (k : ℕ) (found : Option ℕ) → (IsRoot rows k → ⊥) → AreRoots rows k found → AreRoots rows (k + 1) found
roots_skip rows k found other h = record {
  first = first_more rows k found other h.first;
  one = below_more (λ q. IsLaterRoot rows q → ⊥) k h.one (λ later. other later.0);
}

pub roots_start : (rows : List Row) → AreRoots rows 0 None
roots_start rows = record { first = λ q less is. absurd (omega arith); one = λ q less is. absurd (omega arith) }

pub roots_found : (rows : List Row) (k : ℕ) (found : Option ℕ) → found ≡ None → IsRoot rows k → AreRoots rows k found → AreRoots rows (k + 1) (Some k)
roots_found rows k found none is h =
    let first = subst (λ o. MatchOption o ((q : ℕ) → q < k → IsRoot rows q → ⊥) (λ r. (r < k) × IsRoot rows r)) none h.first in
    record {
      first = (omega arith, is);
      one = below_more (λ q. IsLaterRoot rows q → ⊥) k h.one (λ later. first later.1.0 later.1.1 later.1.2);
    }

pub roots_twice : (rows : List Row) (k : ℕ) (found : Option ℕ) (r : ℕ) → k < length rows → found ≡ Some r → IsRoot rows k → AreRoots rows k found → IsLeast rows (IsLaterRoot rows) k
roots_twice rows k found r within some is h =
    let first = subst (λ o. MatchOption o ((q : ℕ) → q < k → IsRoot rows q → ⊥) (λ r. (r < k) × IsRoot rows r)) some h.first in
    record { within = within; here = (is, (r, first.0, first.1)); least = h.one }

pub roots_end : (rows : List Row) (k : ℕ) (found : Option ℕ) → length rows ≤ k → k ≤ length rows → AreRoots rows k found → AreRoots rows (length rows) found
roots_end rows k found last within h = let e : k ≡ length rows = omega arith in subst (λ n. AreRoots rows n found) e h

pub parent_within : (rows : List Row) (r : ℕ) (a : Above) → IsFree rows (IsOrphan rows) → r < length rows → above rows r ≡ Some a → a.row < length rows
parent_within rows r a parents within e =
    elim (cases_lt a.row (length rows)) [ inl lt ↦ lt | inr le ↦ absurd (parents r within (a, e, le)) ]

-- where the parents lead
root_leads : (rows : List Row) (s r : ℕ) → above rows r ≡ None → LeadsToRoot rows (suc s) r
unfolding LeadsToRoot
root_leads rows s r e = rw e tt

child_leads : (rows : List Row) (s r : ℕ) (a : Above) → above rows r ≡ Some a → LeadsToRoot rows s a.row → LeadsToRoot rows (suc s) r
unfolding LeadsToRoot
child_leads rows s r a e h = rw e h

pub parent_leads : (rows : List Row) (s r : ℕ) (a : Above) → above rows r ≡ Some a → LeadsToRoot rows (suc s) r → LeadsToRoot rows s a.row
unfolding LeadsToRoot
parent_leads rows s r a e h = subst (λ o. MatchOption o (Unit {0}) (λ (x : Above). LeadsToRoot rows s x.row)) e h

pub leads_at_root : (rows : List Row) (n k r : ℕ) → k < n → above rows r ≡ None → LeadsToRoot rows (n - k) r
leads_at_root rows n k r less e =
    let one : n - k ≡ suc (n - (k + 1)) = omega arith in
    rw one (root_leads rows (n - (k + 1)) r e)

pub leads_up : (rows : List Row) (n k r : ℕ) (a : Above) → k < n → above rows r ≡ Some a → LeadsToRoot rows (n - k) r → LeadsToRoot rows (n - (k + 1)) a.row
leads_up rows n k r a less e h =
    let one : n - k ≡ suc (n - (k + 1)) = omega arith in
    parent_leads rows (n - (k + 1)) r a e (rw one at h)

pub leads_down : (rows : List Row) (n k r : ℕ) (a : Above) → k < n → above rows r ≡ Some a → LeadsToRoot rows (n - (k + 1)) a.row → LeadsToRoot rows (n - k) r
leads_down rows n k r a less e h =
    let one : n - k ≡ suc (n - (k + 1)) = omega arith in
    rw one (child_leads rows (n - (k + 1)) r a e h)

pub leads_nowhere : (rows : List Row) (r : ℕ) → LeadsToRoot rows 0 r → ⊥
unfolding LeadsToRoot
leads_nowhere rows r h = h

abbrev kids_at : List Kids → ℕ → Port → Option ℕ
kids_at kids r p = kid_at (get_or kids r no_kids) p

-- the children among the first k rows
pub record AreHung (rows : List Row) (k : ℕ) (kids : List Kids) : Type 0 where
  pub whole : length kids ≡ length rows
  pub known : (r : ℕ) (p : Port) (q : ℕ) → r < length rows → kid_at (get_or kids r no_kids) p ≡ Some q → (q < k) × (above rows q ≡ Some (at_spot r p))
  pub every : (q : ℕ) (a : Above) → q < k → above rows q ≡ Some a → kid_at (get_or kids a.row no_kids) a.port ≡ Some q
  pub one : (q : ℕ) → q < k → IsDoubled rows q → ⊥

pub hung_none : (rows : List Row) (n : ℕ) (new : Kids) (kids : List Kids) → n ≡ length rows → ((p : Port) → kid_at new p ≡ None) → kids ≡ replicate n new → AreHung rows 0 kids
hung_none rows n new kids count empty all = record {
  whole = ap length all ∙ length-replicate n new ∙ count;
  known = λ r p q within e.
      let new-at : get_or kids r no_kids ≡ new = ap (λ (xs : List Kids). get_or xs r no_kids) all ∙ get_or-replicate n r new no_kids (omega arith) in
      absurd (none_some q (sym (ap (λ x. kid_at x p) new-at ∙ empty p) ∙ e));
  every = λ q a less e. absurd (omega arith);
  one = λ q less h. absurd (omega arith);
}

pub hung_skip : (rows : List Row) (k : ℕ) (kids : List Kids) → above rows k ≡ None → AreHung rows k kids → AreHung rows (k + 1) kids
hung_skip rows k kids none h = record {
  whole = h.whole;
  known = λ r p q within e. let is = h.known r p q within e in let less = is.0 in (omega arith, is.1);
  every = λ q a less e. below_more (λ q. (a : Above) → above rows q ≡ Some a → kids_at kids a.row a.port ≡ Some q) k
      (λ q less a e. h.every q a less e) (λ a e. absurd (none_some a (sym none ∙ e))) q less a e;
  one = below_more (λ q. IsDoubled rows q → ⊥) k h.one (λ doubled. none_some doubled.0 (sym none ∙ doubled.1));
}

-- the children that are read of a row
pub siblings_at_port : (rows : List Row) (k : ℕ) (kids : List Kids) (a : Above) (i : ℕ) (x : Kids) (p : Port) → a.row < length rows → i ≡ a.row → x ≡ get_or kids i x
    → AreHung rows k kids → kid_at x p ≡ kid_at (get_or kids a.row no_kids) p
siblings_at_port rows k kids a i x p within is read h =
    let below : i < length kids = omega (arith, h.whole) in
    ap (λ y. kid_at y p) (read ∙ get_or_default kids i x no_kids below ∙ ap (λ j. get_or kids j no_kids) is)

pub siblings_at : (rows : List Row) (k : ℕ) (kids : List Kids) (a : Above) (i : ℕ) (x : Kids) → a.row < length rows → i ≡ a.row → x ≡ get_or kids i x
    → AreHung rows k kids → kid_at (get_or kids a.row no_kids) a.port ≡ kid_at x a.port
siblings_at rows k kids a i x within is read h = sym (siblings_at_port rows k kids a i x a.port within is read h)

-- a port that is taken
pub hung_taken : (rows : List Row) (k : ℕ) (kids : List Kids) (a : Above) (q : ℕ) → a.row < length rows → above rows k ≡ Some a
    → kid_at (get_or kids a.row no_kids) a.port ≡ Some q → AreHung rows k kids → IsDoubled rows k
hung_taken rows k kids a q within e taken h =
    let is = h.known a.row a.port q within taken in (a, e, (q, is.0, is.1))

module _ (rows : List Row) (k : ℕ) (kids : List Kids) (a : Above) (new : Kids) (within : a.row < length rows) (e : above rows k ≡ Some a)
    (free : kid_at (get_or kids a.row no_kids) a.port ≡ None) (here : kid_at new a.port ≡ Some k)
    (elsewhere : (p : Port) → is_port a.port p ≡ false → kid_at new p ≡ kid_at (get_or kids a.row no_kids) p) (h : AreHung rows k kids) where
  abbrev after : List Kids
  after = set kids a.row new

  -- the port itself has the row, and every other port what it had
  at_it : kids_at after a.row a.port ≡ Some k
  at_it = let lt : a.row < length kids = omega (arith, h.whole) in ap (λ x. kid_at x a.port) (get_or-set_same {A = Kids} kids a.row new no_kids lt) ∙ here

  beside : (p : Port) → is_port a.port p ≡ false → kids_at after a.row p ≡ kids_at kids a.row p
  beside p other = let lt : a.row < length kids = omega (arith, h.whole) in ap (λ x. kid_at x p) (get_or-set_same {A = Kids} kids a.row new no_kids lt) ∙ elsewhere p other

  away : (r : ℕ) (p : Port) → (r ≡ a.row → ⊥) → kids_at after r p ≡ kids_at kids r p
  away r p other = ap (λ x. kid_at x p) (get_or-set_other {A = Kids} kids a.row r new no_kids other)

  port_cases : (p : Port) → (a.port ≡ p) ⊎ (is_port a.port p ≡ false)
  port_cases p = tell (is_port a.port p) refl
    where
      tell : (b : Bool) → is_port a.port p ≡ b → (a.port ≡ p) ⊎ (is_port a.port p ≡ false)
      tell true is = inl (port_true a.port p is)
      tell false is = inr is

  known_after : (r : ℕ) (p : Port) (q : ℕ) → r < length rows → kids_at after r p ≡ Some q → (q < k + 1) × (above rows q ≡ Some (at_spot r p))
  known_after r p q within' e' =
      elim (eqb_tells r a.row) [
        | inl same ↦ elim (port_cases p) [
          | inl port ↦
              let it : kids_at after r p ≡ Some k = rw (same.1, sym port) at_it in
              let q-is : k ≡ q = some_same (sym it ∙ e') in
              let spot : Some a ≡ Some (at_spot r p) = ap₂ (λ x y. Some (at_spot x y)) (sym same.1) port in
              (omega arith, subst (λ x. above rows x ≡ Some (at_spot r p)) q-is (e ∙ spot))
          | inr other ↦
              let old : kids_at kids a.row p ≡ Some q = sym (beside p other) ∙ ap (λ x. kids_at after x p) (sym same.1) ∙ e' in
              let is = h.known a.row p q within old in
              let less = is.0 in
              let spot : Some (at_spot a.row p) ≡ Some (at_spot r p) = ap (λ x. Some (at_spot x p)) (sym same.1) in
              (omega arith, is.1 ∙ spot)
        ]
        | inr apart ↦
            let is = h.known r p q within' (sym (away r p apart.1) ∙ e') in
            let less = is.0 in
            (omega arith, is.1)
      ]

  every_old : (q : ℕ) → q < k → (b : Above) → above rows q ≡ Some b → kids_at after b.row b.port ≡ Some q
  every_old q less b e' =
      let old = h.every q b less e' in
      elim (eqb_tells b.row a.row) [
        | inl same ↦ elim (port_cases b.port) [
          | inl port ↦
              let both : kids_at kids b.row b.port ≡ None = ap₂ (λ x y. kids_at kids x y) same.1 (sym port) ∙ free in
              absurd (none_some q (sym both ∙ old))
          | inr other ↦ ap (λ x. kids_at after x b.port) same.1 ∙ beside b.port other ∙ ap (λ x. kids_at kids x b.port) (sym same.1) ∙ old
        ]
        | inr apart ↦ away b.row b.port apart.1 ∙ old
      ]

  every_new : (b : Above) → above rows k ≡ Some b → kids_at after b.row b.port ≡ Some k
  every_new b e' =
      let same : a ≡ b = some_same (sym e ∙ e') in
      subst (λ (x : Above). kids_at after x.row x.port ≡ Some k) same at_it

  one_new : IsDoubled rows k → ⊥
  one_new doubled =
      let same : doubled.0 ≡ a = some_same (sym doubled.1 ∙ e) in
      let q = doubled.2.0 in
      let taken = h.every q a doubled.2.1 (doubled.2.2 ∙ ap Some same) in
      none_some q (sym free ∙ taken)

  -- a port that is free is taken by the row
  pub hung_more : AreHung rows (k + 1) (set kids a.row new)
  hung_more = record {
    whole = length-set kids a.row new ∙ h.whole;
    known = known_after;
    every = λ q b less e'. below_more (λ q. (b : Above) → above rows q ≡ Some b → kids_at after b.row b.port ≡ Some q) k every_old every_new q less b e';
    one = below_more (λ q. IsDoubled rows q → ⊥) k h.one one_new;
  }

-- after the last row the table holds the children
pub hung_all : (rows : List Row) (k : ℕ) (kids : List Kids) → k ≡ length rows → AreHung rows k kids → AreKids rows kids
hung_all rows k kids last h = record {
  whole = h.whole;
  each = λ r p within. same r p within (kids_at kids r p) refl (child rows r p) refl;
}
  where
    same : (r : ℕ) (p : Port) → r < length rows → (o : Option ℕ) → kids_at kids r p ≡ o → (o' : Option ℕ) → child rows r p ≡ o' → kids_at kids r p ≡ child rows r p
    same r p within o e (Some j) e' =
        let is = child_hangs rows r p j e' in
        h.every j (at_spot r p) (let less = is.0 in omega arith) is.1 ∙ sym e'
    same r p within (Some q) e None e' =
        let is = h.known r p q within e in
        let found = child_some rows r p q (let less = is.0 in omega arith) is.1 in
        absurd (none_some found.0 (sym e' ∙ found.1))
    same r p within None e None e' = e ∙ sym e'

-- no root, no way to one
rootless_at : (rows : List Row) → IsFree rows (IsRoot rows) → IsFree rows (IsOrphan rows) → (s r : ℕ) → r < length rows
    → ((q : ℕ) → q < length rows → LeadsToRoot rows s q → ⊥) → (o : Option Above) → above rows r ≡ o → LeadsToRoot rows (suc s) r → ⊥
rootless_at rows none parents s r within before None e h = none r within e
rootless_at rows none parents s r within before (Some a) e h =
    elim (cases_lt a.row (length rows)) [
      | inl lt ↦ before a.row lt (parent_leads rows s r a e h)
      | inr le ↦ parents r within (a, e, le)
    ]

pub rootless : (rows : List Row) → IsFree rows (IsRoot rows) → IsFree rows (IsOrphan rows) → (s r : ℕ) → r < length rows → LeadsToRoot rows s r → ⊥
rootless rows none parents zero r within h = leads_nowhere rows r h
rootless rows none parents (suc s) r within h = rootless_at rows none parents s r within (rootless rows none parents s) (above rows r) refl h

pub tree_from_checks : (rows : List Row) → 0 < length rows → IsFree rows (IsOrphan rows) → IsFree rows (IsLaterRoot rows) → IsFree rows (IsDoubled rows)
    → (r : ℕ) → r < length rows → IsRoot rows r → ((q : ℕ) → q < length rows → LeadsToRoot rows (length rows) q) → IsTree rows
tree_from_checks rows some parents roots ports r within is leads = record {
  some = some;
  parents = λ q a less e. elim (cases_lt a.row (length rows)) [ inl lt ↦ lt | inr le ↦ absurd (parents q less (a, e, le)) ];
  root = (r, within, is);
  one_root = λ q s lessq lesss isq iss.
      elim (cases_lt q s) [ inl lt ↦ absurd (roots s lesss (iss, (q, lt, isq))) | inr le ↦ elim (cases_lt s q) [ inl lt ↦ absurd (roots q lessq (isq, (s, lt, iss))) | inr ge ↦ omega arith ] ];
  ports = λ q s a lessq lesss eq es.
      elim (cases_lt q s) [ inl lt ↦ absurd (ports s lesss (a, es, (q, lt, eq))) | inr le ↦ elim (cases_lt s q) [ inl lt ↦ absurd (ports q lessq (a, eq, (s, lt, es))) | inr ge ↦ omega arith ] ];
  leads = leads;
}
