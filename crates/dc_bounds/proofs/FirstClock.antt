-- The reference is the first clock in frame order, and so the first one at which a frame arrives.
use Rattle.std.specs.Prelude.{◌≡◌, ℕ, suc, zero, ◌<◌, ◌≤◌, Bool, true, false, Some, List, [], ◌∷◌, length, slice_index}
use Rattle.std.specs.List.{All, find}
use Rattle.std.proofs.Common.{arith, refl, sym, ap, ◌∙◌, subst, inl, inr}
use Rattle.std.proofs.lemmas.Bool.{cases_lt, false≢true}
use Rattle.cable_tree.specs.Row.{Row, IsRow}
use Rattle.cable_tree.specs.Segment.{IsTree}
use Rattle.cable_tree.specs.FrameOrder.{order}
use Rattle.cable_tree.specs.PathSums.{arrive}
use Rattle.cable_tree.proofs.Exported.{order_pair, order_within, place_of}
use Rattle.dc_bounds.specs.Weight.{reference}

-- the first element that passes, with those before it
abbrev pub IsFirst : (ℕ → Bool) → List ℕ → ℕ → Type 0
IsFirst test xs x = (j : ℕ) × (j < length xs) × (slice_index xs j ≡ x) × (test x ≡ true) × ((k : ℕ) → k < j → test (slice_index xs k) ≡ false)

first_more : (test : ℕ → Bool) (y : ℕ) (ys : List ℕ) (j : ℕ) → test y ≡ false → ((k : ℕ) → k < j → test (slice_index ys k) ≡ false)
    → (k : ℕ) → k < suc j → test (slice_index (y ∷ ys) k) ≡ false
first_more test y ys j e h zero less = e
first_more test y ys j e h (suc k) less = h k (omega arith)

first_step : (test : ℕ → Bool) (y : ℕ) (ys : List ℕ) (x : ℕ) (b : Bool) → test y ≡ b → find test (y ∷ ys) ≡ Some x → (find test ys ≡ Some x → IsFirst test ys x) → IsFirst test (y ∷ ys) x
first_step test y ys x true e found later =
    let same : Some y ≡ Some x = sym (rw e refl) ∙ found in
    let is : y ≡ x = cc in
    (0, omega arith, is, subst (λ z. test z ≡ true) is e, λ k less. absurd (omega arith))
first_step test y ys x false e found later =
    let rest = later (sym (rw e refl) ∙ found) in
    (suc rest.0, omega (arith, rest.1), rest.2, rest.3, first_more test y ys rest.0 e rest.4)

pub find_first : (test : ℕ → Bool) (xs : List ℕ) (x : ℕ) → find test xs ≡ Some x → IsFirst test xs x
find_first test [] x found = absurd cc
find_first test (y ∷ ys) x found = first_step test y ys x (test y) refl found (find_first test ys x)

-- the reference is a slave of the tree, and no clock arrives before it
module _ (rows : List Row) (tree : IsTree rows) (slaves : All IsRow rows) (timed : ℕ → Bool) (q : ℕ) (first : reference rows timed ≡ Some q) where
  pub reference_within : q < length rows
  reference_within =
      let f = find_first timed (order rows) q first in
      let inside = order_within rows tree slaves f.0 f.1 in
      omega (arith, inside, f.2)

  pub reference_timed : timed q ≡ true
  reference_timed = (find_first timed (order rows) q first).3

  pub reference_first : (r : ℕ) → r < length rows → timed r ≡ true → arrive rows q ≤ arrive rows r
  reference_first r within is =
      let f = find_first timed (order rows) q first in
      let at = place_of rows tree r within in
      let eq = ap (arrive rows) f.2 in
      let er = ap (arrive rows) at.2 in
      elim (cases_lt at.0 f.0) [
        | inl lt ↦ absurd (false≢true (sym (f.4 at.0 lt) ∙ ap timed at.2 ∙ is))
        | inr le ↦ elim (cases_lt f.0 at.0) [
          | inl lt ↦ let rise = order_pair rows tree slaves f.0 at.0 lt at.1 in omega (arith, rise, eq, er)
          | inr ge ↦ let same = ap (λ x. arrive rows (slice_index (order rows) x)) (let e : f.0 ≡ at.0 = omega arith in e) in omega (arith, same, eq, er)
        ]
      ]
