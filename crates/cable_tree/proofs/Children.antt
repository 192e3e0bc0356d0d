-- Who hangs where, read from the rows and from the ports.
use Rattle.std.proofs.Common.{◌≡◌, ℕ, ◌<◌, Bool, true, false, Option, Some, None, List, length, arith, refl, sym, ap, ap₂, ◌∙◌, ◌&&◌, eqb, inl, inr}
use Rattle.std.proofs.lemmas.Bool.{false≢true, cases_lt, eqb-true, eq-eqb}
use Rattle.std.proofs.lemmas.Bool.Decides.{nat_tests}
use Rattle.std.proofs.lemmas.List.Quantifiers.{position-Some}
use Rattle.std.proofs.lemmas.List.Sums.{fails_before_first, position_or_len_is}
use Rattle.std.specs.Prelude.{IfSome}
use Rattle.std.specs.List.{position_or_len}
use Rattle.cable_tree.specs.declared.port.Above.{Above}
use Rattle.cable_tree.specs.declared.port.Port.{Port}
use Rattle.cable_tree.specs.declared.port.Port.TheVariants.{P1, P2, P3}
use Rattle.cable_tree.specs.Row.{Row, above, no_row}
use Rattle.cable_tree.specs.Segment.{IsTree, IsRoot}
use Rattle.cable_tree.specs.FrameOrder.{is_port, is_at, is_nowhere, child, root}

pub port_true : (p q : Port) → is_port p q ≡ true → p ≡ q
port_true P1 P1 h = refl
port_true P2 P2 h = refl
port_true P3 P3 h = refl
port_true P1 P2 h = absurd (false≢true h)
port_true P1 P3 h = absurd (false≢true h)
port_true P2 P1 h = absurd (false≢true h)
port_true P2 P3 h = absurd (false≢true h)
port_true P3 P1 h = absurd (false≢true h)
port_true P3 P2 h = absurd (false≢true h)

pub port_same : (p : Port) → is_port p p ≡ true
port_same P1 = refl
port_same P2 = refl
port_same P3 = refl

both : (a b : Bool) → (a && b) ≡ true → (a ≡ true) × (b ≡ true)
both true true h = (refl, refl)
both true false h = absurd (false≢true h)
both false b h = absurd (false≢true h)

abbrev pub at_spot : ℕ → Port → Above
at_spot r p = record { row = r; port = p }

pub at_true : (r : ℕ) (p : Port) (o : Option Above) → is_at r p o ≡ true → o ≡ Some (at_spot r p)
at_true r p None h = absurd (false≢true h)
at_true r p (Some a) h =
    let parts = both (eqb a.row r) (is_port a.port p) h in
    ap₂ (λ x y. Some (at_spot x y)) (eqb-true a.row r parts.0) (port_true a.port p parts.1)

pub at_same : (r : ℕ) (p : Port) → is_at r p (Some (at_spot r p)) ≡ true
at_same r p = rw (eq-eqb r r refl, port_same p) refl

module _ (rows : List Row) where
  -- a child hangs where it is found
  pub child_hangs : (r : ℕ) (p : Port) (k : ℕ) → child rows r p ≡ Some k → (k < length rows) × (above rows k ≡ Some (at_spot r p))
  unfolding child
  child_hangs r p k h =
      let found = position-Some (λ row. is_at r p row.above) rows k no_row h in
      (found.0, at_true r p (above rows k) found.1)

  -- where some row hangs, a row is found
  pub child_some : (r : ℕ) (p : Port) (k : ℕ) → k < length rows → above rows k ≡ Some (at_spot r p) → (j : ℕ) × (child rows r p ≡ Some j)
  unfolding child
  child_some r p k within hangs =
      let test = λ (row : Row). is_at r p row.above in
      let passes : is_at r p (above rows k) ≡ true = rw hangs (at_same r p) in
      let below : position_or_len test rows < length rows =
      elim (cases_lt (position_or_len test rows) (length rows)) [
        | inl lt ↦ lt
        | inr le ↦ absurd (false≢true (sym (fails_before_first test rows k no_row (omega arith)) ∙ passes))
      ] in
      (position_or_len test rows, grind (arith, nat_tests))

-- in a tree the row that hangs there is the one that is found
pub child_is : (rows : List Row) → IsTree rows → (r : ℕ) (p : Port) (k : ℕ) → k < length rows → above rows k ≡ Some (at_spot r p) → child rows r p ≡ Some k
child_is rows tree r p k within hangs =
    let found = child_some rows r p k within hangs in
    let is = child_hangs rows r p found.0 found.1 in
    found.1 ∙ ap Some (tree.ports found.0 k (at_spot r p) is.0 within is.1 hangs)

nowhere_true : (o : Option Above) → is_nowhere o ≡ true → o ≡ None
nowhere_true None h = refl
nowhere_true (Some a) h = absurd (false≢true h)

nowhere_false : (o : Option Above) → ((o ≡ None) → ⊥) → is_nowhere o ≡ false
nowhere_false None h = absurd (h refl)
nowhere_false (Some a) h = refl

-- the root is the one row without a parent
pub root_is : (rows : List Row) (r : ℕ) → r < length rows → IsRoot rows r → ((q : ℕ) → q < r → IsRoot rows q → ⊥) → root rows ≡ r
unfolding root
root_is rows r within is first =
    position_or_len_is (λ row. is_nowhere row.above) rows r no_row (omega arith) (λ k lt. nowhere_false (above rows k) (first k lt)) (λ _. rw is refl)

pub root_of : (rows : List Row) → IsTree rows → (root rows < length rows) × IsRoot rows (root rows)
root_of rows tree =
    let r = tree.root.0 in
    let e : root rows ≡ r = root_is rows r tree.root.1 tree.root.2 (λ q lt h. absurd (let same = tree.one_root q r (omega arith) tree.root.1 h tree.root.2 in omega arith)) in
    rw e (tree.root.1, tree.root.2)

pub child_within : (rows : List Row) (r : ℕ) (p : Port) (o : Option ℕ) → o ≡ child rows r p → IfSome o (λ k. k < length rows)
child_within rows r p None e = tt
child_within rows r p (Some k) e = (child_hangs rows r p k (sym e)).0
