-- The tables as they are filled along the frame order.
use Rattle.std.proofs.Common.{◌≡◌, ℕ, ◌+◌, ◌-◌, ◌<◌, ◌≤◌, List, length, get_or, set, Some, arith, ap, sym, subst, ◌∙◌, get_or-set_same, get_or-set_other, length-set, inl, inr}
use Rattle.std.proofs.lemmas.Bool.{cases_lt}
use borrow.Author.Count.{below_more}
use Rattle.cable_tree.specs.declared.port.Above.{Above}
use Rattle.cable_tree.specs.declared.port.Port.{Port}
use Rattle.cable_tree.specs.Row.{Row, above}
use Rattle.cable_tree.specs.Kept.{IsTable, ArePlaces}
use Rattle.cable_tree.specs.Segment.{IsSegment}
use Rattle.cable_tree.specs.FrameOrder.{order, child}
use Rattle.cable_tree.proofs.Rising.{order_once, order_within}
use Rattle.cable_tree.proofs.Members.{place_of, child_after, parent_before}

-- the number of each of the first k rows in frame order
pub record IsMadeFirst (rows : List Row) (number : ℕ → ℕ) (k : ℕ) (table : List ℕ) : Type 0 where
  pub whole : length table ≡ length rows
  pub made : (j : ℕ) → j < k → get_or table (get_or (order rows) j 0) 0 ≡ number (get_or (order rows) j 0)

-- the number of each of the last k rows in frame order
pub record IsMadeLast (rows : List Row) (number : ℕ → ℕ) (k : ℕ) (table : List ℕ) : Type 0 where
  pub whole : length table ≡ length rows
  pub made : (j : ℕ) → length (order rows) ≤ j + k → j < length (order rows) → get_or table (get_or (order rows) j 0) 0 ≡ number (get_or (order rows) j 0)

-- the places of the first k rows in frame order
pub record ArePlacedFirst (rows : List Row) (k : ℕ) (places : List ℕ) : Type 0 where
  pub whole : length places ≡ length rows
  pub placed : (j : ℕ) → j < k → get_or places (get_or (order rows) j 0) 0 ≡ j

module _ (rows : List Row) (segment : IsSegment rows) where
  apart : (i j : ℕ) → i < j → j < length (order rows) → get_or (order rows) i 0 ≡ get_or (order rows) j 0 → ⊥
  apart = order_once rows segment.tree segment.slaves

  pub visited : (i : ℕ) → i < length (order rows) → get_or (order rows) i 0 < length rows
  visited = order_within rows segment.tree segment.slaves

  -- a number written at a row, read at another
  kept : (number : ℕ → ℕ) (table : List ℕ) (i j : ℕ) (r x : ℕ) → r ≡ get_or (order rows) i 0 → length table ≡ length rows → (get_or (order rows) j 0 ≡ get_or (order rows) i 0 → ⊥)
      → get_or (set table r x) (get_or (order rows) j 0) 0 ≡ get_or table (get_or (order rows) j 0) 0
  kept number table i j r x is whole other = get_or-set_other {A = ℕ} table r (get_or (order rows) j 0) x 0 (λ e. other (e ∙ is))

  here : (table : List ℕ) (i : ℕ) (r x : ℕ) → i < length (order rows) → r ≡ get_or (order rows) i 0 → length table ≡ length rows
      → get_or (set table r x) (get_or (order rows) i 0) 0 ≡ x
  here table i r x within is whole =
      let lt = visited i within in
      let lt' : r < length table = omega arith in
      ap (λ q. get_or (set table r x) q 0) (sym is) ∙ get_or-set_same {A = ℕ} table r x 0 lt'

  pub first_none : (number : ℕ → ℕ) (table : List ℕ) → length table ≡ length rows → IsMadeFirst rows number 0 table
  first_none number table whole = record { whole = whole; made = λ j less. absurd (omega arith) }

  pub first_more : (number : ℕ → ℕ) (k : ℕ) (table : List ℕ) (r x : ℕ) → k < length (order rows) → r ≡ get_or (order rows) k 0 → x ≡ number r
      → IsMadeFirst rows number k table → IsMadeFirst rows number (k + 1) (set table r x)
  first_more number k table r x within is value h = record {
    whole = length-set table r x ∙ h.whole;
    made = below_more (λ j. get_or (set table r x) (get_or (order rows) j 0) 0 ≡ number (get_or (order rows) j 0)) k
        (λ j less. kept number table k j r x is h.whole (apart j k less within) ∙ h.made j less)
        (here table k r x within is h.whole ∙ value ∙ ap number is);
  }

  pub first_all : (number : ℕ → ℕ) (k : ℕ) (table : List ℕ) → length (order rows) ≤ k → IsMadeFirst rows number k table → IsTable rows number table
  first_all number k table last h = record {
    whole = h.whole;
    each = λ r within.
        let place = place_of rows segment.tree r within in
        let made = h.made place.0 (let less = place.1 in omega arith) in
        subst (λ q. get_or table q 0 ≡ number q) place.2 made;
  }

  -- when a row's turn has come, its parent's has passed
  pub first_parent : (number : ℕ → ℕ) (k : ℕ) (table : List ℕ) (r : ℕ) → k < length (order rows) → r ≡ get_or (order rows) k 0 → IsMadeFirst rows number k table
      → (a : Above) → above rows r ≡ Some a → get_or table a.row 0 ≡ number a.row
  first_parent number k table r within is h a e =
      let before = parent_before rows segment.tree segment.slaves k a within (ap (above rows) (sym is) ∙ e) in
      subst (λ q. get_or table q 0 ≡ number q) before.2 (h.made before.0 before.1)

  pub last_none : (number : ℕ → ℕ) (table : List ℕ) → length table ≡ length rows → IsMadeLast rows number 0 table
  last_none number table whole = record { whole = whole; made = λ j late less. absurd (omega arith) }

  pub last_more : (number : ℕ → ℕ) (k : ℕ) (table : List ℕ) (r x : ℕ) → k < length (order rows) → r ≡ get_or (order rows) (length (order rows) - 1 - k) 0 → x ≡ number r
      → IsMadeLast rows number k table → IsMadeLast rows number (k + 1) (set table r x)
  last_more number k table r x within is value h = record {
    whole = length-set table r x ∙ h.whole;
    made = λ j late less.
        elim (cases_lt (length (order rows) - 1 - k) j) [
          | inl lt ↦ kept number table (length (order rows) - 1 - k) j r x is h.whole (λ e. apart (length (order rows) - 1 - k) j lt less (sym e)) ∙ h.made j (omega arith) less
          | inr le ↦
              let same : length (order rows) - 1 - k ≡ j = omega arith in
              subst (λ q. get_or (set table r x) (get_or (order rows) q 0) 0 ≡ number (get_or (order rows) q 0)) same
              (here table (length (order rows) - 1 - k) r x (omega arith) is h.whole ∙ value ∙ ap number is)
        ];
  }

  pub last_all : (number : ℕ → ℕ) (k : ℕ) (table : List ℕ) → length (order rows) ≤ k → IsMadeLast rows number k table → IsTable rows number table
  last_all number k table last h = record {
    whole = h.whole;
    each = λ r within.
        let place = place_of rows segment.tree r within in
        let made = h.made place.0 (let less = place.1 in omega arith) place.1 in
        subst (λ q. get_or table q 0 ≡ number q) place.2 made;
  }

  -- when a row's turn has come, its children's have passed
  pub last_child : (number : ℕ → ℕ) (k : ℕ) (table : List ℕ) (r : ℕ) → k < length (order rows) → r ≡ get_or (order rows) (length (order rows) - 1 - k) 0
      → IsMadeLast rows number k table → (p : Port) (q : ℕ) → child rows r p ≡ Some q → get_or table q 0 ≡ number q
  last_child number k table r within is h p q e =
      let after = child_after rows segment.tree segment.slaves (length (order rows) - 1 - k) p q (omega arith) (ap (λ x. child rows x p) (sym is) ∙ e) in
      let later = after.1 in
      subst (λ x. get_or table x 0 ≡ number x) after.3 (h.made after.0 (omega arith) after.2)

  pub places_none : (places : List ℕ) → length places ≡ length rows → ArePlacedFirst rows 0 places
  places_none places whole = record { whole = whole; placed = λ j less. absurd (omega arith) }

  pub places_more : (k : ℕ) (places : List ℕ) (r : ℕ) → k < length (order rows) → r ≡ get_or (order rows) k 0 → ArePlacedFirst rows k places → ArePlacedFirst rows (k + 1) (set places r k)
  places_more k places r within is h = record {
    whole = length-set places r k ∙ h.whole;
    placed = below_more (λ j. get_or (set places r k) (get_or (order rows) j 0) 0 ≡ j) k
        (λ j less. kept (λ x. x) places k j r k is h.whole (apart j k less within) ∙ h.placed j less)
        (here places k r k within is h.whole);
  }

  pub places_all : (k : ℕ) (places : List ℕ) → length (order rows) ≤ k → ArePlacedFirst rows k places → ArePlaces rows places
  places_all k places last h = record {
    whole = h.whole;
    within = λ r within. let at = placed-at r within in let place = place_of rows segment.tree r within in let less = place.1 in omega arith;
    each = λ r within. let place = place_of rows segment.tree r within in ap (λ j. get_or (order rows) j 0) (placed-at r within) ∙ place.2;
  }
    where
      placed-at : (r : ℕ) (within : r < length rows) → get_or places r 0 ≡ (place_of rows segment.tree r within).0
      placed-at r within =
          let place = place_of rows segment.tree r within in
          ap (λ q. get_or places q 0) (sym place.2) ∙ h.placed place.0 (let less = place.1 in omega arith)
