-- Recursions that climb a tree, in which a step more than there are rows changes nothing.
use Rattle.std.specs.Prelude.{◌≡◌, ℕ, suc, zero, ◌+◌, ◌<◌, Bool, ◌&&◌, ◌||◌, not, nat_eq, if◌then◌else◌, Option, Some, None, List, length}
use Rattle.std.proofs.Common.{refl, sym, ap, ◌∙◌}
use Rattle.cable_tree.specs.declared.port.Above.{Above}
use Rattle.cable_tree.specs.Row.{Row, above}
use Rattle.cable_tree.specs.Segment.{IsTree, LeadsToRoot}
use Rattle.cable_tree.proofs.Exported.{leads_nowhere, parent_leads}
use Rattle.dc_bounds.specs.Weight.{measuring_step, measuring_within, measuring_parent, hop_weight, hops_step, hops_within, is_over_step, is_over, is_over_within, meeting_step, meeting_within}
use Rattle.dc_bounds.specs.Measurable.{branches, is_measured_step, is_measured_within, is_measurable}
use Rattle.dc_delay.specs.MeasuredDelay.{passed_step, passed_within, summed_step, summed_within}
use Rattle.dc_bounds.proofs.Exported.{lower_measuring, parent_within}

-- climbing by some parent of each row
module _ (rows : List Row) (parent : ℕ → Option Above)
    (lower : (s r : ℕ) (a : Above) → parent r ≡ Some a → LeadsToRoot rows (suc s) r → LeadsToRoot rows s a.row) where
  -- what holds of a row wherever it holds of its parent holds of every row
  induct : (inside : (r : ℕ) (a : Above) → r < length rows → parent r ≡ Some a → a.row < length rows)
      → (P : ℕ → Type 0) → ((r : ℕ) → r < length rows → ((a : Above) → parent r ≡ Some a → P a.row) → P r)
      → (s r : ℕ) → r < length rows → LeadsToRoot rows s r → P r
  induct inside P step zero r within leads = absurd (leads_nowhere rows r leads)
  induct inside P step (suc s) r within leads =
      step r within (λ a e. induct inside P step s a.row (inside r a within e) (lower s r a e leads))

  module _ (A : Type 0) (f : ℕ → ℕ → A) (step : ℕ → (ℕ → A) → Option Above → A)
      (is : (n r : ℕ) → f (suc n) r ≡ step r (f n) (parent r))
      (none : (r : ℕ) (g h : ℕ → A) → step r g None ≡ step r h None)
      (some : (r : ℕ) (g h : ℕ → A) (a : Above) → g a.row ≡ h a.row → step r g (Some a) ≡ step r h (Some a)) where
    same : (r : ℕ) (g h : ℕ → A) (o : Option Above) → parent r ≡ o → ((a : Above) → parent r ≡ Some a → g a.row ≡ h a.row) → step r g o ≡ step r h o
    same r g h None e known = none r g h
    same r g h (Some a) e known = some r g h a (known a e)

    more : (s r : ℕ) → LeadsToRoot rows s r → f (suc s) r ≡ f s r
    more zero r leads = absurd (leads_nowhere rows r leads)
    more (suc s) r leads =
        is (suc s) r ∙ same r (f (suc s)) (f s) (parent r) refl (λ a e. more s a.row (lower s r a e leads)) ∙ sym (is s r)

    at : (n r : ℕ) → LeadsToRoot rows n r → f n r ≡ step r (f n) (parent r)
    at zero r leads = absurd (leads_nowhere rows r leads)
    at (suc s) r leads =
        is s r ∙ same r (f s) (f (suc s)) (parent r) refl (λ a e. sym (more s a.row (lower s r a e leads)))

-- the recursions over the rows above
module _ (rows : List Row) (tree : IsTree rows) where
  pub climb_above : (P : ℕ → Type 0) → ((r : ℕ) → r < length rows → ((a : Above) → above rows r ≡ Some a → P a.row) → P r) → (r : ℕ) → r < length rows → P r
  climb_above P step r within = induct rows (above rows) (parent_leads rows) (λ r a w e. tree.parents r a w e) P step (length rows) r within (tree.leads r within)

  module _ (measures : ℕ → Bool) where
    pub measuring_is : (r : ℕ) → r < length rows → measuring_parent rows measures r ≡ measuring_step measures (measuring_parent rows measures) (above rows r)
    unfolding measuring_within
    measuring_is r within =
        at rows (above rows) (parent_leads rows) (Option Above) (measuring_within rows measures) (λ r g o. measuring_step measures g o)
        (λ n r. refl) (λ r g h. refl) (λ r g h a e. ap (λ x. if measures a.row then Some a else x) e) (length rows) r (tree.leads r within)

    pub passed_is : (number : ℕ → ℕ) (r : ℕ) → r < length rows
        → passed_within rows measures number (length rows) r ≡ passed_step measures number (passed_within rows measures number (length rows)) (above rows r)
    unfolding passed_within
    passed_is number r within =
        at rows (above rows) (parent_leads rows) ℕ (passed_within rows measures number) (λ r g o. passed_step measures number g o)
        (λ n r. refl) (λ r g h. refl) (λ r g h a e. ap (λ x. if measures a.row then 0 else number a.row + x) e) (length rows) r (tree.leads r within)

    pub measured_is : (r : ℕ) → r < length rows → is_measurable rows measures r ≡ is_measured_step measures (branches rows) (is_measurable rows measures) (above rows r)
    unfolding is_measured_within
    measured_is r within =
        at rows (above rows) (parent_leads rows) Bool (is_measured_within rows measures) (λ r g o. is_measured_step measures (branches rows) g o)
        (λ n r. refl) (λ r g h. refl) (λ r g h a e. ap (λ x. measures a.row || (not (branches rows a.row) && x)) e) (length rows) r (tree.leads r within)

    -- and over the measuring slaves above
    lower : (s r : ℕ) (a : Above) → measuring_parent rows measures r ≡ Some a → LeadsToRoot rows (suc s) r → LeadsToRoot rows s a.row
    lower = lower_measuring rows measures (length rows)

    pub climb_measuring : (P : ℕ → Type 0) → ((r : ℕ) → r < length rows → ((a : Above) → measuring_parent rows measures r ≡ Some a → P a.row) → P r) → (r : ℕ) → r < length rows → P r
    climb_measuring P step r within =
        induct rows (measuring_parent rows measures) lower (λ r a w e. parent_within rows measures tree (length rows) r a w e) P step (length rows) r within (tree.leads r within)

    pub hops_is : (c r : ℕ) → r < length rows → hops_within rows measures c (length rows) r
        ≡ (if nat_eq r c then 0 else hops_step rows (hops_within rows measures c (length rows)) (measuring_parent rows measures r))
    unfolding hops_within
    hops_is c r within =
        at rows (measuring_parent rows measures) lower ℕ (hops_within rows measures c) (λ r g o. if nat_eq r c then 0 else hops_step rows g o)
        (λ n r. refl) (λ r g h. refl) (λ r g h a e. ap (λ x. if nat_eq r c then 0 else hop_weight rows a + x) e) (length rows) r (tree.leads r within)

    pub over_is : (c r : ℕ) → r < length rows → is_over rows measures c r
        ≡ (nat_eq r c || is_over_step (is_over rows measures c) (measuring_parent rows measures r))
    unfolding is_over_within
    over_is c r within =
        at rows (measuring_parent rows measures) lower Bool (is_over_within rows measures c) (λ r g o. nat_eq r c || is_over_step g o)
        (λ n r. refl) (λ r g h. refl) (λ r g h a e. ap (λ x. nat_eq r c || x) e) (length rows) r (tree.leads r within)

    pub meeting_is : (reference r : ℕ) → r < length rows → meeting_within rows measures reference (length rows) r
        ≡ (if is_over rows measures r reference then r else meeting_step r (meeting_within rows measures reference (length rows)) (measuring_parent rows measures r))
    unfolding meeting_within
    meeting_is reference r within =
        at rows (measuring_parent rows measures) lower ℕ (meeting_within rows measures reference) (λ r g o. if is_over rows measures r reference then r else meeting_step r g o)
        (λ n r. refl) (λ r g h. refl) (λ r g h a e. ap (λ x. if is_over rows measures r reference then r else x) e) (length rows) r (tree.leads r within)

    pub summed_is : (number : Above → ℕ → ℕ) (r : ℕ) → r < length rows → summed_within rows measures number (length rows) r
        ≡ summed_step number r (summed_within rows measures number (length rows)) (measuring_parent rows measures r)
    unfolding summed_within
    summed_is number r within =
        at rows (measuring_parent rows measures) lower ℕ (summed_within rows measures number) (λ r g o. summed_step number r g o)
        (λ n r. refl) (λ r g h. refl) (λ r g h a e. ap (λ x. x + number a r) e) (length rows) r (tree.leads r within)
