-- Steps towards the root: to the parent, and to the measuring parent.
use Rattle.std.specs.Prelude.{◌≡◌, ℕ, suc, zero, ◌<◌, Bool, true, false, Option, Some, None, MatchOption, List, length}
use Rattle.std.proofs.Common.{refl, sym, ◌∙◌, subst}
use Rattle.cable_tree.specs.declared.port.Above.{Above}
use Rattle.cable_tree.specs.Row.{Row, above}
use Rattle.cable_tree.specs.Segment.{IsTree, LeadsToRoot}
use Rattle.cable_tree.proofs.Exported.{leads_nowhere, parent_leads, some_same}
use Rattle.dc_bounds.specs.Weight.{measuring_step, measuring_within}

all_more : (o : Option Above) (P Q : Above → Type 0) → ((a : Above) → P a → Q a) → MatchOption o (Unit {0}) P → MatchOption o (Unit {0}) Q
all_more None P Q more h = tt
all_more (Some a) P Q more h = more a h

leads_more : (rows : List Row) (s r : ℕ) → LeadsToRoot rows s r → LeadsToRoot rows (suc s) r
unfolding LeadsToRoot
leads_more rows zero r leads = absurd leads
leads_more rows (suc s) r leads = all_more (above rows r) (λ a. LeadsToRoot rows s a.row) (λ a. LeadsToRoot rows (suc s) a.row) (λ a. leads_more rows s a.row) leads

-- what holds of the slave that a search finds above one
module _ (rows : List Row) (measures : ℕ → Bool) (P : ℕ → Above → Type 0)
    (here : (r : ℕ) (b : Above) → above rows r ≡ Some b → measures b.row ≡ true → P r b)
    (later : (r : ℕ) (b a : Above) → above rows r ≡ Some b → measures b.row ≡ false → P b.row a → P r a) where
  at_above : (higher : ℕ → Option Above) (r : ℕ) (a : Above) (o : Option Above) → above rows r ≡ o → ((q : ℕ) → higher q ≡ Some a → P q a)
      → measuring_step measures higher o ≡ Some a → P r a
  at_above higher r a None up more found = absurd cc
  at_above higher r a (Some b) up more found = by (measures b.row) refl
    where
      by : (m : Bool) → measures b.row ≡ m → P r a
      by true e = let same : Some b ≡ Some a = sym (rw e refl) ∙ found in subst (P r) (some_same same) (here r b up e)
      by false e = let there : higher b.row ≡ Some a = sym (rw e refl) ∙ found in later r b a up e (more b.row there)

  pub found_above : (steps r : ℕ) (a : Above) → measuring_within rows measures steps r ≡ Some a → P r a
  unfolding measuring_within
  found_above zero r a found = absurd cc
  found_above (suc steps) r a found = at_above (measuring_within rows measures steps) r a (above rows r) refl (λ q. found_above steps q a) found

-- it measures
pub parent_measures : (rows : List Row) (measures : ℕ → Bool) (steps r : ℕ) (a : Above) → measuring_within rows measures steps r ≡ Some a → measures a.row ≡ true
parent_measures rows measures = found_above rows measures (λ r a. measures a.row ≡ true) (λ r b up e. e) (λ r b a up e h. h)

-- it is a row
pub parent_within : (rows : List Row) (measures : ℕ → Bool) → IsTree rows → (steps r : ℕ) (a : Above) → r < length rows → measuring_within rows measures steps r ≡ Some a → a.row < length rows
parent_within rows measures tree steps r a within found =
    found_above rows measures (λ r a. r < length rows → a.row < length rows)
    (λ r b up e w. tree.parents r b w up)
    (λ r b a up e h w. h (tree.parents r b w up)) steps r a found within

-- and leads to the root in one step less
pub lower_measuring : (rows : List Row) (measures : ℕ → Bool) (steps s r : ℕ) (a : Above) → measuring_within rows measures steps r ≡ Some a → LeadsToRoot rows (suc s) r → LeadsToRoot rows s a.row
lower_measuring rows measures steps s r a found =
    found_above rows measures (λ r a. (s : ℕ) → LeadsToRoot rows (suc s) r → LeadsToRoot rows s a.row)
    (λ r b up e s leads. parent_leads rows s r b up leads)
    (λ r b a up e h s leads. deeper b a h s (parent_leads rows s r b up leads)) steps r a found s
  where
    deeper : (b a : Above) → ((s : ℕ) → LeadsToRoot rows (suc s) b.row → LeadsToRoot rows s a.row) → (s : ℕ) → LeadsToRoot rows s b.row → LeadsToRoot rows s a.row
    deeper b a h zero leads = absurd (leads_nowhere rows b.row leads)
    deeper b a h (suc s) leads = leads_more rows s a.row (h s leads)
