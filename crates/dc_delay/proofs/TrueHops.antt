-- The way of the frame from one measuring slave to the next, in true time.
use Rattle.std.specs.Prelude.{◌≡◌, ℕ, ◌+◌, ◌*◌, ◌<◌, Bool, true, false, ◌&&◌, not, nat_le, if◌then◌else◌, Option, Some, None, List, length}
use Rattle.std.specs.Option.{is_some}
use Rattle.std.proofs.Common.{arith, refl, sym, ap, ◌∙◌, subst, subst₂}
use Rattle.std.proofs.lemmas.Bool.{false≢true}
use Rattle.cable_tree.specs.declared.port.Above.{Above}
use Rattle.cable_tree.specs.declared.port.Port.{Port}
use Rattle.cable_tree.specs.declared.port.Port.TheVariants.{P1, P2, P3}
use Rattle.cable_tree.specs.Row.{Row, above}
use Rattle.cable_tree.specs.Segment.{IsTree}
use Rattle.cable_tree.specs.FrameOrder.{child}
use Rattle.cable_tree.specs.PathSums.{arrive, span}
use Rattle.cable_tree.specs.Hops.{previous, lap, lap_before, forwarding}
use Rattle.cable_tree.proofs.Exported.{some_same, child_is, hop_place, pass_step}
use Rattle.dc_bounds.specs.Weight.{is_connected, measuring_step, measuring_parent}
use Rattle.dc_bounds.specs.Measurable.{branches, is_measured_step, is_measurable}
use Rattle.dc_delay.specs.ShapeRows.{tp_ns, tf_ns}
use Rattle.dc_delay.specs.MeasuredDelay.{passed_step, passed}
use Rattle.dc_delay.proofs.Recursions.{climb_above, measuring_is, passed_is, measured_is}

-- at most one of three
abbrev one_of : Bool → ℕ
one_of b = if b then 1 else 0

first_two : (b c : Bool) → nat_le 2 (one_of true + one_of true + one_of b) ≡ false → ⊥
first_two true c h = false≢true (sym h)
first_two false c h = false≢true (sym h)

outer_two : (b c : Bool) → nat_le 2 (one_of true + one_of b + one_of true) ≡ false → ⊥
outer_two true c h = false≢true (sym h)
outer_two false c h = false≢true (sym h)

last_two : (b c : Bool) → nat_le 2 (one_of b + one_of true + one_of true) ≡ false → ⊥
last_two true c h = false≢true (sym h)
last_two false c h = false≢true (sym h)

module _ (rows : List Row) where
  used : (r : ℕ) (p : Port) (k : ℕ) → child rows r p ≡ Some k → is_connected rows r p ≡ true
  used r p k e = ap is_some e

  -- where no more than one hangs, they are the same
  pub only_child : (r : ℕ) (p : Port) (k : ℕ) → branches rows r ≡ false → child rows r p ≡ Some k → (q : Port) (j : ℕ) → child rows r q ≡ Some j → q ≡ p
  only_child r P3 k one e P3 j f = refl
  only_child r P1 k one e P1 j f = refl
  only_child r P2 k one e P2 j f = refl
  only_child r P3 k one e P1 j f =
      absurd (first_two (is_connected rows r P2) true (subst₂ (λ x y. nat_le 2 (one_of x + one_of y + one_of (is_connected rows r P2)) ≡ false) (used r P3 k e) (used r P1 j f) one))
  only_child r P1 k one e P3 j f =
      absurd (first_two (is_connected rows r P2) true (subst₂ (λ x y. nat_le 2 (one_of x + one_of y + one_of (is_connected rows r P2)) ≡ false) (used r P3 j f) (used r P1 k e) one))
  only_child r P3 k one e P2 j f =
      absurd (outer_two (is_connected rows r P1) true (subst₂ (λ x y. nat_le 2 (one_of x + one_of (is_connected rows r P1) + one_of y) ≡ false) (used r P3 k e) (used r P2 j f) one))
  only_child r P2 k one e P3 j f =
      absurd (outer_two (is_connected rows r P1) true (subst₂ (λ x y. nat_le 2 (one_of x + one_of (is_connected rows r P1) + one_of y) ≡ false) (used r P3 j f) (used r P2 k e) one))
  only_child r P1 k one e P2 j f =
      absurd (last_two (is_connected rows r P3) true (subst₂ (λ x y. nat_le 2 (one_of (is_connected rows r P3) + one_of x + one_of y) ≡ false) (used r P1 k e) (used r P2 j f) one))
  only_child r P2 k one e P1 j f =
      absurd (last_two (is_connected rows r P3) true (subst₂ (λ x y. nat_le 2 (one_of (is_connected rows r P3) + one_of x + one_of y) ≡ false) (used r P1 j f) (used r P2 k e) one))

both : (a b : Bool) → (not a && b) ≡ true → (a ≡ false) × (b ≡ true)
both true b h = absurd (false≢true h)
both false b h = (refl, h)

module _ (rows : List Row) (tree : IsTree rows) (measures : ℕ → Bool) where
  -- a slave hangs where the measuring parent is told to have one
  abbrev IsUsed : ℕ → Type 0
  IsUsed r = (a : Above) → measuring_parent rows measures r ≡ Some a → (k : ℕ) × (child rows a.row a.port ≡ Some k)

  used_at : (r : ℕ) → r < length rows → (o : Option Above) → above rows r ≡ o → ((b : Above) → above rows r ≡ Some b → IsUsed b.row) → IsUsed r
  used_at r within None up higher = λ a found. absurd (let none = measuring_is rows tree measures r within ∙ ap (measuring_step measures (measuring_parent rows measures)) up in cc)
  used_at r within (Some b) up higher = by (measures b.row) refl
    where
      by : (m : Bool) → measures b.row ≡ m → IsUsed r
      by true e = λ a found.
          let parent : measuring_parent rows measures r ≡ Some b = measuring_is rows tree measures r within ∙ ap (measuring_step measures (measuring_parent rows measures)) up ∙ rw e refl in
          let same : b ≡ a = some_same (sym parent ∙ found) in
          subst (λ (x : Above). (k : ℕ) × (child rows x.row x.port ≡ Some k)) same (r, child_is rows tree b.row b.port r within up)
      by false e = λ a found.
          let parent : measuring_parent rows measures r ≡ measuring_parent rows measures b.row = measuring_is rows tree measures r within ∙ ap (measuring_step measures (measuring_parent rows measures)) up ∙ rw e refl in
          higher b up a (sym parent ∙ found)

  pub port_used : (r : ℕ) → r < length rows → IsUsed r
  port_used = climb_above rows tree IsUsed (λ r within higher. used_at r within (above rows r) refl higher)

  abbrev IsHop : ℕ → Above → Type 0
  IsHop r a =
      2 * arrive rows r + span rows r + 1000000 * passed rows measures (tf_ns rows) r
      ≡ 2 * arrive rows a.row + lap_before rows a.row (previous rows a.row a.port) + forwarding rows a.row (previous rows a.row a.port) + lap rows a.row a.port
      + 1000000 * passed rows measures (tp_ns rows) r

  abbrev IsHopped : ℕ → Type 0
  IsHopped r = (a : Above) → measuring_parent rows measures r ≡ Some a → is_measurable rows measures r ≡ true → IsHop r a

  passed_by : (number : ℕ → ℕ) (r : ℕ) (o : Option Above) → r < length rows → above rows r ≡ o → passed rows measures number r ≡ passed_step measures number (passed rows measures number) o
  passed_by number r o within up = passed_is rows tree measures number r within ∙ ap (passed_step measures number (passed rows measures number)) up

  hopped_at : (r : ℕ) → r < length rows → (o : Option Above) → above rows r ≡ o → ((b : Above) → above rows r ≡ Some b → IsHopped b.row) → IsHopped r
  hopped_at r within None up higher = λ a found. absurd (let none = measuring_is rows tree measures r within ∙ ap (measuring_step measures (measuring_parent rows measures)) up in cc)
  hopped_at r within (Some b) up higher = by (measures b.row) refl
    where
      by : (m : Bool) → measures b.row ≡ m → IsHopped r
      by true e = λ a found measurable.
          let parent : measuring_parent rows measures r ≡ Some b = measuring_is rows tree measures r within ∙ ap (measuring_step measures (measuring_parent rows measures)) up ∙ rw e refl in
          let same : b ≡ a = some_same (sym parent ∙ found) in
          let tfs : passed rows measures (tf_ns rows) r ≡ 0 = passed_by (tf_ns rows) r (Some b) within up ∙ rw e refl in
          let tps : passed rows measures (tp_ns rows) r ≡ 0 = passed_by (tp_ns rows) r (Some b) within up ∙ rw e refl in
          let place = hop_place rows b.row tree b.port r (child_is rows tree b.row b.port r within up) in
          subst (IsHop r) same (omega (arith, place, tfs, tps))
      by false e = λ a found measurable.
          let parent : measuring_parent rows measures r ≡ measuring_parent rows measures b.row = measuring_is rows tree measures r within ∙ ap (measuring_step measures (measuring_parent rows measures)) up ∙ rw e refl in
          let leads : (not (branches rows b.row) && is_measurable rows measures b.row) ≡ true = sym (measured_is rows tree measures r within ∙ ap (is_measured_step measures (branches rows) (is_measurable rows measures)) up ∙ rw e refl) ∙ measurable in
          let parts = both (branches rows b.row) (is_measurable rows measures b.row) leads in
          let tfs : passed rows measures (tf_ns rows) r ≡ tf_ns rows b.row + passed rows measures (tf_ns rows) b.row = passed_by (tf_ns rows) r (Some b) within up ∙ rw e refl in
          let tps : passed rows measures (tp_ns rows) r ≡ tp_ns rows b.row + passed rows measures (tp_ns rows) b.row = passed_by (tp_ns rows) r (Some b) within up ∙ rw e refl in
          let hangs = child_is rows tree b.row b.port r within up in
          let pass = pass_step rows b.row tree b.port r (tree.parents r b within up) hangs (only_child rows b.row b.port r parts.0 hangs) in
          let rest = higher b up a (sym parent ∙ found) parts.1 in
          omega (arith, pass, rest, tfs, tps)

  -- past every slave between, each with one child
  pub hopped : (r : ℕ) → r < length rows → IsHopped r
  hopped = climb_above rows tree IsHopped (λ r within higher. hopped_at r within (above rows r) refl higher)
