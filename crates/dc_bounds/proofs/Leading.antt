-- One step up from a slave that is to be measured, and one step on in the frame order.
use Rattle.std.specs.Prelude.{◌≡◌, ℕ, zero, suc, ◌+◌, ◌-◌, ◌<◌, ◌≤◌, Bool, true, false, not, ◌&&◌, if◌then◌else◌, Option, Some, None, List, drop, filter}
use Rattle.std.specs.List.{find}
use Rattle.std.proofs.Common.{arith, refl, ◌∙◌}
use Rattle.cable_tree.specs.declared.port.Above.{Above}
use Rattle.cable_tree.specs.Row.{Row, above}
use Rattle.dc_bounds.specs.Measurable.{branches, is_measured_step, is_measured_within, is_measurable}

measured_next : (rows : List Row) (measures : ℕ → Bool) (n k r : ℕ) → k < n
    → is_measured_within rows measures (n - k) r ≡ is_measured_step measures (branches rows) (is_measured_within rows measures (n - (k + 1))) (above rows r)
unfolding is_measured_within
measured_next rows measures n k r h = let e : n - k ≡ suc (n - (k + 1)) = omega arith in rw e refl

pub leads_nowhere : (rows : List Row) (measures : ℕ → Bool) (n k r : ℕ) → n ≤ k → is_measured_within rows measures (n - k) r ≡ false
unfolding is_measured_within
leads_nowhere rows measures n k r h = let e : n - k ≡ 0 = omega arith in rw e refl

pub leads_past_the_root : (rows : List Row) (measures : ℕ → Bool) (n k r : ℕ) → k < n → above rows r ≡ None → is_measured_within rows measures (n - k) r ≡ false
leads_past_the_root rows measures n k r h root = measured_next rows measures n k r h ∙ rw root refl

pub leads_to_one : (rows : List Row) (measures : ℕ → Bool) (n k r : ℕ) (a : Above) → k < n → above rows r ≡ Some a → measures a.row ≡ true
    → is_measured_within rows measures (n - k) r ≡ true
leads_to_one rows measures n k r a h up measured = measured_next rows measures n k r h ∙ rw (up, measured) refl

pub leads_to_a_branch : (rows : List Row) (measures : ℕ → Bool) (n k r : ℕ) (a : Above) → k < n → above rows r ≡ Some a → measures a.row ≡ false
    → branches rows a.row ≡ true → is_measured_within rows measures (n - k) r ≡ false
leads_to_a_branch rows measures n k r a h up passed many = measured_next rows measures n k r h ∙ rw (up, passed, many) refl

pub leads_on : (rows : List Row) (measures : ℕ → Bool) (n k r : ℕ) (a : Above) → k < n → above rows r ≡ Some a → measures a.row ≡ false
    → branches rows a.row ≡ false → is_measured_within rows measures (n - k) r ≡ is_measured_within rows measures (n - (k + 1)) a.row
leads_on rows measures n k r a h up passed few = measured_next rows measures n k r h ∙ rw (up, passed, few) refl

-- a slave that is not there ends the way
not_there : (b m : Bool) → m ≡ false → (not b && m) ≡ false
not_there true m e = refl
not_there false m e = e

nowhere : (rows : List Row) (measures : ℕ → Bool) (left r : ℕ) → above rows r ≡ None → is_measured_within rows measures left r ≡ false
unfolding is_measured_within
nowhere rows measures zero r astray = refl
nowhere rows measures (suc left) r astray = rw astray refl

pub leads_astray : (rows : List Row) (measures : ℕ → Bool) (n k r : ℕ) (a : Above) → k < n → above rows r ≡ Some a → measures a.row ≡ false → above rows a.row ≡ None
    → is_measured_within rows measures (n - k) r ≡ false
leads_astray rows measures n k r a h up passed astray =
    measured_next rows measures n k r h ∙ rw (up, passed) (not_there (branches rows a.row) _ (nowhere rows measures (n - (k + 1)) a.row astray))

-- the first one that is bad among those that measure from place i on, or behind the first of these
abbrev pub first_bad : (ℕ → Bool) → (ℕ → Bool) → Bool → List ℕ → Option ℕ
first_bad measures bad is_first rows = find bad (drop (if is_first then 1 else 0) (filter measures rows))

abbrev pub cannot : List Row → (ℕ → Bool) → ℕ → Bool
cannot rows measures r = not (is_measurable rows measures r)
