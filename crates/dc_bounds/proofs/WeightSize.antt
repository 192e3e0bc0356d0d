-- How large a weight can be.
use Rattle.std.specs.Prelude.{◌≡◌, ℕ, suc, zero, ◌+◌, ◌-◌, ◌*◌, ◌<◌, ◌≤◌, Bool, true, false, nat_eq, if◌then◌else◌, Option, Some, None, List, length}
use Rattle.std.proofs.Common.{arith, refl}
use Rattle.cable_tree.specs.declared.port.Above.{Above}
use Rattle.cable_tree.specs.Row.{Row}
use Rattle.cable_tree.specs.Segment.{IsSegment, IsTree, LeadsToRoot}
use Rattle.cable_tree.proofs.Exported.{leads_nowhere}
use Rattle.dc_bounds.specs.Weight.{measuring_parent, has_earlier, has_later, hop_weight, hops_step, hops_within, is_leaf, weight_below, weight_to, weight, meeting, reference}
use Rattle.dc_bounds.proofs.FirstClock.{reference_within}
use Rattle.dc_bounds.proofs.Upwards.{lower_measuring}

hop_few : (rows : List Row) (a : Above) → hop_weight rows a ≤ 2
hop_few rows a = at_most (has_earlier rows a) (has_later rows a)
  where
    at_most : (p q : Bool) → (if p then 1 else 0) + (if q then 1 else 0) ≤ 2
    at_most true true = omega arith
    at_most true false = omega arith
    at_most false true = omega arith
    at_most false false = omega arith

by_parent : (rows : List Row) (o : Option Above) (here : Bool) (n : ℕ) (higher : ℕ → ℕ) → ((a : Above) → o ≡ Some a → higher a.row + 2 ≤ n)
    → (if here then 0 else hops_step rows higher o) ≤ n
by_parent rows o true n higher low = omega arith
by_parent rows None false n higher low = omega arith
by_parent rows (Some a) false n higher low = let rest = low a refl in let hop = hop_few rows a in omega (arith, rest, hop)

hops_few : (rows : List Row) (measures : ℕ → Bool) (c k s r : ℕ) → LeadsToRoot rows (suc s) r → hops_within rows measures c k r ≤ 2 * s
unfolding hops_within
hops_few rows measures c zero s r leads = omega arith
hops_few rows measures c (suc k) zero r leads =
    by_parent rows (measuring_parent rows measures r) (nat_eq r c) 0 (hops_within rows measures c k)
    (λ a up. absurd (leads_nowhere rows a.row (lower_measuring rows measures (length rows) 0 r a up leads)))
hops_few rows measures c (suc k) (suc s) r leads =
    by_parent rows (measuring_parent rows measures r) (nat_eq r c) (2 * suc s) (hops_within rows measures c k)
    (λ a up. let rest = hops_few rows measures c k s a.row (lower_measuring rows measures (length rows) (suc s) r a up leads) in omega (arith, rest))

below_few : (rows : List Row) (measures : ℕ → Bool) (c r : ℕ) → IsTree rows → length rows ≤ 256 → r < length rows → weight_below rows measures c r ≤ 512
below_few rows measures c r tree few within =
    let again : suc (length rows - 1) ≡ length rows = omega arith in
    let leads : LeadsToRoot rows (suc (length rows - 1)) r = rw again (tree.leads r within) in
    let hops = hops_few rows measures c (length rows) (length rows - 1) r leads in
    at_most (nat_eq r c) (is_leaf rows r) (hops_within rows measures c (length rows) r) (omega (arith, hops, few, within))
  where
    at_most : (same leaf : Bool) (h : ℕ) → h ≤ 510 → (if same then 0 else 1 + h + (if leaf then 0 else 1)) ≤ 512
    at_most true leaf h low = omega arith
    at_most false true h low = omega arith
    at_most false false h low = omega arith

pub way_few : (rows : List Row) (measures : ℕ → Bool) (c r : ℕ) → IsSegment rows → r < length rows → weight_below rows measures c r ≤ 512
way_few rows measures c r segment within = below_few rows measures c r segment.tree segment.few within

pub weight_few : (rows : List Row) (measures timed : ℕ → Bool) (r : ℕ) → IsSegment rows → r < length rows → weight rows measures timed r ≤ 1024
weight_few rows measures timed r segment within = to (reference rows timed) refl
  where
    to : (o : Option ℕ) → reference rows timed ≡ o → weight_to rows measures r o ≤ 1024
    to None e = omega arith
    to (Some q) e =
        let clock = reference_within rows segment.tree segment.slaves timed q e in
        let here = below_few rows measures (meeting rows measures q r) r segment.tree segment.few within in
        let there = below_few rows measures (meeting rows measures q r) q segment.tree segment.few clock in
        omega (arith, here, there)
