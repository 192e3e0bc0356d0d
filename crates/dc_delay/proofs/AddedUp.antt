-- The doubled hops from one measuring slave down to another, one hop at a time.
use Rattle.std.specs.Prelude.{◌≡◌, ℕ, ◌+◌, ◌*◌, ◌<◌, ◌≤◌, Bool, true, false, nat_eq, if◌then◌else◌, Option, Some, None, List, length}
use Rattle.std.proofs.Common.{arith, rules, refl, sym, ap, ◌∙◌}
use Rattle.std.proofs.lemmas.Bool.{false≢true, eqb-true}
use Rattle.std.proofs.lemmas.Bool.Decides.{nat_tests}
use Rattle.cable_tree.specs.declared.port.Above.{Above}
use Rattle.cable_tree.specs.declared.port.Port.{Port}
use Rattle.cable_tree.specs.Row.{Row}
use Rattle.cable_tree.specs.Segment.{IsTree}
use Rattle.cable_tree.specs.PathSums.{arrive, span}
use Rattle.cable_tree.specs.Hops.{previous, last_port, lap, lap_before, forwarding}
use Rattle.dc_bounds.specs.TickFacts.{IsNear}
use Rattle.dc_bounds.specs.Weight.{measuring_parent, hop_weight, hops_within, is_leaf, is_over, weight_below}
use Rattle.dc_delay.specs.ShapeRows.{tp_ns, tf_ns}
use Rattle.dc_delay.specs.MeasuredDelay.{ahead, back, hop_ahead, hop_back, latched_before, forwarding_ns, passed, summed_step, turn}
use Rattle.dc_delay.specs.LatchLaw.{AreAllLatched, AreMeasurable}
use Rattle.dc_bounds.proofs.Exported.{parent_measures, parent_within}
use Rattle.dc_delay.proofs.Recursions.{climb_measuring, hops_is, over_is, summed_is}
use Rattle.dc_delay.proofs.TrueHops.{port_used, hopped}
use Rattle.dc_delay.proofs.HopErrors.{hop_error, turn_near, turned, spanned, near_same}

-- one hop in plain numbers: from A, with the sums `up` and `down` relative to C, the budget u and the start c, to B
one_hop : (u w up down c aA sA llast tlast lq lp tq tp x tps tfs sB aB spanB tf spanA : ℕ)
    → IsNear (1000000 * (up + sA) + 2 * c) (1000000 * down + 2 * aA + spanA) u
    → sA ≡ llast + tf → spanA ≡ tlast + 1000000 * tf
    → IsNear (1000000 * (lq + lp) + tlast) (1000000 * llast + tq + tp) w
    → 2 * aB + spanB + 1000000 * tfs ≡ 2 * aA + tq + 1000000 * x + tp + 1000000 * tps
    → IsNear (1000000 * (up + (lq + lp + x + tps) + sB) + 2 * c) (1000000 * (down + (tfs + sB)) + 2 * aB + spanB) (u + w)
one_hop u w up down c aA sA llast tlast lq lp tq tp x tps tfs sB aB spanB tf spanA near s span error true' = record {
  above = omega (arith, near.above, error.above, s, span, true');
  below = omega (arith, near.below, error.below, s, span, true');
}

forwarded : (rows : List Row) (r : ℕ) (o : Option Port) → forwarding rows r o ≡ 1000000 * forwarding_ns rows r o
forwarded rows r None = refl
forwarded rows r (Some q) = refl

module _ (rows : List Row) (tree : IsTree rows) (measures : ℕ → Bool) (laps : ℕ → Port → ℕ) (g : ℕ) (latched : AreAllLatched rows measures g laps) (measurable : AreMeasurable rows measures) (c : ℕ) where
  abbrev hops : ℕ → ℕ
  hops r = hops_within rows measures c (length rows) r

  abbrev IsAdded : ℕ → Type 0
  IsAdded r =
      IsNear (1000000 * (ahead rows measures laps r + turn rows laps r + back rows measures laps c) + 2 * arrive rows c)
      (1000000 * (back rows measures laps r + ahead rows measures laps c) + 2 * arrive rows r + span rows r)
      ((1 + hops r) * g)

  abbrev IsAddedUp : ℕ → Type 0
  IsAddedUp r = measures r ≡ true → is_over rows measures c r ≡ true → IsAdded r

  start : (r : ℕ) → r < length rows → measures r ≡ true → r ≡ c → IsAdded r
  start r within measured same =
      let n = turn_near rows r laps g tree within (latched r within measured) in
      let none : hops r ≡ 0 = hops_is rows tree measures c r within ∙ (let here : nat_eq r c ≡ true = search (rules, nat_tests) in rw here refl) in
      let a = ap (arrive rows) same in
      let p = ap (ahead rows measures laps) same in
      let q = ap (back rows measures laps) same in
      let most = leaf_most (is_leaf rows r) g in
      let w : (1 + hops r) * g ≡ g = rw none (omega arith) in
      record { above = omega (arith, n.above, a, p, q, w, most); below = omega (arith, n.below, a, p, q, w, most) }
    where
      leaf_most : (leaf : Bool) (g : ℕ) → (if leaf then 0 else 1) * g ≤ g
      leaf_most true g = omega arith
      leaf_most false g = omega arith

  next : (r : ℕ) (a : Above) → r < length rows → measures r ≡ true → nat_eq r c ≡ false → measuring_parent rows measures r ≡ Some a → IsAdded a.row → IsAdded r
  next r a within measured away up near =
      let inside = parent_within rows measures tree (length rows) r a within up in
      let used = port_used rows tree measures r within a up in
      let latches = latched a.row inside (parent_measures rows measures (length rows) r a up) in
      let before = previous rows a.row a.port in
      let last = last_port rows a.row in
      let weight = hop_weight rows a * g in
      let budget = (1 + hops a.row) * g in
      let hop = hopped rows tree measures r within a up (measurable r a within measured up) in
      let x = forwarded rows a.row before in
      let error = hop_error rows a.row laps g latches a.port used.0 used.1 in
      let go = one_hop budget weight (ahead rows measures laps a.row + back rows measures laps c) (back rows measures laps a.row + ahead rows measures laps c) (arrive rows c) (arrive rows a.row)
      (turn rows laps a.row) (latched_before laps a.row last) (lap_before rows a.row last) (latched_before laps a.row before) (laps a.row a.port)
      (lap_before rows a.row before) (lap rows a.row a.port) (forwarding_ns rows a.row before) (passed rows measures (tp_ns rows) r) (passed rows measures (tf_ns rows) r)
      (turn rows laps r) (arrive rows r) (span rows r) (tf_ns rows a.row) (span rows a.row)
      (record { above = omega (arith, near.above); below = omega (arith, near.below) })
      (turned rows a.row laps a.port used.0 used.1)
      (spanned rows a.row tree inside a.port used.0 used.1)
      error
      (omega (arith, hop, x)) in
      let sum = summed_is rows tree measures (hop_ahead rows measures laps) r within ∙ ap (summed_step (hop_ahead rows measures laps) r (ahead rows measures laps)) up in
      let taken = summed_is rows tree measures (hop_back rows measures laps) r within ∙ ap (summed_step (hop_back rows measures laps) r (back rows measures laps)) up in
      let more : hops r ≡ hop_weight rows a + hops a.row = hops_is rows tree measures c r within ∙ rw (away, up) refl in
      let w : (1 + hops r) * g ≡ budget + weight = rw more (omega arith) in
      record { above = omega (arith, go.above, sum, taken, w); below = omega (arith, go.below, sum, taken, w) }

  up_to : (r : ℕ) → r < length rows → (o : Option Above) → measuring_parent rows measures r ≡ o → ((a : Above) → measuring_parent rows measures r ≡ Some a → IsAddedUp a.row)
      → (same : Bool) → nat_eq r c ≡ same → IsAddedUp r
  up_to r within o up higher true same = λ measured over. start r within measured (eqb-true r c same)
  up_to r within None up higher false away = λ measured over.
      let none : is_over rows measures c r ≡ false = over_is rows tree measures c r within ∙ rw (away, up) refl in
      absurd (false≢true (sym none ∙ over))
  up_to r within (Some a) up higher false away = λ measured over.
      let rest : is_over rows measures c r ≡ is_over rows measures c a.row = over_is rows tree measures c r within ∙ rw (away, up) refl in
      next r a within measured away up (higher a up (parent_measures rows measures (length rows) r a up) (sym rest ∙ over))

  -- with S of the last one
  pub added_up : (r : ℕ) → r < length rows → IsAddedUp r
  added_up = climb_measuring rows tree measures IsAddedUp (λ r within higher. up_to r within (measuring_parent rows measures r) refl higher (nat_eq r c) refl)

  -- and without
  pub weighed : (r : ℕ) → r < length rows → measures r ≡ true → is_over rows measures c r ≡ true
      → IsNear (1000000 * (ahead rows measures laps r + back rows measures laps c) + 2 * arrive rows c)
      (1000000 * (back rows measures laps r + ahead rows measures laps c) + 2 * arrive rows r)
      (weight_below rows measures c r * g)
  weighed r within measured over = by (nat_eq r c) refl
    where
      by : (same : Bool) → nat_eq r c ≡ same
          → IsNear (1000000 * (ahead rows measures laps r + back rows measures laps c) + 2 * arrive rows c)
          (1000000 * (back rows measures laps r + ahead rows measures laps c) + 2 * arrive rows r)
          (weight_below rows measures c r * g)
      by true same =
          let e = eqb-true r c same in
          let a = ap (arrive rows) e in
          let p = ap (ahead rows measures laps) e in
          let q = ap (back rows measures laps) e in
          near_same _ _ (omega (arith, a, p, q)) (weight_below rows measures c r * g)
      by false away =
          let n = added_up r within measured over in
          let s = turn_near rows r laps g tree within (latched r within measured) in
          let leaf = (if is_leaf rows r then 0 else 1) * g in
          let w : weight_below rows measures c r * g ≡ (1 + hops r) * g + leaf = rw away (omega arith) in
          record { above = omega (arith, n.above, s.below, w); below = omega (arith, n.below, s.above, w) }
