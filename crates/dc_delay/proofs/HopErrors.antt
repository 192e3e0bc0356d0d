-- How far the latched times of one slave are from the true ones: over a hop, and over its whole span.
use Rattle.std.specs.Prelude.{◌≡◌, ℕ, ◌+◌, ◌*◌, ◌<◌, Bool, false, ◌||◌, not, if◌then◌else◌, Option, Some, None, List, length}
use Rattle.std.specs.Option.{is_some}
use Rattle.std.proofs.Common.{arith, refl, sym, ap, ◌∙◌}
use Rattle.cable_tree.specs.declared.port.Port.{Port}
use Rattle.cable_tree.specs.declared.port.Port.TheVariants.{P1, P2, P3}
use Rattle.cable_tree.specs.Row.{Row, tp, tf}
use Rattle.cable_tree.specs.Segment.{IsTree}
use Rattle.cable_tree.specs.FrameOrder.{child}
use Rattle.cable_tree.specs.PathSums.{span, detour_to}
use Rattle.cable_tree.specs.Hops.{or_before, previous, last_port, lap, lap_before}
use Rattle.cable_tree.proofs.Exported.{span_of_laps, span_is, none_some}
use Rattle.dc_bounds.specs.TickFacts.{IsNear}
use Rattle.dc_bounds.specs.Weight.{hop_weight, is_leaf}
use Rattle.dc_delay.specs.ShapeRows.{tf_ns}
use Rattle.dc_delay.specs.MeasuredDelay.{latched_before, turn, turn_by}
use Rattle.dc_delay.specs.LatchLaw.{AreLatched}

-- three ports
abbrev at_port : Option ℕ → Option ℕ → Option ℕ → Port → Option ℕ
at_port three one two P3 = three
at_port three one two P1 = one
at_port three one two P2 = two

abbrev before_of : Option ℕ → Option ℕ → Port → Option Port
before_of three one P3 = None
before_of three one P1 = or_before P3 three None
before_of three one P2 = or_before P1 one (or_before P3 three None)

abbrev last_of : Option ℕ → Option ℕ → Option ℕ → Option Port
last_of three one two = or_before P2 two (before_of three one P2)

-- a number of the port, 0 where there is none
abbrev or_none : (Port → ℕ) → Option Port → ℕ
or_none f None = 0
or_none f (Some q) = f q

abbrev one_of : Bool → ℕ
one_of b = if b then 1 else 0

abbrev earlier_of : Option ℕ → Option ℕ → Port → Bool
earlier_of three one P3 = false
earlier_of three one P1 = is_some three
earlier_of three one P2 = is_some three || is_some one

abbrev later_of : Option ℕ → Option ℕ → Port → Bool
later_of one two P3 = is_some one || is_some two
later_of one two P1 = is_some two
later_of one two P2 = false

pub near_same : (a b : ℕ) → a ≡ b → (w : ℕ) → IsNear a b w
near_same a b e w = record { above = omega arith; below = omega arith }

-- the ports one by one, by which of the three are connected
hop_near : (L t : Port → ℕ) (g : ℕ) (three one two : Option ℕ)
    → ((p : Port) (j : ℕ) → at_port three one two p ≡ Some j → IsNear (1000000 * L p) (t p) g)
    → ((p q : Port) (j k : ℕ) → at_port three one two p ≡ Some j → at_port three one two q ≡ Some k → IsNear (1000000 * L p + t q) (1000000 * L q + t p) g)
    → (p : Port) (j : ℕ) → at_port three one two p ≡ Some j
    → IsNear (1000000 * (or_none L (before_of three one p) + L p) + or_none t (last_of three one two)) (1000000 * or_none L (last_of three one two) + or_none t (before_of three one p) + t p)
    ((one_of (earlier_of three one p) + one_of (later_of one two p)) * g)
hop_near L t g None one two each pairs P3 j e = absurd (none_some j e)
hop_near L t g three None two each pairs P1 j e = absurd (none_some j e)
hop_near L t g three one None each pairs P2 j e = absurd (none_some j e)
hop_near L t g (Some a) None None each pairs P3 j e = record { above = omega arith; below = omega arith }
hop_near L t g None (Some b) None each pairs P1 j e = record { above = omega arith; below = omega arith }
hop_near L t g None None (Some c) each pairs P2 j e = record { above = omega arith; below = omega arith }
hop_near L t g (Some a) (Some b) None each pairs P3 j e = let n = pairs P3 P1 a b refl refl in record { above = omega (arith, n.above, n.below); below = omega (arith, n.above, n.below) }
hop_near L t g (Some a) None (Some c) each pairs P3 j e = let n = pairs P3 P2 a c refl refl in record { above = omega (arith, n.above, n.below); below = omega (arith, n.above, n.below) }
hop_near L t g (Some a) (Some b) (Some c) each pairs P3 j e = let n = pairs P3 P2 a c refl refl in record { above = omega (arith, n.above, n.below); below = omega (arith, n.above, n.below) }
hop_near L t g (Some a) (Some b) None each pairs P1 j e = let n = each P3 a refl in record { above = omega (arith, n.above, n.below); below = omega (arith, n.above, n.below) }
hop_near L t g None (Some b) (Some c) each pairs P1 j e = let n = pairs P1 P2 b c refl refl in record { above = omega (arith, n.above, n.below); below = omega (arith, n.above, n.below) }
hop_near L t g (Some a) (Some b) (Some c) each pairs P1 j e =
    let n = each P3 a refl in
    let m = pairs P1 P2 b c refl refl in
    record { above = omega (arith, n.above, n.below, m.above, m.below); below = omega (arith, n.above, n.below, m.above, m.below) }
hop_near L t g (Some a) None (Some c) each pairs P2 j e = let n = each P3 a refl in record { above = omega (arith, n.above, n.below); below = omega (arith, n.above, n.below) }
hop_near L t g None (Some b) (Some c) each pairs P2 j e = let n = each P1 b refl in record { above = omega (arith, n.above, n.below); below = omega (arith, n.above, n.below) }
hop_near L t g (Some a) (Some b) (Some c) each pairs P2 j e = let n = each P1 b refl in record { above = omega (arith, n.above, n.below); below = omega (arith, n.above, n.below) }

module _ (rows : List Row) (r : ℕ) where
  abbrev three : Option ℕ
  three = child rows r P3

  abbrev one : Option ℕ
  one = child rows r P1

  abbrev two : Option ℕ
  two = child rows r P2

  at_same : (p : Port) (o : Option ℕ) → at_port three one two p ≡ o → child rows r p ≡ o
  at_same P3 o e = e
  at_same P1 o e = e
  at_same P2 o e = e

  at_other : (p : Port) (o : Option ℕ) → child rows r p ≡ o → at_port three one two p ≡ o
  at_other P3 o e = e
  at_other P1 o e = e
  at_other P2 o e = e

  latched_same : (laps : ℕ → Port → ℕ) (o : Option Port) → latched_before laps r o ≡ or_none (laps r) o
  latched_same laps None = refl
  latched_same laps (Some q) = refl

  lap_same : (o : Option Port) → lap_before rows r o ≡ or_none (lap rows r) o
  lap_same None = refl
  lap_same (Some q) = refl

  before_same : (p : Port) → previous rows r p ≡ before_of three one p
  before_same P3 = refl
  before_same P1 = refl
  before_same P2 = refl

  weight_same : (p : Port) → hop_weight rows (record { row = r; port = p }) ≡ one_of (earlier_of three one p) + one_of (later_of one two p)
  weight_same P3 = refl
  weight_same P1 = refl
  weight_same P2 = refl

  -- the latches of a hop, less that of the last port, by which S was computed
  pub hop_error : (laps : ℕ → Port → ℕ) (g : ℕ) → AreLatched rows g r laps → (p : Port) (j : ℕ) → child rows r p ≡ Some j
      → IsNear (1000000 * (latched_before laps r (previous rows r p) + laps r p) + lap_before rows r (last_port rows r))
      (1000000 * latched_before laps r (last_port rows r) + lap_before rows r (previous rows r p) + lap rows r p)
      (hop_weight rows (record { row = r; port = p }) * g)
  hop_error laps g latches p j e =
      let n = hop_near (laps r) (lap rows r) g three one two
      (λ p j e. latches.each p j (at_same p (Some j) e))
      (λ p q j k e f. latches.pairs p q j k (at_same p (Some j) e) (at_same q (Some k) f))
      p j (at_other p (Some j) e) in
      let before = ap (latched_before laps r) (before_same p) ∙ latched_same laps (before_of three one p) in
      let lap_before' = ap (lap_before rows r) (before_same p) ∙ lap_same (before_of three one p) in
      let last = latched_same laps (last_port rows r) in
      let lap_last = lap_same (last_port rows r) in
      let w = ap (λ w. w * g) (weight_same p) in
      record { above = omega (arith, n.above, before, lap_before', last, lap_last, w); below = omega (arith, n.below, before, lap_before', last, lap_last, w) }

  -- a slave with a child is no leaf
  abbrev IsLast : Option ℕ → Option ℕ → Option ℕ → Port → Type 0
  IsLast a b c q = (last_of a b c ≡ Some q) × ((k : ℕ) × (at_port a b c q ≡ Some k))

  last_some : (a b c : Option ℕ) (p : Port) (j : ℕ) → at_port a b c p ≡ Some j → (q : Port) × IsLast a b c q
  last_some a b (Some z) p j e = (P2, (refl, (z, refl)))
  last_some a (Some y) None p j e = (P1, (refl, (y, refl)))
  last_some (Some x) None None p j e = (P3, (refl, (x, refl)))
  last_some None None None P3 j e = absurd (none_some j e)
  last_some None None None P1 j e = absurd (none_some j e)
  last_some None None None P2 j e = absurd (none_some j e)

  pub turned : (laps : ℕ → Port → ℕ) (p : Port) (j : ℕ) → child rows r p ≡ Some j → turn rows laps r ≡ latched_before laps r (last_port rows r) + tf_ns rows r
  turned laps p j e =
      let last = last_some three one two p j (at_other p (Some j) e) in
      ap (turn_by rows laps r) last.1.0 ∙ ap (λ o. latched_before laps r o + tf_ns rows r) (sym last.1.0)

  pub spanned : IsTree rows → r < length rows → (p : Port) (j : ℕ) → child rows r p ≡ Some j → span rows r ≡ lap_before rows r (last_port rows r) + tf rows r
  spanned tree within p j e =
      let last = last_some three one two p j (at_other p (Some j) e) in
      span_of_laps rows r tree last.0 within last.1.0 ∙ ap (λ o. lap_before rows r o + tf rows r) (sym last.1.0)

  leaf_span : IsTree rows → r < length rows → child rows r P3 ≡ None → child rows r P1 ≡ None → child rows r P2 ≡ None → span rows r ≡ tp rows r
  leaf_span tree within e3 e1 e2 =
      let is = span_is rows tree r within in
      let a = ap (detour_to rows (span rows) r) e3 in
      let b = ap (detour_to rows (span rows) r) e1 in
      let c = ap (detour_to rows (span rows) r) e2 in
      omega (arith, is, a, b, c)

  abbrev IsTurnNear : (ℕ → Port → ℕ) → ℕ → Type 0
  IsTurnNear laps g = IsNear (1000000 * turn rows laps r) (span rows r) ((if is_leaf rows r then 0 else 1) * g)

  leaf_by : (a b c : Option ℕ) → child rows r P3 ≡ a → child rows r P1 ≡ b → child rows r P2 ≡ c → is_leaf rows r ≡ not (is_some a || is_some b || is_some c)
  leaf_by a b c e3 e1 e2 =
      ap (λ o. not (is_some o || is_some one || is_some two)) e3
      ∙ ap (λ o. not (is_some a || is_some o || is_some two)) e1
      ∙ ap (λ o. not (is_some a || is_some b || is_some o)) e2

  turn_leaf : (laps : ℕ → Port → ℕ) (g : ℕ) → IsTree rows → r < length rows → child rows r P3 ≡ None → child rows r P1 ≡ None → child rows r P2 ≡ None → IsTurnNear laps g
  turn_leaf laps g tree within e3 e1 e2 =
      let last : last_port rows r ≡ None = ap (λ o. last_of o one two) e3 ∙ ap (λ o. last_of None o two) e1 ∙ ap (λ o. last_of None None o) e2 in
      let here = ap (turn_by rows laps r) last in
      let is = leaf_span tree within e3 e1 e2 in
      near_same (1000000 * turn rows laps r) (span rows r) (omega (arith, here, is)) ((if is_leaf rows r then 0 else 1) * g)

  turn_other : (laps : ℕ → Port → ℕ) (g : ℕ) → IsTree rows → r < length rows → AreLatched rows g r laps → (p : Port) (j : ℕ) → child rows r p ≡ Some j → is_leaf rows r ≡ false → IsTurnNear laps g
  turn_other laps g tree within latches p j e some =
      let last = last_some three one two p j (at_other p (Some j) e) in
      let here : turn rows laps r ≡ laps r last.0 + tf_ns rows r = ap (turn_by rows laps r) last.1.0 in
      let is = span_of_laps rows r tree last.0 within last.1.0 in
      let n = latches.each last.0 last.1.1.0 (at_same last.0 (Some last.1.1.0) last.1.1.1) in
      let w : (if is_leaf rows r then 0 else 1) * g ≡ g = rw some (omega arith) in
      record { above = omega (arith, n.above, here, is, w); below = omega (arith, n.below, here, is, w) }

  -- S, against the true span: exact at a leaf
  pub turn_near : (laps : ℕ → Port → ℕ) (g : ℕ) → IsTree rows → r < length rows → AreLatched rows g r laps → IsTurnNear laps g
  turn_near laps g tree within latches = by three one two refl refl refl
    where
      by : (a b c : Option ℕ) → child rows r P3 ≡ a → child rows r P1 ≡ b → child rows r P2 ≡ c → IsTurnNear laps g
      by None None None e3 e1 e2 = turn_leaf laps g tree within e3 e1 e2
      by (Some a) b c e3 e1 e2 = turn_other laps g tree within latches P3 a e3 (leaf_by (Some a) b c e3 e1 e2)
      by None (Some b) c e3 e1 e2 = turn_other laps g tree within latches P1 b e1 (leaf_by None (Some b) c e3 e1 e2)
      by None None (Some c) e3 e1 e2 = turn_other laps g tree within latches P2 c e2 (leaf_by None None (Some c) e3 e1 e2)
