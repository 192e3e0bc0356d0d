-- Hops: from one connected port of a slave to the next.
use Rattle.std.proofs.Common.{◌≡◌, ℕ, ◌+◌, ◌*◌, ◌<◌, ◌≤◌, Option, Some, None, List, length, false, refl, arith, ap, sym, ◌∙◌}
use Rattle.std.proofs.lemmas.Bool.{false≢true}
use Rattle.std.proofs.lemmas.List.Elements.{All-get_or}
use Rattle.std.specs.List.{All}
use Rattle.cable_tree.specs.declared.port.Port.{Port}
use Rattle.cable_tree.specs.declared.port.Port.TheVariants.{P1, P2, P3}
use Rattle.cable_tree.specs.Row.{Row, IsRow, no_row, tp, tf, cable}
use Rattle.cable_tree.specs.Segment.{IsTree}
use Rattle.cable_tree.specs.FrameOrder.{child, is_port}
use Rattle.cable_tree.specs.PathSums.{span, arrive, detour, detour_to, earlier, port_time, back_from}
use Rattle.cable_tree.specs.Hops.{or_before, previous, last_port, lap, lap_to, lap_before, forwarding}
use Rattle.cable_tree.proofs.Children.{port_same}
use Rattle.cable_tree.proofs.Levels.{span_is, arrive_at_child}

module _ (rows : List Row) (r : ℕ) where
  lap_some : (p : Port) (k : ℕ) → child rows r p ≡ Some k → lap rows r p ≡ tp rows r + earlier rows r p + 2 * cable rows k + span rows k
  lap_some p k e = ap (lap_to rows r (earlier rows r p)) e

  detour_is : (p : Port) (o : Option ℕ) → child rows r p ≡ o → detour rows r p ≡ detour_to rows (span rows) r o
  detour_is p o e = ap (detour_to rows (span rows) r) e

  abbrev reaches : Option Port → ℕ → Type 0
  reaches o start = lap_before rows r o + forwarding rows r o ≡ tp rows r + start

  -- past port p, if it is connected, and else where the frame was before
  past : (p : Port) (o : Option ℕ) (before : Option Port) → child rows r p ≡ o → reaches before (earlier rows r p) → reaches (or_before p o before) (earlier rows r p + detour rows r p)
  past p None before e h = let none = detour_is p None e in omega arith
  past p (Some k) before e h = let some = detour_is p (Some k) e in let there = lap_some p k e in omega arith

  reached_first : reaches (or_before P3 (child rows r P3) None) (detour rows r P3)
  reached_first = let step = past P3 (child rows r P3) None refl (omega arith) in omega arith

  reached_second : reaches (previous rows r P2) (detour rows r P3 + detour rows r P1)
  reached_second = past P1 (child rows r P1) (or_before P3 (child rows r P3) None) refl reached_first

  -- the frame leaves by port p after the lap before it and the forwarding
  reached : (p : Port) → reaches (previous rows r p) (earlier rows r p)
  reached P3 = omega arith
  reached P1 = reached_first
  reached P2 = reached_second

  differ : (q p : Port) → is_port q p ≡ false → q ≡ p → ⊥
  differ q p other same = false≢true (sym other ∙ ap (is_port q) (sym same) ∙ port_same q)

  unused : (q p : Port) → is_port q p ≡ false → ((q : Port) (j : ℕ) → child rows r q ≡ Some j → q ≡ p) → (o : Option ℕ) → child rows r q ≡ o → detour rows r q ≡ 0
  unused q p other only None e = detour_is q None e
  unused q p other only (Some j) e = absurd (differ q p other (only q j e))

  -- a lap is the one before, the forwarding, the cable both ways and the child's subtree
  pub lap_is : (p : Port) (k : ℕ) → child rows r p ≡ Some k →
      lap rows r p ≡ lap_before rows r (previous rows r p) + forwarding rows r (previous rows r p) + 2 * cable rows k + span rows k
  lap_is p k e = let there = lap_some p k e in let start = reached p in omega arith

  module _ (tree : IsTree rows) where
    -- the child is met after the lap before, the forwarding and the cable
    pub arrive_of : (p : Port) (k : ℕ) → child rows r p ≡ Some k →
        arrive rows k ≡ arrive rows r + lap_before rows r (previous rows r p) + forwarding rows r (previous rows r p) + cable rows k
    arrive_of p k e = let is = arrive_at_child rows tree r p k e in let start = reached p in omega arith

    -- the lap ends at the port time
    pub port_time_of : (p : Port) (k : ℕ) → child rows r p ≡ Some k → port_time rows r p ≡ Some (arrive rows r + lap rows r p)
    port_time_of p k e =
        let is = arrive_at_child rows tree r p k e in
        let there = lap_some p k e in
        let same : arrive rows k + span rows k + cable rows k ≡ arrive rows r + lap rows r p = omega arith in
        ap (back_from rows) e ∙ ap Some same

    -- a slave is left tF after its last lap
    pub span_of_laps : (q : Port) → r < length rows → last_port rows r ≡ Some q → span rows r ≡ lap rows r q + tf rows r
    span_of_laps q within last =
        let is = span_is rows tree r within in
        let end = past P2 (child rows r P2) (previous rows r P2) refl reached_second in
        let lap-last = ap (lap_before rows r) last in
        let tf-last = ap (forwarding rows r) last in
        omega arith

    -- the two laps at a port, in place of the child's arrival and span
    pub hop_place : (p : Port) (k : ℕ) → child rows r p ≡ Some k →
        2 * arrive rows k + span rows k ≡ 2 * arrive rows r + lap_before rows r (previous rows r p) + forwarding rows r (previous rows r p) + lap rows r p
    hop_place p k e = let a = lap_is p k e in let b = arrive_of p k e in omega arith

    -- what passing a slave changes, where the child at port p is the only one
    pub pass_step : (p : Port) (k : ℕ) → r < length rows → child rows r p ≡ Some k → ((q : Port) (j : ℕ) → child rows r q ≡ Some j → q ≡ p) →
        2 * arrive rows k + span rows k + tf rows r ≡ 2 * arrive rows r + tp rows r + span rows r
    pass_step P3 k within e only =
        let is = span_is rows tree r within in
        let there = arrive_at_child rows tree r P3 k e in
        let this = detour_is P3 (Some k) e in
        let one = unused P1 P3 refl only (child rows r P1) refl in
        let two = unused P2 P3 refl only (child rows r P2) refl in
        omega arith
    pass_step P1 k within e only =
        let is = span_is rows tree r within in
        let there = arrive_at_child rows tree r P1 k e in
        let this = detour_is P1 (Some k) e in
        let three = unused P3 P1 refl only (child rows r P3) refl in
        let two = unused P2 P1 refl only (child rows r P2) refl in
        omega arith
    pass_step P2 k within e only =
        let is = span_is rows tree r within in
        let there = arrive_at_child rows tree r P2 k e in
        let this = detour_is P2 (Some k) e in
        let three = unused P3 P2 refl only (child rows r P3) refl in
        let one = unused P1 P2 refl only (child rows r P1) refl in
        omega arith

    module _ (slaves : All IsRow rows) where
      forwards : (o : Option Port) → r < length rows → 1 ≤ forwarding rows r o
      forwards None within = let row = All-get_or IsRow rows r no_row within slaves in let some = row.tp_some in omega arith
      forwards (Some q) within = let row = All-get_or IsRow rows r no_row within slaves in let some = row.tf_some in omega arith

      -- a lap is longer than the one before
      pub laps_rise : (p : Port) (k : ℕ) → r < length rows → child rows r p ≡ Some k → lap_before rows r (previous rows r p) < lap rows r p
      laps_rise p k within e = let is = lap_is p k e in let some = forwards (previous rows r p) within in omega arith
