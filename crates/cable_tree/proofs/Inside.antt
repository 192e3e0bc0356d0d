-- What a frame does between two visits of one slave lies within the round trip.
use Rattle.std.specs.Prelude.{◌≡◌, ℕ, ◌+◌, ◌<◌, ◌≤◌, Option, Some, None, List, length}
use Rattle.std.specs.List.{All}
use Rattle.std.proofs.Common.{arith, refl, sym, ap, ◌∙◌}
use Rattle.cable_tree.specs.declared.port.Port.{Port}
use Rattle.cable_tree.specs.declared.port.Port.TheVariants.{P1, P2, P3}
use Rattle.cable_tree.specs.Row.{Row, IsRow, cable, tf}
use Rattle.cable_tree.specs.Segment.{IsTree}
use Rattle.cable_tree.specs.FrameOrder.{child, root}
use Rattle.cable_tree.specs.PathSums.{arrive, back_from, detour_to, earlier, port_time, round_trip, span}
use Rattle.cable_tree.specs.Hops.{lap, lap_to}
use Rattle.cable_tree.proofs.Laps.{port_time_of}
use Rattle.cable_tree.proofs.Levels.{none_some, some_same, span_is}
use Rattle.cable_tree.proofs.Members.{inside}

module _ (rows : List Row) (tree : IsTree rows) where
  -- a lap, and the forwarding after it, are a part of the span
  pub lap_spans : (r : ℕ) (p : Port) (k : ℕ) → r < length rows → child rows r p ≡ Some k → lap rows r p + tf rows r ≤ span rows r
  lap_spans r P3 k within e =
      let is = span_is rows tree r within in
      let this = ap (lap_to rows r (earlier rows r P3)) e in
      let way = ap (detour_to rows (span rows) r) e in
      omega (arith, is, this, way)
  lap_spans r P1 k within e =
      let is = span_is rows tree r within in
      let this = ap (lap_to rows r (earlier rows r P1)) e in
      let way = ap (detour_to rows (span rows) r) e in
      omega (arith, is, this, way)
  lap_spans r P2 k within e =
      let is = span_is rows tree r within in
      let this = ap (lap_to rows r (earlier rows r P2)) e in
      let way = ap (detour_to rows (span rows) r) e in
      omega (arith, is, this, way)

  module _ (slaves : All IsRow rows) where
    pub lap_inside : (r : ℕ) (p : Port) (k : ℕ) → r < length rows → child rows r p ≡ Some k
        → arrive rows r + lap rows r p + tf rows r + cable rows (root rows) ≤ round_trip rows
    lap_inside r p k within e =
        let part = lap_spans r p k within e in
        let all = inside rows tree slaves r within in
        omega (arith, part, all)

    at_port : (r : ℕ) (p : Port) (o : Option ℕ) → child rows r p ≡ o → r < length rows → (t : ℕ) → port_time rows r p ≡ Some t
        → (arrive rows r ≤ t) × (t + tf rows r + cable rows (root rows) ≤ round_trip rows)
    at_port r p None e within t is = absurd (none_some t (sym (ap (back_from rows) e) ∙ is))
    at_port r p (Some k) e within t is =
        let same : arrive rows r + lap rows r p ≡ t = some_same (sym (port_time_of rows r tree p k e) ∙ is) in
        let all = lap_inside r p k within e in
        (omega (arith, same), omega (arith, same, all))

    -- a port time is at or after the arrival, and before the frame leaves the slave
    pub port_time_inside : (r : ℕ) (p : Port) → r < length rows → (t : ℕ) → port_time rows r p ≡ Some t
        → (arrive rows r ≤ t) × (t + tf rows r + cable rows (root rows) ≤ round_trip rows)
    port_time_inside r p within t is = at_port r p (child rows r p) refl within t is
