-- What stands at a position, and in which order a frame visits a slave.
use Rattle.std.proofs.Common.{◌≡◌, ℕ, ◌+◌, ◌<◌, ◌≤◌, List, length, Option, Some, None, refl, sym, ap, subst, ◌∙◌, arith}
use Rattle.std.specs.Prelude.{IfSome, slice_get}
use Rattle.std.specs.List.{All}
use Rattle.std.proofs.lemmas.Option.{slice_get_within}
use Rattle.cable_tree.specs.Row.{Row, IsRow}
use Rattle.cable_tree.specs.Segment.{IsTree}
use Rattle.cable_tree.specs.FrameOrder.{child}
use Rattle.cable_tree.specs.Hops.{lap, lap_before, or_before, previous}
use Rattle.cable_tree.specs.PathSums.{arrive, back_from, port_time}
use Rattle.cable_tree.specs.declared.port.Port.{Port}
use Rattle.cable_tree.specs.declared.port.Port.TheVariants.{P1, P2, P3}
use Rattle.cable_tree.proofs.Exported.{laps_rise, port_time_of}
use Rattle.dc_topology.specs.Status.{status_of}
use Rattle.segment_file.specs.Segment.{SegmentValue, row_at, row_of, tree_rows}
use Rattle.segment_file.specs.Legal.{IsLegal}
use Rattle.segment_file.proofs.Exported.{row_within, rows_many}
use Rattle.frame_pass.specs.SlaveState.{Slave}
use Rattle.frame_pass.specs.ReceiveTimes.{AreInTurn, until}
use Rattle.segment_start.specs.Start.{registers_of, slave_of, started_segment, timing_by, visits_of}
use Rattle.segment_start.proofs.Starts.{as_many, stands_at}

module _ (rows : List Row) (tree : IsTree rows) (slaves : All IsRow rows) (r : ℕ) (low : r < length rows) where
  -- the visit before port 1, by the lap before it
  before1 : (o : Option ℕ) → child rows r P3 ≡ o → until (arrive rows r) (port_time rows r P3) ≡ arrive rows r + lap_before rows r (previous rows r P1)
  before1 None e =
      let none : arrive rows r ≡ arrive rows r + 0 = omega arith in
      ap (λ o. until (arrive rows r) (back_from rows o)) e ∙ none ∙ ap (λ o. arrive rows r + lap_before rows r (or_before P3 o None)) (sym e)
  before1 (Some k) e = ap (until (arrive rows r)) (port_time_of rows r tree P3 k e) ∙ ap (λ o. arrive rows r + lap_before rows r (or_before P3 o None)) (sym e)

  -- and the one before port 2
  before2 : (o : Option ℕ) → child rows r P1 ≡ o
      → until (until (arrive rows r) (port_time rows r P3)) (port_time rows r P1) ≡ arrive rows r + lap_before rows r (previous rows r P2)
  before2 None e =
      ap (λ o. until (until (arrive rows r) (port_time rows r P3)) (back_from rows o)) e ∙ before1 (child rows r P3) refl
      ∙ ap (λ o. arrive rows r + lap_before rows r (or_before P1 o (previous rows r P1))) (sym e)
  before2 (Some k) e =
      ap (until (until (arrive rows r) (port_time rows r P3))) (port_time_of rows r tree P1 k e)
      ∙ ap (λ o. arrive rows r + lap_before rows r (or_before P1 o (previous rows r P1))) (sym e)

  later : (p : Port) (before : ℕ) → before ≡ arrive rows r + lap_before rows r (previous rows r p) → (o : Option ℕ) → child rows r p ≡ o
      → IfSome (port_time rows r p) (λ at. before ≤ at)
  later p before is None e = rw e tt
  later p before is (Some k) e =
      let rise = laps_rise rows r tree slaves p k low e in
      let late : before ≤ arrive rows r + lap rows r p = omega (arith, is, rise) in
      rw (port_time_of rows r tree p k e) late

  pub visited_in_turn : AreInTurn (visits_of rows r)
  visited_in_turn = record {
    port3 = later P3 (arrive rows r) (omega arith) (child rows r P3) refl;
    port1 = later P1 (until (arrive rows r) (port_time rows r P3)) (before1 (child rows r P3) refl) (child rows r P1) refl;
    port2 = later P2 (until (until (arrive rows r) (port_time rows r P3)) (port_time rows r P1)) (before2 (child rows r P1) refl) (child rows r P2) refl;
  }

pub row_in_turn : (s : SegmentValue) (r : ℕ) → IsLegal s → r < length s.rows → AreInTurn (slave_of s r).visits
unfolding slave_of
row_in_turn s r legal low = visited_in_turn (tree_rows s.rows) legal.tree.tree legal.tree.slaves r (let many = rows_many s in omega (arith, low, many))

same_some : (A : Type 0) (x y : A) → Some x ≡ Some y → x ≡ y
same_some A x y e = cc

module _ (s : SegmentValue) (p : ℕ) (v : Slave) (legal : IsLegal s) (there : slice_get (started_segment s).slaves p ≡ Some v) where
  low : p < length s.rows
  low = let within = slice_get_within (started_segment s).slaves p v there in let many = as_many s legal in omega (arith, within, many)

  pub row_there : row_at s p < length s.rows
  row_there = row_within s legal p low

  made : slave_of s (row_at s p) ≡ v
  made = same_some Slave _ v (sym (stands_at s p legal low) ∙ there)

  pub visits_there : v.visits ≡ visits_of (tree_rows s.rows) (row_at s p)
  unfolding slave_of
  visits_there = sym (ap (λ x. x.visits) made)

  pub registers_there : v.registers ≡ registers_of (row_of s (row_at s p)).kind (status_of (tree_rows s.rows) (row_at s p))
  unfolding slave_of
  registers_there = sym (ap (λ x. x.registers) made)

  pub clock_there : v.timing
      ≡ timing_by (row_of s (row_at s p)).kind s.head.cycles (row_of s (row_at s p))
  unfolding slave_of
  clock_there = sym (ap (λ x. x.timing) made)

  pub position_in_turn : AreInTurn v.visits
  position_in_turn = subst (λ x. AreInTurn x.visits) made (row_in_turn s (row_at s p) legal row_there)
