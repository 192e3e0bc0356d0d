-- The slaves of a file before the first frame.
use Rattle.std.proofs.Common.{◌≡◌, ℕ, ◌+◌, ◌<◌, Bool, true, false, List, length, Some, nat_lt, refl, sym, subst, ◌∙◌, arith, inl, inr}
use Rattle.std.specs.Prelude.{slice_index_or}
use Rattle.std.specs.Option.{is_some}
use Rattle.std.proofs.lemmas.Bool.Decides.{nat_tests}
use Rattle.cable_tree.specs.FrameOrder.{child}
use Rattle.cable_tree.specs.Row.{Row}
use Rattle.cable_tree.specs.declared.port.Port.TheVariants.{P1, P2, P3}
use Rattle.esc_regs.specs.RegisterTable.{features}
use Rattle.esc_regs.specs.StartOfRegisters.{registers_at_start}
use Rattle.esc_regs.specs.declared.clock_kind.ClockKind.{ClockKind}
use Rattle.esc_regs.proofs.Exported.{apart, number_again, start_numbers, start_whole}
use Rattle.frame_pass.specs.SlaveState.{holds, station}
use Rattle.segment_file.specs.Legal.{IsLegal}
use Rattle.segment_file.specs.Segment.{RowValue, SegmentValue, no_row, row_at, tree_rows}
use Rattle.segment_start.specs.Start.{registers_of, slave_by, slave_of, started_segment}
use Rattle.segment_start.proofs.Exported.{start_size, as_many, stands_at}
use Rattle.dc_topology.specs.Status.{port_bits, status_of}
use Rattle.honest_slaves.specs.Standing.{Stands}
use Rattle.honest_slaves.proofs.Frames.{low_where}
use Rattle.honest_slaves.specs.Told.{AreInOrder}
use Rattle.run_of_file.proofs.Exported.{few_rows}
use Rattle.honest_slaves.specs.FileSlaves.{kind_at, status_at}

-- a status has 16 bits
few_bits : (one two three : Bool) → port_bits true 0 + port_bits one 1 + port_bits two 2 + port_bits three 3 < 65536
few_bits true true true = omega arith
few_bits true true false = omega arith
few_bits true false true = omega arith
few_bits true false false = omega arith
few_bits false true true = omega arith
few_bits false true false = omega arith
few_bits false false true = omega arith
few_bits false false false = omega arith

few_status : (rows : List Row) (r : ℕ) → status_of rows r < 65536
unfolding status_of
few_status rows r = few_bits (is_some (child rows r P1)) (is_some (child rows r P2)) (is_some (child rows r P3))

-- the registers at the start
features_first : (k : ClockKind) (status : ℕ) → holds 2 0x0008 (registers_of k status) ≡ features k
unfolding registers_of
features_first k status =
    let size = (start_whole k).size in
    apart 2 0x0110 status (registers_at_start k).bytes 0x0008 2 (omega (arith, size)) (inr (omega arith)) ∙ (start_numbers k).1.0

status_first : (k : ClockKind) (status : ℕ) → status < 65536 → holds 2 0x0110 (registers_of k status) ≡ status
unfolding registers_of
status_first k status few = let size = (start_whole k).size in number_again 2 0x0110 status (registers_at_start k).bytes (omega (arith, size)) few

station_first : (k : ClockKind) (status : ℕ) → station (registers_of k status) ≡ 0
unfolding registers_of
station_first k status =
    let size = (start_whole k).size in
    apart 2 0x0110 status (registers_at_start k).bytes 0x0010 2 (omega (arith, size)) (inr (omega arith)) ∙ (start_numbers k).1.1.0

kind_first : (k : ClockKind) (status : ℕ) → (registers_of k status).kind ≡ k
unfolding registers_of
kind_first k status = refl

stands_first : (rows : List Row) (cycles r : ℕ) (row : RowValue) (q : ℕ) → Stands row.kind (status_of rows r) false q (slave_by rows cycles r row)
stands_first rows cycles r row q = record {
  slave = record {
    size = start_size row.kind (status_of rows r);
    kind_is = kind_first row.kind (status_of rows r);
    features_are = features_first row.kind (status_of rows r);
    status_is = status_first row.kind (status_of rows r) (few_status rows r);
  };
  address = inl (station_first row.kind (status_of rows r));
}

slave_first : (s : SegmentValue) (r q : ℕ) → Stands (slice_index_or s.rows r no_row).kind (status_of (tree_rows s.rows) r) false q (slave_of s r)
unfolding slave_of
slave_first s r q = stands_first (tree_rows s.rows) s.head.cycles r (slice_index_or s.rows r no_row) q

some_same : {X : Type 0} {x y : X} → Some x ≡ Some y → x ≡ y
some_same e = cc

none_named : (q : ℕ) → false ≡ nat_lt q 0
none_named q = grind (arith, nat_tests)

pub begins : (s : SegmentValue) → IsLegal s → AreInOrder (kind_at s) (status_at s) (length s.rows) 0 (started_segment s).slaves
begins s legal = record {
  many = as_many s legal;
  few = few_rows s legal;
  within = omega arith;
  standing = λ q v is.
      let within = low_where (started_segment s).slaves q v is in
      let many = as_many s legal in
      let here = stands_at s q legal (omega (arith, within, many)) in
      subst (λ b. Stands (kind_at s q) (status_at s q) b q v) (none_named q)
      (subst (Stands (kind_at s q) (status_at s q) false q) (some_same (sym here ∙ is)) (slave_first s (row_at s q) q));
}
