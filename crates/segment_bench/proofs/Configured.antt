-- The master of a legal segment is given numbers in their ranges.
use Rattle.std.proofs.Common.{◌≡◌, ℕ, ◌<◌, ◌≤◌, length, get_or, Option, Some, None, subst, arith}
use Rattle.std.specs.Prelude.{IfSome, slice_index}
use Rattle.std.specs.List.{All}
use Rattle.std.proofs.lemmas.List.{length-map, get_or-map}
use Rattle.std.proofs.lemmas.List.Elements.{All-get_or, All-from_get_or, All-map}
use Rattle.cable_tree.specs.FrameOrder.{order}
use Rattle.cable_tree.specs.Row.{IsRow}
use Rattle.segment_file.specs.Segment.{SegmentValue, no_row, row_of, tree_row, tree_rows}
use Rattle.segment_file.specs.Legal.{IsLegal, IsClock}
use Rattle.segment_file.proofs.Exported.{order_many, row_within}
use Rattle.run_of_file.specs.MasterOfFile.{kind_of, plan_of, master_of}
use Rattle.run_of_file.proofs.Exported.{as_many_kinds, as_many_plans, some_rows, few_rows, lock_in_few}
use Rattle.master_steps.specs.ConfigRange.{IsConfig, IsKind, IsPlan, IsSync1}

-- a slave keeps a frame for a time in its range
kind_at : (s : SegmentValue) → IsLegal s → (r : ℕ) → r < length s.rows → IsKind (kind_of (row_of s r))
kind_at s legal r low =
    let many = length-map s.rows tree_row in
    let row : IsRow (get_or (tree_rows s.rows) r (tree_row no_row)) =
    All-get_or IsRow (tree_rows s.rows) r (tree_row no_row) (omega (arith, low, many)) legal.tree.slaves in
    let is : get_or (tree_rows s.rows) r (tree_row no_row) ≡ tree_row (row_of s r) = get_or-map tree_row s.rows r no_row (tree_row no_row) low in
    let held : IsRow (tree_row (row_of s r)) = subst IsRow is row in
    record { tp_ns = (held.tp_some, held.tp_most); tf_ns = (held.tf_some, held.tf_most) }

sync1_by : (cycle_ns : ℕ) (o : Option ℕ) → IfSome o (λ ns. (1 ≤ ns) × (ns < cycle_ns)) → IsSync1 cycle_ns o
sync1_by cycle_ns None h = tt
sync1_by cycle_ns (Some ns) h = h

-- its signals come within their cycle
plan_at : (s : SegmentValue) → IsLegal s → (r : ℕ) → r < length s.rows → IsPlan s.head.cycle_ns (plan_of (row_of s r))
plan_at s legal r low =
    let clock : IsClock s.head.cycle_ns (row_of s r) = All-get_or (IsClock s.head.cycle_ns) s.rows r no_row low legal.clocks in
    record { shift = clock.shift_ns; sync1 = sync1_by s.head.cycle_ns (row_of s r).sync1_ns clock.sync1_ns }

-- what holds of all rows holds of those in frame order
in_order : (s : SegmentValue) → IsLegal s → (P : ℕ → Type 0) → ((r : ℕ) → r < length s.rows → P r) → All P (order (tree_rows s.rows))
in_order s legal P each =
    let many = order_many s legal in
    All-from_get_or P (order (tree_rows s.rows)) 0 (λ p low. each (slice_index (order (tree_rows s.rows)) p) (row_within s legal p (omega (arith, low, many))))

kinds_in_order : (s : SegmentValue) → IsLegal s → All IsKind (master_of s).kinds
unfolding master_of
kinds_in_order s legal =
    All-map IsKind (λ r. kind_of (row_of s r)) (order (tree_rows s.rows)) (in_order s legal (λ r. IsKind (kind_of (row_of s r))) (kind_at s legal))

plans_in_order : (s : SegmentValue) → IsLegal s → All (IsPlan (master_of s).cycle_ns) (master_of s).plans
unfolding master_of
plans_in_order s legal =
    All-map (IsPlan s.head.cycle_ns) (λ r. plan_of (row_of s r)) (order (tree_rows s.rows))
    (in_order s legal (λ r. IsPlan s.head.cycle_ns (plan_of (row_of s r))) (plan_at s legal))

in_range : (s : SegmentValue) → IsLegal s → ((50000 ≤ (master_of s).frame_ns) × ((master_of s).frame_ns ≤ 10000000))
    × ((128 ≤ (master_of s).speed) × ((master_of s).speed ≤ 16383)) × ((master_of s).loss_run ≤ 15)
    × ((master_of s).epoch_ns ≤ 4000000000000000000) × ((50000 ≤ (master_of s).cycle_ns) × ((master_of s).cycle_ns ≤ 500000000))
unfolding master_of
in_range s legal = (legal.head.frame_ns, legal.head.speed, legal.head.loss_run, legal.head.epoch_ns, legal.head.cycle_ns)

pub config_legal : (s : SegmentValue) → IsLegal s → IsConfig (master_of s)
config_legal s legal =
    let many = as_many_kinds s legal in
    let plans = as_many_plans s legal in
    let some = some_rows s legal in
    let few = few_rows s legal in
    let ranges = in_range s legal in
    record {
      some = omega (arith, many, some);
      few = omega (arith, many, few);
      plans = omega (arith, many, plans);
      kind = kinds_in_order s legal;
      plan = plans_in_order s legal;
      frame = ranges.0;
      speed = ranges.1;
      losses = ranges.2;
      epoch = ranges.3;
      lock_in = lock_in_few s legal;
      cycle = ranges.4;
    }
