-- The numbers of the master of a legal segment.
use Rattle.std.proofs.Common.{◌≡◌, ◌<◌, ◌≤◌, length, ◌∙◌, arith}
use Rattle.std.proofs.lemmas.List.{length-map}
use Rattle.cable_tree.specs.FrameOrder.{order}
use Rattle.segment_file.specs.Segment.{SegmentValue, row_of, tree_rows}
use Rattle.segment_file.specs.Legal.{IsLegal}
use Rattle.segment_file.proofs.Exported.{order_many, rows_many, few_to_lock, few_in_run}
use Rattle.run_of_file.specs.MasterOfFile.{master_of, kind_of, plan_of}
use Rattle.run_of_file.specs.RunOfFile.{frames_given}

pub as_many_kinds : (s : SegmentValue) → IsLegal s → length (master_of s).kinds ≡ length s.rows
unfolding master_of
as_many_kinds s legal = length-map (order (tree_rows s.rows)) (λ r. kind_of (row_of s r)) ∙ order_many s legal

pub as_many_plans : (s : SegmentValue) → IsLegal s → length (master_of s).plans ≡ length s.rows
unfolding master_of
as_many_plans s legal = length-map (order (tree_rows s.rows)) (λ r. plan_of (row_of s r)) ∙ order_many s legal

pub some_rows : (s : SegmentValue) → IsLegal s → 0 < length s.rows
some_rows s legal = let some = legal.tree.tree.some in let many = rows_many s in omega (arith, some, many)

pub few_rows : (s : SegmentValue) → IsLegal s → length s.rows ≤ 256
few_rows s legal = let few = legal.tree.few in let many = rows_many s in omega (arith, few, many)

pub lock_in_few : (s : SegmentValue) → IsLegal s → (master_of s).lock_in ≤ 100000
unfolding master_of
lock_in_few s legal = few_to_lock s legal

pub loss_run_few : (s : SegmentValue) → IsLegal s → (master_of s).loss_run ≤ 15
unfolding master_of
loss_run_few s legal = legal.head.loss_run

pub frames_few : (s : SegmentValue) → IsLegal s → frames_given s ≤ 100000
frames_few s legal = few_in_run s legal
