-- Which check a refused file fails.
use Rattle.std.specs.Prelude.{Option, Some, None}
use Rattle.cable_tree.specs.declared.error.TreeError.{TreeError}
use Rattle.segment_shape.specs.ShapeOf.{Refusal, bad_shape, id_twice}
use Rattle.segment_file.specs.Faults.{Fault, rate, no_reference, unmeasured, too_slow, no_lock, lead, loss_run, too_much}
use Rattle.segment_file.specs.FaultOf.{tree_error}
use Rattle.segment_file.specs.declared.seg_error.SegError.{SegError}
use Rattle.segment_file.specs.declared.seg_error.SegError.TheVariants.{BadText, Shape, Twice, Tree, Rate, NoReference, Unmeasurable, TooSlow, NoLock, Lead, LossRun, TooMuch, NoMemory}

-- the check that a refusal tells, with what it tells of it; want of memory tells none
pub data Failed : Type 0 where
  no_text : Failed
  no_shape : Refusal → Failed
  no_tree : TreeError → Failed
  faulty : Fault → Failed

abbrev pub failed_by : SegError → Option Failed
failed_by BadText = Some no_text
failed_by (Shape path) = Some (no_shape (bad_shape path.bytes))
failed_by (Twice id) = Some (no_shape (id_twice id.bytes))
failed_by (Tree t) = Some (no_tree (tree_error t))
failed_by (Rate id) = Some (faulty (rate id.bytes))
failed_by NoReference = Some (faulty no_reference)
failed_by (Unmeasurable id) = Some (faulty (unmeasured id.bytes))
failed_by TooSlow = Some (faulty too_slow)
failed_by NoLock = Some (faulty no_lock)
failed_by Lead = Some (faulty lead)
failed_by (LossRun number) = Some (faulty (loss_run number))
failed_by TooMuch = Some (faulty too_much)
failed_by NoMemory = None
