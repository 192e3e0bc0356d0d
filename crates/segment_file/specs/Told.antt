-- Legal files, and what each refusal says of a file.
use Rattle.std.specs.Prelude.{◌≡◌, ℕ, List, Some, None, Ok, Err, IsUtf8}
use Rattle.serde_json.specs.Data.{Data}
use Rattle.serde_json.specs.Read.{read}
use Rattle.cable_tree.specs.Segment.{IsTree}
use Rattle.cable_tree.specs.Refusals as tree
use Rattle.cable_tree.specs.declared.error.TreeError.{TreeError}
use Rattle.segment_shape.specs.ShapeOf.{ShapeValue, bad_shape, id_twice, file_of}
use Rattle.segment_shape.specs.Told.{IsText}
use Rattle.segment_file.specs.Segment.{SegmentValue, tree_rows}
use Rattle.segment_file.specs.Placed.{placed, placed_rows}
use Rattle.segment_file.specs.FaultOf.{IsFaultOf, IsTreeFault, tree_error}
use Rattle.segment_file.specs.Faults.{Fault, rate, no_reference, unmeasured, too_slow, no_lock, lead, loss_run, too_much, fault_of}
use Rattle.segment_file.specs.declared.seg_error.SegError.{SegError}
use Rattle.segment_file.specs.declared.seg_error.SegError.TheVariants.{BadText, Shape, Twice, Tree, Rate, NoReference, Unmeasurable, TooSlow, NoLock, Lead, LossRun, TooMuch, NoMemory}

-- the value is of the right shape, no id stands twice, and the segment is what it says
pub record Says (d : Data) (s : SegmentValue) : Type 0 where
  pub shape : ShapeValue
  pub file : file_of d ≡ Ok shape
  pub is : s ≡ placed shape

-- a legal file: its slaves are a tree, and no fault is found
pub record IsFileOf (d : Data) (s : SegmentValue) : Type 0 where
  pub says : Says d s
  pub tree : IsTree (tree_rows s.rows)
  pub faultless : fault_of s ≡ None

-- the slaves are no tree, for this reason
pub record HasNoTree (d : Data) (e : TreeError) : Type 0 where
  pub segment : SegmentValue
  pub says : Says d segment
  pub refused : tree.IsRefused (tree_rows segment.rows) e

-- the slaves are a tree, and this is the first fault
pub record HasFault (d : Data) (f : Fault) : Type 0 where
  pub segment : SegmentValue
  pub says : Says d segment
  pub tree : IsTree (tree_rows segment.rows)
  pub fault : fault_of segment ≡ Some f

-- the first check that a JSON value fails; that memory was refused says nothing of it
abbrev pub IsRefused : Data → SegError → Type 0
IsRefused d BadText = ⊥
IsRefused d (Shape path) = file_of d ≡ Err (bad_shape path.bytes)
IsRefused d (Twice id) = file_of d ≡ Err (id_twice id.bytes)
IsRefused d (Tree t) = HasNoTree d (tree_error t)
IsRefused d (Rate id) = HasFault d (rate id.bytes)
IsRefused d NoReference = HasFault d no_reference
IsRefused d (Unmeasurable id) = HasFault d (unmeasured id.bytes)
IsRefused d TooSlow = HasFault d too_slow
IsRefused d NoLock = HasFault d no_lock
IsRefused d Lead = HasFault d lead
IsRefused d (LossRun number) = HasFault d (loss_run number)
IsRefused d TooMuch = HasFault d too_much
IsRefused d NoMemory = ⊥

-- the first check behind its ids that a shape fails; that memory was refused says nothing of it
abbrev pub IsRefusal : ShapeValue → SegError → Type 0
IsRefusal shape BadText = ⊥
IsRefusal shape (Shape path) = ⊥
IsRefusal shape (Twice id) = ⊥
IsRefusal shape (Tree t) = IsTreeFault (tree_rows (placed_rows shape.slaves)) (Tree t)
IsRefusal shape NoMemory = Unit {0}
IsRefusal shape e = IsTree (tree_rows (placed_rows shape.slaves)) × IsFaultOf (fault_of (placed shape)) e

-- the bytes are the text of a legal file, which says this segment
abbrev pub IsSegmentText : List ℕ → SegmentValue → Type 0
IsSegmentText bytes s = (d : Data) × IsText bytes d × IsFileOf d s

-- what a refusal says of the bytes
abbrev pub IsTold : List ℕ → SegError → Type 0
IsTold bytes BadText = IsUtf8 bytes → read bytes ≡ None
IsTold bytes NoMemory = Unit {0}
IsTold bytes e = (d : Data) × IsText bytes d × IsRefused d e
