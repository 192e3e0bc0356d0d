-- The refusal that a fault is.
use Rattle.std.specs.Prelude.{◌≡◌, List, Option, Some}
use Rattle.cable_tree.specs.Row.{Row}
use Rattle.cable_tree.specs.Refusals as tree
use Rattle.cable_tree.specs.declared.error.TreeError.{TreeError}
use Rattle.cable_tree.specs.declared.error.TreeError.TheVariants as error
use Rattle.segment_file.specs.declared.seg_error.ShapeTree.{ShapeTree}
use Rattle.segment_file.specs.declared.seg_error.ShapeTree.TheVariants as shape
use Rattle.segment_file.specs.Faults.{Fault, rate, no_reference, unmeasured, too_slow, no_lock, lead, loss_run, too_much}
use Rattle.segment_file.specs.declared.seg_error.SegError.{SegError}
use Rattle.segment_file.specs.declared.seg_error.SegError.TheVariants.{BadText, Shape, Twice, Tree, Rate, NoReference, Unmeasurable, TooSlow, NoLock, Lead, LossRun, TooMuch, NoMemory}

-- the refusal of a tree
abbrev pub tree_error : ShapeTree → TreeError
tree_error shape.Empty = error.Empty
tree_error (shape.NoParent r) = error.NoParent r
tree_error (shape.TwoRoots r) = error.TwoRoots r
tree_error (shape.PortTaken r) = error.PortTaken r
tree_error (shape.Cycle r) = error.Cycle r

-- the refusal is the fault that was found, or memory was refused
abbrev pub IsFaultOf : Option Fault → SegError → Type 0
IsFaultOf found BadText = ⊥
IsFaultOf found (Shape path) = ⊥
IsFaultOf found (Twice id) = ⊥
IsFaultOf found (Tree t) = ⊥
IsFaultOf found (Rate id) = found ≡ Some (rate id.bytes)
IsFaultOf found NoReference = found ≡ Some no_reference
IsFaultOf found (Unmeasurable id) = found ≡ Some (unmeasured id.bytes)
IsFaultOf found TooSlow = found ≡ Some too_slow
IsFaultOf found NoLock = found ≡ Some no_lock
IsFaultOf found Lead = found ≡ Some lead
IsFaultOf found (LossRun number) = found ≡ Some (loss_run number)
IsFaultOf found TooMuch = found ≡ Some too_much
IsFaultOf found NoMemory = Unit {0}

-- the refusal is that of rows that are no tree, or memory was refused
abbrev pub IsTreeFault : List Row → SegError → Type 0
IsTreeFault rows (Tree t) = tree.IsRefused rows (tree_error t)
IsTreeFault rows NoMemory = Unit {0}
IsTreeFault rows e = ⊥
