-- The faults of segment files: which check each is, and its text.
use Rattle.std.specs.Prelude.{ℕ, List, ◌++◌, codes, decimal}
use Rattle.segment_file.specs.declared.seg_error.ShapeTree.{ShapeTree}
use Rattle.segment_file.specs.declared.seg_error.ShapeTree.TheVariants as tree
use Rattle.segment_file.specs.declared.seg_error.SegError.{SegError}
use Rattle.segment_file.specs.declared.seg_error.SegError.TheVariants as error
use Rattle.dc_top.specs.declared.seg_fault.SegFault.{SegFault}
use Rattle.dc_top.specs.declared.seg_fault.SegFault.TheVariants.{Shape, Twice, Tree, Rate, NoReference, Unmeasurable, TooSlow, NoLock, Lead, LossRun, TooMuch}

-- the check that a file fails
abbrev pub error_of : SegFault → SegError
error_of (Shape path) = error.Shape path
error_of (Twice id) = error.Twice id
error_of (Tree t) = error.Tree t
error_of (Rate id) = error.Rate id
error_of NoReference = error.NoReference
error_of (Unmeasurable id) = error.Unmeasurable id
error_of TooSlow = error.TooSlow
error_of NoLock = error.NoLock
error_of Lead = error.Lead
error_of (LossRun number) = error.LossRun number
error_of TooMuch = error.TooMuch

abbrev pub tree_text : ShapeTree → List ℕ
tree_text tree.Empty = codes "tree empty"
tree_text (tree.NoParent row) = codes "tree no parent " ++ decimal row
tree_text (tree.TwoRoots row) = codes "tree two roots " ++ decimal row
tree_text (tree.PortTaken row) = codes "tree port taken " ++ decimal row
tree_text (tree.Cycle row) = codes "tree cycle " ++ decimal row

abbrev pub segment_text : SegFault → List ℕ
segment_text (Shape path) = codes "shape " ++ path.bytes
segment_text (Twice id) = codes "twice " ++ id.bytes
segment_text (Tree t) = tree_text t
segment_text (Rate id) = codes "rate " ++ id.bytes
segment_text NoReference = codes "no reference"
segment_text (Unmeasurable id) = codes "unmeasurable " ++ id.bytes
segment_text TooSlow = codes "too slow"
segment_text NoLock = codes "no lock"
segment_text Lead = codes "lead"
segment_text (LossRun number) = codes "loss run " ++ decimal number
segment_text TooMuch = codes "too much"
