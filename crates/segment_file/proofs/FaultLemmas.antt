-- Refusals of rows, of a shape and of a file.
use Rattle.std.specs.Prelude.{◌≡◌, ℕ, List, Some, Result, Ok, IfErr}
use Rattle.std.proofs.Common.{refl}
use Rattle.std.proofs.lemmas.Result.{IfErr-weaker}
use Rattle.serde_json.specs.Data.{Data}
use Rattle.cable_tree.specs.Row.{Row}
use Rattle.cable_tree.specs.Refusals.{MayAnswer}
use Rattle.cable_tree.specs.declared.error.TreeError.{TreeError}
use Rattle.cable_tree.specs.declared.error.TreeError.TheVariants as tree
use Rattle.cable_tree.specs.Segment.{IsTree}
use Rattle.segment_shape.specs.ShapeOf.{ShapeValue, file_of}
use Rattle.segment_shape.specs.Told.{IsText, IsShape}
use Rattle.segment_file.specs.Segment.{tree_rows}
use Rattle.segment_file.specs.Placed.{placed, placed_rows}
use Rattle.segment_file.specs.Faults.{Fault, rate, no_reference, unmeasured, too_slow, no_lock, lead, loss_run, too_much, fault_of}
use Rattle.segment_file.specs.ErrorOf.{tree_error_of}
use Rattle.segment_file.specs.FaultOf.{IsTreeFault}
use Rattle.segment_file.specs.Told.{HasFault, IsRefusal, IsTold}
use Rattle.segment_file.specs.declared.seg_error.SegError.{SegError}
use Rattle.segment_file.specs.declared.seg_error.SegError.TheVariants.{BadText, Shape, Twice, Tree, Rate, NoReference, Unmeasurable, TooSlow, NoLock, Lead, LossRun, TooMuch, NoMemory}

pub refused_tree : (rows : List Row) (e : TreeError) → MayAnswer rows e → IsTreeFault rows (tree_error_of e)
refused_tree rows tree.Empty refused = refused
refused_tree rows (tree.NoParent r) refused = refused
refused_tree rows (tree.TwoRoots r) refused = refused
refused_tree rows (tree.PortTaken r) refused = refused
refused_tree rows (tree.Cycle r) refused = refused
refused_tree rows tree.NoMemory refused = tt

found : (d : Data) (shape : ShapeValue) (f : Fault) → file_of d ≡ Ok shape → IsTree (tree_rows (placed_rows shape.slaves)) → fault_of (placed shape) ≡ Some f → HasFault d f
found d shape f file tree fault = record { segment = placed shape; says = record { shape = shape; file = file; is = refl }; tree = tree; fault = fault }

-- what a refusal of its shape says of a file
told : (bytes : List ℕ) (d : Data) (shape : ShapeValue) → IsText bytes d → file_of d ≡ Ok shape → (e : SegError) → IsRefusal shape e → IsTold bytes e
told bytes d shape text file BadText never = absurd never
told bytes d shape text file (Shape path) never = absurd never
told bytes d shape text file (Twice id) never = absurd never
told bytes d shape text file (Tree t) refused = (d, text, record { segment = placed shape; says = record { shape = shape; file = file; is = refl }; refused = refused })
told bytes d shape text file (Rate id) p = (d, text, found d shape (rate id.bytes) file p.0 p.1)
told bytes d shape text file NoReference p = (d, text, found d shape no_reference file p.0 p.1)
told bytes d shape text file (Unmeasurable id) p = (d, text, found d shape (unmeasured id.bytes) file p.0 p.1)
told bytes d shape text file TooSlow p = (d, text, found d shape too_slow file p.0 p.1)
told bytes d shape text file NoLock p = (d, text, found d shape no_lock file p.0 p.1)
told bytes d shape text file Lead p = (d, text, found d shape lead file p.0 p.1)
told bytes d shape text file (LossRun number) p = (d, text, found d shape (loss_run number) file p.0 p.1)
told bytes d shape text file TooMuch p = (d, text, found d shape too_much file p.0 p.1)
told bytes d shape text file NoMemory p = tt

pub told_at_error : {A : Type 0} (bytes : List ℕ) (shape : ShapeValue) (r : Result A SegError) → IsShape bytes shape → IfErr r (IsRefusal shape) → IfErr r (IsTold bytes)
told_at_error bytes shape r (d, text, file) refused = IfErr-weaker r (IsRefusal shape) (IsTold bytes) (told bytes d shape text file) refused
