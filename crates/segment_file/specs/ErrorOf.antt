-- The refusal of a file that a refusal of its shape or of its tree is.
use Rattle.cable_tree.specs.declared.error.TreeError.{TreeError}
use Rattle.cable_tree.specs.declared.error.TreeError.TheVariants as tree
use Rattle.segment_shape.specs.declared.shape_error.ShapeError.{ShapeError}
use Rattle.segment_shape.specs.declared.shape_error.ShapeError.TheVariants as file
use Rattle.segment_file.specs.declared.seg_error.ShapeTree.TheVariants.{Empty, NoParent, TwoRoots, PortTaken, Cycle}
use Rattle.segment_file.specs.declared.seg_error.SegError.{SegError}
use Rattle.segment_file.specs.declared.seg_error.SegError.TheVariants.{BadText, Shape, Twice, Tree, NoMemory}

abbrev pub shape_error_of : ShapeError → SegError
shape_error_of file.BadText = BadText
shape_error_of (file.Shape path) = Shape path
shape_error_of (file.Twice id) = Twice id
shape_error_of file.NoMemory = NoMemory

abbrev pub tree_error_of : TreeError → SegError
tree_error_of tree.Empty = Tree Empty
tree_error_of (tree.NoParent r) = Tree (NoParent r)
tree_error_of (tree.TwoRoots r) = Tree (TwoRoots r)
tree_error_of (tree.PortTaken r) = Tree (PortTaken r)
tree_error_of (tree.Cycle r) = Tree (Cycle r)
tree_error_of tree.NoMemory = NoMemory
