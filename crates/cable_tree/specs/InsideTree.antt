-- What a `Tree` keeps.
use Rattle.std.specs.Prelude.{◌≡◌, List}
use Rattle.cable_tree.specs.declared.tree.Tree.TheInside.{Inside}
use Rattle.cable_tree.specs.Row.{Row}
use Rattle.cable_tree.specs.FrameOrder.{order}
use Rattle.cable_tree.specs.PathSums.{span, arrive}
use Rattle.cable_tree.specs.Kept.{ArePlaces, IsTable}
use Rattle.cable_tree.specs.Segment.{IsSegment}

abbrev pub rows_of : Inside → List Row
rows_of fields = fields.wiring

pub record IsKept (fields : Inside) : Type 0 where
  pub segment : IsSegment (rows_of fields)
  pub order : fields.order.items ≡ order (rows_of fields)
  pub places : ArePlaces (rows_of fields) fields.places.items
  pub spans : IsTable (rows_of fields) (span (rows_of fields)) fields.spans.items
  pub arrivals : IsTable (rows_of fields) (arrive (rows_of fields)) fields.arrivals.items
