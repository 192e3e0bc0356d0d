-- What a `Wiring` keeps.
use Rattle.std.specs.Prelude.{◌≡◌, List}
use Rattle.cable_tree.specs.declared.wiring.Wiring.TheInside.{Inside}
use Rattle.cable_tree.specs.Row.{Row}
use Rattle.cable_tree.specs.FrameOrder.{root}
use Rattle.cable_tree.specs.Kept.{AreKids}
use Rattle.cable_tree.specs.Segment.{IsSegment}

abbrev pub rows_of : Inside → List Row
rows_of fields = fields.rows.items

pub record IsWired (fields : Inside) : Type 0 where
  pub segment : IsSegment (rows_of fields)
  pub kids : AreKids (rows_of fields) fields.kids.items
  pub root : fields.root ≡ root (rows_of fields)
