-- What a `Segment` keeps.
use Rattle.std.specs.Prelude.{◌≡◌, Some, map}
use Rattle.segment_shape.specs.Seen.{head_seen}
use Rattle.segment_file.specs.Segment.{SegmentValue, tree_rows, counts_of, reference_row}
use Rattle.segment_file.specs.Seen.{row_seen, counts_seen}
use Rattle.segment_file.specs.Legal.{IsLegal}
use Rattle.segment_file.specs.declared.segment.Segment.TheInside.{Inside}

abbrev pub value_of : Inside → SegmentValue
value_of a = record { head = head_seen a.head; rows = map row_seen a.rows.items; losses = a.losses }

pub record IsKept (a : Inside) : Type 0 where
  pub legal : IsLegal (value_of a)
  pub tree : a.tree ≡ tree_rows (map row_seen a.rows.items)
  pub reference : reference_row (map row_seen a.rows.items) ≡ Some a.reference
  pub counts : counts_seen a.counts ≡ counts_of (map row_seen a.rows.items)
