-- A segment file: its rows with every number in its range, or the first fault of its shape.
use Rattle.std.specs.Prelude.{ℕ, List, [], length, map, codes, Option, Some, None, Result, Ok, Err}
use Rattle.serde_json.specs.Data.{Data}
use Rattle.segment_shape.specs.Paths.{Reading, ◌>>=◌, root}
use Rattle.segment_shape.specs.Values.{members_at, items_at, items_if_any}
use Rattle.segment_shape.specs.Keys.{only, head_keys}
use Rattle.segment_shape.specs.Rows.{rows_after}
use Rattle.segment_shape.specs.Head.{HeadValue, head_of}
use Rattle.segment_shape.specs.Slaves.{SlaveValue, slave_in}
use Rattle.segment_shape.specs.Losses.{loss_in}
use Rattle.segment_shape.specs.Twice.{first_again}
use Rattle.loss_list.specs.declared.loss_row.LossRow.{LossRow}

pub record ShapeValue : Type 0 where
  pub head : HeadValue
  pub slaves : List SlaveValue
  pub losses : List LossRow

-- the shape of a file, or the path of its first fault
unfoldable pub shape_of : Data → Reading ShapeValue
shape_of d = do
  ms ← members_at root d
  head ← head_of d
  slaves ← items_at (codes "slaves") 256 d
  losses ← items_if_any (codes "losses") 10000 d
  head ← only root head_keys ms head
  slaves ← rows_after (codes "slaves") (slave_in head.version head.cycle_ns) [] slaves
  losses ← rows_after (codes "losses") (loss_in (length slaves)) [] losses
  Ok (record { head = head; slaves = slaves; losses = losses })

-- why a JSON value is not the shape of a segment
pub data Refusal : Type 0 where
  bad_shape : List ℕ → Refusal
  id_twice : List ℕ → Refusal

abbrev pub unless_again : ShapeValue → Option (List ℕ) → Result ShapeValue Refusal
unless_again s None = Ok s
unless_again s (Some id) = Err (id_twice id)

abbrev pub with_distinct_ids : Reading ShapeValue → Result ShapeValue Refusal
with_distinct_ids (Err path) = Err (bad_shape path)
with_distinct_ids (Ok s) = unless_again s (first_again [] (map (λ r. r.id) s.slaves))

-- The shape of a file whose ids are distinct, or the first check that fails: of its shape, then of
-- its ids.
unfoldable pub file_of : Data → Result ShapeValue Refusal
file_of d = with_distinct_ids (shape_of d)
