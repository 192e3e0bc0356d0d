-- From the shape of a file to the file.
use Rattle.std.proofs.Common.{◌≡◌, ◌∙◌, sym, ap, ℕ, List, [], ◌∷◌, map, Option, Ok, refl}
use Rattle.serde_json.specs.Data.{Data}
use Rattle.segment_shape.specs.ShapeOf.{shape_of, file_of, unless_again}
use Rattle.segment_shape.specs.Seen.{row_seen, shape_seen}
use Rattle.segment_shape.specs.Told.{IsFault, IsRefusal}
use Rattle.segment_shape.specs.Twice.{first_again}
use Rattle.segment_shape.specs.declared.shape.Shape.{Shape}
use Rattle.segment_shape.specs.declared.shape_error.ShapeError.{ShapeError}
use Rattle.segment_shape.specs.declared.shape_error.ShapeError.TheVariants as error
use Rattle.segment_shape.specs.declared.slave_row.ShapeRow.{ShapeRow}

ids_seen : (rows : List ShapeRow) → map (λ r. r.id) (map row_seen rows) ≡ map (λ r. r.id.bytes) rows
ids_seen [] = refl
ids_seen (r ∷ rows) = ap (λ ids. r.id.bytes ∷ ids) (ids_seen rows)

-- what the ids say of a file with this shape
pub file_by_ids : (d : Data) (s : Shape) (rows : List ShapeRow) (again : Option (List ℕ)) → shape_of d ≡ Ok (shape_seen s) → rows ≡ s.rows.items
    → again ≡ first_again [] (map (λ r. r.id.bytes) rows) → file_of d ≡ unless_again (shape_seen s) again
unfolding file_of
file_by_ids d s rows again shape same e =
    let ids : first_again [] (map (λ r. r.id) (map row_seen s.rows.items)) ≡ again =
    ap (first_again []) (ids_seen s.rows.items ∙ ap (λ rs. map (λ r. r.id.bytes) rs) (sym same)) ∙ sym e in
    rw (shape, ids) refl

-- a fault of the shape refuses the file
pub file_of_fault : (d : Data) (e : ShapeError) → IsFault (shape_of d) e → IsRefusal (file_of d) e
unfolding file_of
file_of_fault d error.BadText h = h
file_of_fault d (error.Shape path) h = rw h refl
file_of_fault d (error.Twice id) h = absurd h
file_of_fault d error.NoMemory h = h
