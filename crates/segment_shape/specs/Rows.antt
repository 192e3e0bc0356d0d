-- The rows of an array, in order.
use Rattle.std.specs.Prelude.{ℕ, List, [], ◌∷◌, ◌++◌, length, Ok}
use Rattle.serde_json.specs.Data.{Data, Items, no_items, item}
use Rattle.segment_shape.specs.Paths.{Reading, ◌>>=◌, within_element}

-- These rows and all that follow, each read by what the rows before it allow. A fault is found at its
-- row's place in the array of this name.
unfoldable pub rows_after : {A : Type 0} → List ℕ → (List A → Data → Reading A) → List A → Items → Reading (List A)
rows_after name read rows no_items = Ok rows
rows_after name read rows (item d ds) = within_element name (length rows) (read rows d) >>= (λ r. rows_after name read (rows ++ r ∷ []) ds)
