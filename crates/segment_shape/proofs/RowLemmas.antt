-- The rows of an array, one after another.
use Rattle.std.proofs.Common.{◌≡◌, ◌∙◌, sym, ap, ℕ, ◌+◌, ◌<◌, ◌≤◌, List, [], ◌∷◌, ◌++◌, length, drop, get_or, Ok, Err, refl}
use Rattle.std.proofs.lemmas.List.{drop_more, drop_all}
use Rattle.serde_json.specs.Data.{Data}
use Rattle.serde_json.specs.View.{view, items_view}
use Rattle.serde_json.specs.declared.value.Value.{Value}
use Rattle.segment_shape.specs.Paths.{Reading, element, dotted}
use Rattle.segment_shape.specs.Rows.{rows_after}

-- a row is read
pub rows_kept : {A : Type 0} (name : List ℕ) (read : List A → Data → Reading A) (rows : List A) (vs : List Value) (i : ℕ) (v : Value) (r : A)
    → i < length vs → v ≡ get_or vs i v → read rows (view v) ≡ Ok r
    → rows_after name read (rows ++ r ∷ []) (items_view (drop (i + 1) vs)) ≡ rows_after name read rows (items_view (drop i vs))
unfolding rows_after
rows_kept name read rows vs i v r h e f =
    let g : read rows (view (get_or vs i v)) ≡ Ok r = ap (λ w. read rows (view w)) (sym e) ∙ f in
    rw (drop_more vs i v h, g) refl

-- a row has a fault, which is found at its place
pub rows_refused : {A : Type 0} (name : List ℕ) (read : List A → Data → Reading A) (rows : List A) (vs : List Value) (i : ℕ) (v : Value) (path : List ℕ) (n : ℕ) (whole : List ℕ)
    → i < length vs → v ≡ get_or vs i v → read rows (view v) ≡ Err path → n ≡ length rows → whole ≡ element name n ++ dotted path
    → rows_after name read rows (items_view (drop i vs)) ≡ Err whole
unfolding rows_after
rows_refused name read rows vs i v path n whole h e f l w =
    let g : read rows (view (get_or vs i v)) ≡ Err path = ap (λ w. read rows (view w)) (sym e) ∙ f in
    rw (drop_more vs i v h, g) (ap Err (ap (λ m. element name m ++ dotted path) (sym l) ∙ sym w))

-- all rows are read
pub rows_end : {A : Type 0} (name : List ℕ) (read : List A → Data → Reading A) (rows : List A) (vs : List Value) (i : ℕ)
    → length vs ≤ i → rows_after name read rows (items_view (drop i vs)) ≡ Ok rows
unfolding rows_after
rows_end name read rows vs i h = rw (drop_all i vs h) refl
