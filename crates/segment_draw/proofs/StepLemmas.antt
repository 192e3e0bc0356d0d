-- One slave more.
use Rattle.std.proofs.Common.{◌≡◌, ◌∙◌, ap, ap₂, refl, sym, ℕ, suc, ◌+◌, ◌-◌, ◌<◌, List, [], ◌∷◌, ◌++◌, map, arith}
use Rattle.std.proofs.lemmas.List.{map-append}
use Rattle.segment_file.specs.declared.slave_row.SlaveRow.{SlaveRow}
use Rattle.segment_file.specs.Segment.{RowValue}
use Rattle.segment_file.specs.Seen.{row_seen}
use Rattle.segment_draw.specs.Draws.{Draws, after, draws_at, draws_from}
use Rattle.segment_draw.specs.Generated.{row_of, rows_from}

one_more : (rows : List RowValue) (m x : ℕ) → rows_from rows (draws_from (suc m) x) ≡ rows_from (rows ++ row_of rows (draws_at x) ∷ []) (draws_from m (after 13 x))
unfolding rows_from draws_from
one_more rows m x = refl

pub row_more : (rows new : List SlaveRow) (row : SlaveRow) (d : Draws) (whole : List RowValue) (n k x y : ℕ) → k < n
    → whole ≡ rows_from (map row_seen rows) (draws_from (n - k) x) → d ≡ draws_at x → y ≡ after 13 x → row_seen row ≡ row_of (map row_seen rows) d → new ≡ rows ++ row ∷ []
    → whole ≡ rows_from (map row_seen new) (draws_from (n - (k + 1)) y)
row_more rows new row d whole n k x y low is here there made pushed =
    let R = map row_seen rows in
    let m = n - (k + 1) in
    let left : n - k ≡ suc m = omega arith in
    let grown : R ++ row_of R (draws_at x) ∷ [] ≡ map row_seen new =
    sym (ap (map row_seen) pushed ∙ map-append row_seen rows (row ∷ []) ∙ ap (λ (r : RowValue). R ++ r ∷ []) (made ∙ ap (row_of R) here)) in
    is ∙ ap (λ (j : ℕ). rows_from R (draws_from j x)) left ∙ one_more R m x ∙ ap₂ (λ (rs : List RowValue) (z : ℕ). rows_from rs (draws_from m z)) grown (sym there)

pub rows_end : (rows whole : List RowValue) (n k x : ℕ) → n < k + 1 → whole ≡ rows_from rows (draws_from (n - k) x) → rows ≡ whole
unfolding rows_from draws_from
rows_end rows whole n k x high is =
    let none : n - k ≡ 0 = omega arith in
    sym (is ∙ ap (λ (j : ℕ). rows_from rows (draws_from j x)) none)
