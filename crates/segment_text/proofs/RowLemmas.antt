-- What holds of each row of a segment, at the row that the code has.
use Rattle.std.proofs.Common.{◌≡◌, ◌∙◌, ap, ap₂, sym, subst, ℕ, ◌<◌, List, length, map, get_or, arith, IfSome}
use Rattle.std.specs.Prelude.{Result, Ok, Err, OnOk}
use Rattle.std.specs.List.{All}
use Rattle.std.proofs.lemmas.List.{length-map, get_or-map}
use Rattle.serde_json.specs.Written.{compact_text}
use Rattle.segment_shape.specs.Slaves.{SlaveValue}
use Rattle.segment_shape.specs.Written.{slave_data}
use Rattle.segment_file.specs.declared.slave_row.SlaveRow.{SlaveRow}
use Rattle.segment_file.specs.Segment.{RowValue, SegmentValue}
use Rattle.segment_file.specs.Seen.{row_seen}
use Rattle.segment_file.specs.Legal.{IsLegal}
use Rattle.segment_file.specs.Written.{written_row}
use Rattle.segment_file.proofs.Exported.{parents_within}

pub at_row : (P : RowValue → Type 0) (rows : List SlaveRow) (seen : List RowValue) (k : ℕ) (item : SlaveRow) → map row_seen rows ≡ seen → k < length rows → item ≡ get_or rows k item → All P seen → P (row_seen item)
at_row P rows seen k item same low is all =
    subst P (get_or-map row_seen rows k item (row_seen item) low ∙ ap row_seen (sym is)) (subst (All P) (sym same) all k (row_seen item) (omega (arith, low, length-map rows row_seen)))

-- a parent is a row
pub parent_low : (s : SegmentValue) (rows : List SlaveRow) (k : ℕ) (item : SlaveRow) → IsLegal s → map row_seen rows ≡ s.rows → k < length rows → item ≡ get_or rows k item
    → IfSome item.above (λ a. a.row < length rows)
parent_low s rows k item legal same low is =
    let many : length s.rows ≡ length rows = ap length (sym same) ∙ length-map rows row_seen in
    subst (λ n. IfSome item.above (λ a. a.row < n)) many
    (at_row (λ r. IfSome r.above (λ a. a.row < length s.rows)) rows s.rows k item same low is (parents_within s.rows legal.tree.tree))

-- what is written for a row
pub written_at : (s : SegmentValue) (rows : List SlaveRow) (k : ℕ) (item : SlaveRow) → map row_seen rows ≡ s.rows → k < length rows → item ≡ get_or rows k item
    → written_row (map row_seen rows) (row_seen item) ≡ get_or (map (written_row s.rows) s.rows) k (written_row s.rows (row_seen item))
written_at s rows k item same low is =
    let all = map row_seen rows in
    let more : k < length all = omega (arith, low, length-map rows row_seen) in
    let here = get_or-map (written_row all) all k (row_seen item) (written_row all (row_seen item)) more ∙ ap (written_row all) (get_or-map row_seen rows k item (row_seen item) low ∙ ap row_seen (sym is)) in
    sym (subst (λ seen. get_or (map (written_row seen) seen) k (written_row seen (row_seen item)) ≡ written_row all (row_seen item)) same here)

-- and the text of it
pub text_at : (s : SegmentValue) (rows : List SlaveRow) (k : ℕ) (item : SlaveRow) (version : ℕ) → map row_seen rows ≡ s.rows → k < length rows → item ≡ get_or rows k item → version ≡ s.head.version
    → compact_text (slave_data version (written_row (map row_seen rows) (row_seen item))) ≡ compact_text (slave_data s.head.version (get_or (map (written_row s.rows) s.rows) k (written_row s.rows (row_seen item))))
text_at s rows k item version same low is v = ap₂ (λ (n : ℕ) (r : SlaveValue). compact_text (slave_data n r)) v (written_at s rows k item same low is)

pub on_ok : {A E P : Type 0} (r : Result A E) → P → OnOk r P
on_ok (Ok x) p = p
on_ok (Err e) p = tt
