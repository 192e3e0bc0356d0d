-- What is told of a row is that of the row that a segment holds.
use Rattle.std.proofs.Common.{◌≡◌, ℕ, ◌<◌, Bool, false, List, length, map, get_or, sym, ap, ◌∙◌, arith}
use Rattle.std.proofs.lemmas.List.{length-map, get_or-map}
use Rattle.dc_bounds.specs.Weight.{flag}
use Rattle.segment_file.specs.declared.slave_row.SlaveRow.{SlaveRow}
use Rattle.segment_file.specs.Seen.{row_seen}
use Rattle.segment_file.specs.Segment.{RowValue, SegmentValue}

pub row_flag : (test : RowValue → Bool) (s : SegmentValue) (rows : List SlaveRow) (r : ℕ) (row : SlaveRow) → map row_seen rows ≡ s.rows → r < length s.rows → row ≡ get_or rows r row
    → test (row_seen row) ≡ flag (map test s.rows) r
row_flag test s rows r row seen low is =
    let many = length-map rows row_seen in
    let same = ap length seen in
    let within : r < length rows = omega (arith, low, many, same) in
    let at : get_or s.rows r (row_seen row) ≡ row_seen row =
    ap (λ xs. get_or xs r (row_seen row)) (sym seen) ∙ get_or-map row_seen rows r row (row_seen row) within ∙ ap row_seen (sym is) in
    sym (get_or-map test s.rows r (row_seen row) false low ∙ ap test at)
