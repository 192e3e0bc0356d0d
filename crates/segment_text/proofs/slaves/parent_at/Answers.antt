use Rattle.std.proofs.Common.{[], ◌≡◌, ◌∙◌, ap, ap₂, sym, subst, map, get_or, arith, ℕ, List, ◌<◌, length, true}
use Rattle.std.proofs.lemmas.List.{length-map, get_or-map}
use Rattle.segment_file.specs.Seen.{row_seen}
use Rattle.segment_text.specs.Text.{is_plain}
use Rattle.segment_text.proofs.slaves.parent_at.Goals as goal

pub returns-clause-is : goal.returns-clause-is
returns-clause-is c =
    let rows = c.args.rows.now in
    let row : c.from.result ≡ c.args.above.row = c.from.ensures in
    let low : c.from.result < length rows = omega (arith, row, c.requires.row) in
    let more : c.from.result < length (map row_seen rows) = omega (arith, low, length-map rows row_seen) in
    let d = c.index-rows-from.result in
    let seen = get_or-map row_seen rows c.from.result d (row_seen d) low in
    let id = get_or-map (λ r. r.id) (map row_seen rows) c.from.result (row_seen d) [] more ∙ ap (λ r. r.id) seen in
    ap₂ (λ (i : List ℕ) (p : ℕ). record { id = i; port = p }) (sym id ∙ ap (λ (k : ℕ). get_or (map (λ r. r.id) (map row_seen rows)) k []) row) c.port_number.ensures

pub returns-clause-plain : goal.returns-clause-plain
returns-clause-plain c =
    let rows = c.args.rows.now in
    let row : c.from.result ≡ c.args.above.row = c.from.ensures in
    let low : c.from.result < length rows = omega (arith, row, c.requires.row) in
    let more : c.from.result < length (map row_seen rows) = omega (arith, low, length-map rows row_seen) in
    let d = c.index-rows-from.result in
    subst (λ r. is_plain r.id ≡ true) (get_or-map row_seen rows c.from.result d (row_seen d) low) (c.requires.ids c.from.result (row_seen d) more)
