use Rattle.std.proofs.Common.{◌≡◌, ◌∙◌, get_or, ap, sym, inl, inr}
use Rattle.esc_regs.specs.Kinds.{measures, has_clock}
use Rattle.segment_file.specs.Segment.{is_clock, is_measuring, clock_at, measures_at, row_at}
use Rattle.segment_file.specs.declared.slave_row.SlaveRow.{SlaveRow}
use Rattle.lost_step.specs.Rounds.{takes_part}
use Rattle.lost_step.proofs.Rows.{row_flag}
use Rattle.lost_step.proofs.tries.takes_part.Goals as goal

pub returns-in-Times : goal.returns-in-Times
returns-in-Times c =
    let s = c.args.segment.now in
    let row = c.index-rows-from.result in
    c.measures.ensures
    ∙ ap (λ (x : SlaveRow). measures x.kind) (sym c.index-rows-from.is)
    ∙ row_flag is_measuring s c.rows.result.now c.row_at-row.result row c.rows.ensures.is c.row_at-row.ensures.row (c.index-rows-from.is ∙ ap (λ k. get_or c.rows.result.now k row) c.from.ensures)
    ∙ ap (measures_at s.rows) c.row_at-row.ensures.is
    ∙ ap (λ round. takes_part s round c.args.position) (sym c.in-Times.is)

pub returns-in-Set : goal.returns-in-Set
returns-in-Set c =
    let s = c.args.segment.now in
    let row = c.index-rows-from.result in
    let p = c.args.position in
    let told : c.has_clock.result ≡ clock_at s.rows (row_at s p) =
    c.has_clock.ensures
    ∙ ap (λ (x : SlaveRow). has_clock x.kind) (sym c.index-rows-from.is)
    ∙ row_flag is_clock s c.rows.result.now c.row_at-row.result row c.rows.ensures.is c.row_at-row.ensures.row (c.index-rows-from.is ∙ ap (λ k. get_or c.rows.result.now k row) c.from.ensures)
    ∙ ap (clock_at s.rows) c.row_at-row.ensures.is in
    elim c.in-Set.is [ inl e ↦ told ∙ ap (λ round. takes_part s round p) (sym e) | inr e ↦ told ∙ ap (λ round. takes_part s round p) (sym e) ]
