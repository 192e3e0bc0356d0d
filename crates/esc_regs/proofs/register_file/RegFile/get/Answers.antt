use Rattle.std.proofs.Common.{◌≡◌, ap, ◌∙◌}
use Rattle.esc_regs.specs.RegisterTable.{is_wide}
use Rattle.esc_regs.proofs.Zeros.{narrow_number}
use Rattle.esc_regs.proofs.register_file.RegFile.get.Goals as goal

pub returns-clause-narrow : goal.returns-clause-narrow
returns-clause-narrow g c = λ eight narrow.
    let same : c.self.inside.kind ≡ c.args.self.now.kind = cc in
    narrow_number c.self.inside.kind g.row.ADDR g.W.RegWord.BYTES _ c.from.result c.self.inside.bytes c.from.ensures eight (ap is_wide same ∙ narrow) c.requires c.self.invariant.0 c.word_at.ensures.is c.word_at.ensures.low
