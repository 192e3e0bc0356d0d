use Rattle.std.proofs.Common.{◌≡◌, arith, sym, ap, ◌∙◌}
use Rattle.esc_regs.specs.RegisterBytes.{number_at, with_number}
use Rattle.esc_regs.specs.RegisterTable.{is_wide}
use Rattle.esc_regs.proofs.Bytes.{bytes_after_set}
use Rattle.esc_regs.proofs.Numbers.{apart, number_again}
use Rattle.esc_regs.proofs.TableFacts.{register_within}
use Rattle.esc_regs.proofs.Zeros.{zeros_after_set, zeros_along}
use Rattle.esc_regs.proofs.register_file.RegFile.set.Goals as goal
use Rattle.esc_regs.proofs.register_file.RegFile.set.Given.{Over}
use Rattle.esc_regs.proofs.register_file.RegFile.set.Goals.{After-store}

stored : (g : Over) (c : After-store g) → c.store.new.bytes ≡ with_number g.W.RegWord.BYTES g.row.ADDR (g.W.RegWord.number c.args.value) c.self.inside.bytes
stored g c =
    c.store.ensures.bytes ∙ ap (λ at. with_number g.W.RegWord.BYTES at (g.W.RegWord.number c.args.value) c.self.inside.bytes) c.from.ensures

pub invariant_of-self : goal.invariant_of-self
invariant_of-self g c =
    let fits = register_within g.row.ADDR g.W.RegWord.BYTES c.requires.register in
    let same : c.self.inside.kind ≡ c.args.self.now.kind = cc in (
      zeros_along _ _ _ (stored g c) (zeros_after_set c.self.inside.kind g.row.ADDR g.W.RegWord.BYTES (g.W.RegWord.number c.args.value) c.self.inside.bytes c.requires.register (omega (arith, fits, c.self.told)) (λ wide narrow. c.requires.narrow wide (ap is_wide (sym same) ∙ narrow)) c.self.invariant.0),
      rw (stored g c) (bytes_after_set g.W.RegWord.BYTES g.row.ADDR (g.W.RegWord.number c.args.value) c.self.inside.bytes c.self.invariant.1),
    )

pub returns-clause-apart : goal.returns-clause-apart
returns-clause-apart g c = λ at n far.
    let fits = register_within g.row.ADDR g.W.RegWord.BYTES c.requires.register in
    let same : c.self.inside.bytes ≡ c.args.self.now.bytes = cc in
    ap (number_at n at) (stored g c)
    ∙ apart g.W.RegWord.BYTES g.row.ADDR (g.W.RegWord.number c.args.value) c.self.inside.bytes at n (omega (arith, fits, c.self.told)) far
    ∙ ap (number_at n at) same

pub returns-clause-whole : goal.returns-clause-whole
returns-clause-whole g c = record { size = omega (arith, c.store.auto.bytes, c.self.told); zeros = (invariant_of-self g c).0; are_bytes = (invariant_of-self g c).1 }

pub returns-clause-gives : goal.returns-clause-gives
returns-clause-gives g c =
    let fits = register_within g.row.ADDR g.W.RegWord.BYTES c.requires.register in
    ap (number_at g.W.RegWord.BYTES g.row.ADDR) (stored g c)
    ∙ number_again g.W.RegWord.BYTES g.row.ADDR (g.W.RegWord.number c.args.value) c.self.inside.bytes (omega (arith, fits, c.self.told)) c.store.ensures.fits
