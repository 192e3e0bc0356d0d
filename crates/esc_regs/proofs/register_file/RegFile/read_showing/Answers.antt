use Rattle.std.proofs.Common.{◌≡◌, length, ap, ◌∙◌, arith, rules}
use Rattle.esc_regs.specs.declared.answers.Access.TheVariants.{Done}
use Rattle.esc_regs.proofs.Showing.{shown_twice}
use Rattle.esc_regs.proofs.TableFacts.{held_few}
use Rattle.esc_regs.proofs.register_file.RegFile.read_showing.Goals as goal

pub returns-clause-bytes : goal.returns-clause-bytes
returns-clause-bytes c = λ _.
    let same : c.self.inside.kind ≡ c.args.self.now.kind = cc in
    let whole : c.self.inside.bytes ≡ c.args.self.now.bytes = cc in
    let done : c.read.result ≡ Done = search rules in
    shown_twice c.args.self.now.kind c.self.inside.kind c.args.live.system_time c.args.live.next_due c.from-start.result c.args.addr _ c.args.self.now.bytes c.read.new.out c.show.new.out c.show-2.new.out
    same c.from-start.ensures (omega (arith, ap length whole, c.self.told)) c.read.auto.out (c.show.auto.out ∙ c.read.auto.out) (c.read.ensures.bytes done) c.show.ensures c.show-2.ensures (held_few c.self.inside.kind)
