use Rattle.std.proofs.Common.{◌≡◌, false, length, sym, ap, ◌∙◌}
use Rattle.esc_regs.specs.RegisterAccess.{is_refused}
use Rattle.esc_regs.proofs.OwnTimes.{own_written, from_test, to_test}
use Rattle.esc_regs.proofs.register_file.RegFile.write.Goals as goal

pub returns-then-is_own_time-clause-is : goal.returns-then-is_own_time-clause-is
returns-then-is_own_time-clause-is c =
    let n = length c.args.bytes.now in
    let at = c.from-start.result in
    let kind : c.args.self.now.kind ≡ c.self.inside.kind = cc in
    let done : is_refused c.args.self.now.kind at n ≡ false = ap (λ k. is_refused k at n) kind ∙ sym c.is_refused.ensures ∙ c.if-is_refused.false in
    let own = sym c.is_own_time.ensures ∙ c.if-is_own_time.true in
    own_written c.args.self.now c.args.addr at c.args.bytes.now c.from-start.ensures done (from_test at n own) (to_test at n own)
