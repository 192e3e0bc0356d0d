use Rattle.std.proofs.Common.{◌≡◌, ℕ, List, slice_index, arith, ap, ◌∙◌}
use Rattle.esc_regs.specs.declared.clock_kind.ClockKind.{ClockKind}
use Rattle.esc_regs.specs.RegisterTable.{features}
use Rattle.esc_regs.specs.RegisterBytes.{with_number}
use Rattle.esc_regs.specs.RegisterFile.{Registers}
use Rattle.esc_regs.proofs.Starting.{put_is, start_byte, started_is, starts}
use Rattle.esc_regs.proofs.register_file.RegFile.new.Goals as goal
use Rattle.esc_regs.proofs.register_file.RegFile.new.Goals.{After-set-5}

bytes_are : (c : After-set-5) → (a : ℕ) → slice_index c.set-5.new.self.bytes a ≡ start_byte c.args.kind a
bytes_are c =
    let bytes : Registers → List ℕ = λ r. r.bytes in
    let s1 = put_is 1 0x0000 0x11 _ _ _ (ap bytes c.set.ensures.is) (omega (arith, c.blank-file.ensures.size)) c.blank-file.ensures.blank in
    let s2 = put_is 2 0x0008 (features c.args.kind) _ _ _ (ap bytes c.set-2.ensures.is ∙ ap (λ x. with_number 2 0x0008 x c.set.new.self.bytes) c.features.ensures) (omega (arith, c.set.ensures.whole.size)) s1 in
    let s3 = put_is 2 0x0930 0x1000 _ _ _ (ap bytes c.set-3.ensures.is) (omega (arith, c.set-2.ensures.whole.size)) s2 in
    let s4 = put_is 1 0x0934 4 _ _ _ (ap bytes c.set-4.ensures.is) (omega (arith, c.set-3.ensures.whole.size)) s3 in
    let s5 = put_is 1 0x0935 12 _ _ _ (ap bytes c.set-5.ensures.is) (omega (arith, c.set-4.ensures.whole.size)) s4 in
    s5

pub returns-clause-start : goal.returns-clause-start
returns-clause-start c = starts c.args.kind c.set-5.new.self.bytes (bytes_are c)

pub returns-clause-is : goal.returns-clause-is
returns-clause-is c =
    let kind : Registers → ClockKind = λ r. r.kind in
    let same : c.set-5.new.self.kind ≡ c.args.kind =
    ap kind c.set-5.ensures.is ∙ ap kind c.set-4.ensures.is ∙ ap kind c.set-3.ensures.is ∙ ap kind c.set-2.ensures.is ∙ ap kind c.set.ensures.is
    ∙ c.blank-file.ensures.kind in
    started_is c.args.kind c.set-5.new.self same c.set-5.ensures.whole.size (bytes_are c)
