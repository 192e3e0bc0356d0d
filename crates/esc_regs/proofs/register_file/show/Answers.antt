use Rattle.std.proofs.Common.{◌+◌, length, ap, ◌∙◌, arith}
use Rattle.std.specs.Prelude.{slice_range}
use Rattle.esc_regs.specs.RegisterBytes.{with_number}
use Rattle.esc_regs.proofs.Showing.{laid_over, cut_digits, cut_length}
use Rattle.esc_regs.proofs.register_file.show.Goals as goal

pub returns-in-Some : goal.returns-in-Some
returns-in-Some c = λ file size is.
    let m = c.held.result in
    let x = c.in-Some.number in
    let few = c.held.ensures.within in
    let digits = c.to_le_bytes-bytes.ensures in
    rw c.in-Some.is
    (laid_over m c.args.at x c.args.start _ c.args.out.now c.overlay.new.under file (omega (arith, size, few, c.requires.place)) (omega (arith, size, c.requires.room)) c.overlay.auto.under
    (cut_length m x _ digits few) (λ j h. cut_digits m x j _ digits few h) c.overlay.ensures is
    ∙ ap (λ n. slice_range (with_number n c.args.at x file) c.args.start (c.args.start + length c.args.out.now)) c.held.ensures.is)
