use Rattle.std.proofs.Common.{◌≡◌, ◌+◌, ◌-◌, ◌≤◌, length, slice_index, ap, ◌∙◌, arith}
use Rattle.std.specs.Prelude.{if◌then◌else◌, slice_range}
use Rattle.esc_regs.specs.RegisterTable.{is_within}
use Rattle.esc_regs.proofs.Showing.{laid_in, range_byte, range_length}
use Rattle.esc_regs.proofs.rules.store_in.Goals as goal

pub returns : goal.returns
returns c =
    let at = c.args.at in
    let n = c.args.n in
    let bytes = c.args.bytes.now in
    let held = c.args.held.now in
    let room : at + n ≤ length held = omega (arith, c.requires.size, c.requires.place) in
    let long : length (slice_range held at (at + n)) ≡ n = range_length held at n room in
    laid_in at n c.args.addr bytes held c.overlay.new.under room (c.overlay.auto.under ∙ long) (λ k h.
    c.overlay.ensures k (omega (arith, long, h)) ∙ ap (λ y. if is_within (at + k) c.args.addr (length bytes) then slice_index bytes (at + k - c.args.addr) else y) (range_byte held at n k room h))
