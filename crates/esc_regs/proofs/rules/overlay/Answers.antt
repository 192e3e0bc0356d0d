use Rattle.esc_regs.proofs.Showing.{overlaid}
use Rattle.esc_regs.proofs.rules.overlay.Goals as goal

pub returns-then-low-high : goal.returns-then-low-high
returns-then-low-high c =
    overlaid c.args.at c.args.addr c.max-low.result c.min-high.result c.args.under.now c.args.over.now c.copy_from_slice.new.self c.max-low.ensures c.min-high.ensures c.if-low-high.true c.copy_from_slice.ensures.after
