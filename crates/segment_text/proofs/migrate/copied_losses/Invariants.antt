use Rattle.std.proofs.Common.{◌≡◌, take}
use Rattle.segment_text.proofs.migrate.copied_losses.Given as goal

abbrev pub invariant-loop-loss : goal.invariant-loop-loss
invariant-loop-loss l = l.copy ≡ take l.loss-index l.losses
