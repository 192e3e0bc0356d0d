use Rattle.std.proofs.Common.{◌≡◌, take}
use Rattle.wire_sim.proofs.build.losses.Given as goal

abbrev pub invariant-loop-loss : goal.invariant-loop-loss
invariant-loop-loss l = l.losses ≡ take l.loss-index l.loss-items
