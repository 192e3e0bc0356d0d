use Rattle.std.proofs.Common.{refl, arith}
use Rattle.osc_clock.proofs.ticker.Ticker.new.Goals as goal

pub share-requires : goal.share-requires
share-requires c = let some = c.phase-phase.ensures.running.some in let is = c.phase-phase.ensures.is in omega (arith, some, is)

pub invariant_of-result : goal.invariant_of-result
invariant_of-result c = record {
  running = c.phase-phase.ensures.running;
  tick = refl;
  since = refl;
  period = c.phase-phase.ensures.is;
  steady = refl;
  share = c.share.ensures;
}
