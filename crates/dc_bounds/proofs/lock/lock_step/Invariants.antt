use Rattle.std.proofs.Common.{◌≡◌}
use Rattle.dc_bounds.specs.LockNumbers.{gain, least_of}
use Rattle.dc_bounds.proofs.lock.lock_step.Given as goal

abbrev pub invariant-loop-more : goal.invariant-loop-more
invariant-loop-more l = l.least ≡ least_of (gain l.ppm l.frame_ns l.speed) l.more
