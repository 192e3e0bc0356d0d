use Rattle.std.proofs.Common.{arith}
use Rattle.ecat_link.proofs.Trying.{runs_none, try_lost, try_came}
use Rattle.ecat_link.proofs.tries.try_frame.Goals as goal

pub loop-try-init : goal.loop-try-init
loop-try-init g c = record {
  tried = runs_none g.L.Link.step _;
  later = omega arith;
  rose = omega arith;
}

pub returns-in-Ok-clause-tried : goal.returns-in-Ok-clause-tried
returns-in-Ok-clause-tried g c =
    let l = c.loop-try in
    (l._try, omega (arith, c.loop-try-test.true), try_came g.L.Link.step c.args.wait_ns c.args.sent.now _ _ _ l._try _ l.invariant.tried c.in-Ok.ensures.told)

pub returns-in-Ok-clause-later : goal.returns-in-Ok-clause-later
returns-in-Ok-clause-later g c = omega (arith, c.loop-try.invariant.later, c.in-Ok.ensures.cause.later)

pub loop-try-preserved : goal.loop-try-preserved
loop-try-preserved g c =
    let l = c.loop-try in
    let cause = c.in-Err.ensures.cause in
    record {
      tried = try_lost g.L.Link.step c.args.wait_ns c.args.sent.now _ _ _ l._try l.invariant.tried c.in-Err.ensures.told;
      later = omega (arith, cause.later, l.invariant.later);
      rose = omega (arith, cause.later, cause.failed, l.invariant.rose);
    }
