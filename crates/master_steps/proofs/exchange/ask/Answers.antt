use Rattle.std.proofs.Common.{refl, arith}
use Rattle.master_steps.proofs.Counting.{counted_none, counted_then}
use Rattle.master_steps.specs.ConfigRange.{value_of}
use Rattle.master_steps.proofs.Trying.{tried_none, tried_lost, tried_came, tried_all}
use Rattle.master_steps.proofs.exchange.ask.Goals as goal

pub loop-try-init : goal.loop-try-init
loop-try-init g c = record {
  serves = λ w rest e. tried_none g.L.Link.step (value_of c.args.config.now) c.args.step w rest _ _;
  sent = omega arith;
  fewer = c.requires.lost;
  drifts = c.requires.drifts;
  still = λ h. refl;
  all = λ h. refl;
  later = omega arith;
  counted = counted_none c.args.counters.now _;
  rose = omega arith;
}

pub returns-in-Some-clause-serves : goal.returns-in-Some-clause-serves
returns-in-Some-clause-serves g c w rest e =
    let l = c.loop-try in
    tried_came g.L.Link.step (value_of c.args.config.now) c.args.step w rest _ l.counters _ _ _ _ _ _ l._try _ _ c.loop-try-test.true refl e c.drift_frames.ensures.is c.in-Some.ensures.counters
    (l.invariant.serves w rest e) c.in-Some.ensures.told

pub loop-try-preserved : goal.loop-try-preserved
loop-try-preserved g c =
    let l = c.loop-try in
    let lost = c.in_default.ensures.lost refl in
    let later = c.in_default.ensures.later in
    let counters = c.in_default.ensures.counters in
    record {
      serves = λ w rest e. tried_lost g.L.Link.step (value_of c.args.config.now) c.args.step w rest _ l.counters _ _ _ _ _ _ l._try _ c.loop-try-test.true refl e c.drift_frames.ensures.is counters
          (l.invariant.serves w rest e) c.in_default.ensures.told;
      sent = rw counters (omega (arith, l.invariant.sent));
      fewer = rw counters (omega (arith, l.invariant.fewer));
      drifts = rw counters (omega (arith, l.invariant.drifts, c.drift_frames.ensures.few));
      still = λ h. let d = l.invariant.still h in let z = c.drift_frames.ensures.is in rw counters (omega (arith, d, z, h));
      all = λ h. let d = l.invariant.all h in let z = c.drift_frames.ensures.is in rw counters (omega (arith, d, z, h));
      later = omega (arith, later, l.invariant.later);
      counted = counted_then c.args.counters.now l.counters c.send.new.counters _ _ _ l.invariant.counted c.in_default.ensures.counted;
      rose = omega (arith, later, lost, l.invariant.rose);
    }

pub returns-clause-serves : goal.returns-clause-serves
returns-clause-serves g c w rest e =
    let l = c.loop-try in
    tried_all g.L.Link.step (value_of c.args.config.now) c.args.step w rest _ l.counters _ _ l._try c.args.sent.now (omega arith) (l.invariant.serves w rest e)
