use Rattle.std.proofs.Common.{arith}
use Rattle.ecat_link.proofs.Serving.{serves_none, serves_weaker}
use Rattle.ecat_link.proofs.Repeating.{none_sent, once_lost, once_came, ends}
use Rattle.ecat_link.proofs.tests.repeat.repeat.Goals as goal
use Rattle.ecat_link.proofs.tests.repeat.repeat.Goals.{in-Ok, in-Err}

pub loop-sent-init : goal.loop-sent-init
loop-sent-init g c = record {
  serves = serves_none g.L.Link.step _ _ _ _ none_sent;
  few = omega arith;
  cause = omega arith;
}

pub loop-sent-preserved : goal.loop-sent-preserved
loop-sent-preserved g c =
    let l = c.loop-sent in
    let kept = l.invariant in
    elim c.match-exchange.branch [
      | in-Ok w ↦
          let cause = w.in-Ok.ensures.cause in
          rw w.lost-is (record {
            serves = once_came g.L.Link.step c.args.wait_ns c.args.times c.args.frame.now _ _ _ _ l._sent l.lost _ c.loop-sent-test.true kept.serves w.in-Ok.ensures.told;
            few = omega arith;
            cause = omega (arith, cause.later);
          })
      | in-Err w ↦
          let cause = w.in-Err.ensures.cause in
          rw w.lost-is (record {
            serves = once_lost g.L.Link.step c.args.wait_ns c.args.times c.args.frame.now _ _ _ _ l._sent l.lost c.loop-sent-test.true kept.serves w.in-Err.ensures.told;
            few = omega arith;
            cause = omega (arith, cause.later, cause.failed);
          })
    ]

pub returns-clause-serves : goal.returns-clause-serves
returns-clause-serves g c =
    serves_weaker g.L.Link.step _ _ _ _ _ _ _ (λ es p. p) (λ es h. ends c.args.wait_ns c.args.frame.now c.args.times c.loop-sent._sent c.loop-sent.lost es (omega arith) h) c.loop-sent.invariant.serves
