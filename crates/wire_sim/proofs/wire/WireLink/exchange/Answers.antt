use Rattle.std.proofs.Common.{ap}
use Rattle.frame_pass.specs.SegmentState.{SegmentState}
use Rattle.wire_sim.specs.contracts.wire.Wire.{the_view}
use Rattle.wire_sim.proofs.Step.{told_late, told_sent, loses}
use Rattle.wire_sim.proofs.wire.WireLink.exchange.Goals as goal

pub returns-then-self-ge-MOST_SENDINGS-clause-told : goal.returns-then-self-ge-MOST_SENDINGS-clause-told
returns-then-self-ge-MOST_SENDINGS-clause-told c =
    let s : SegmentState = the_view c.self.inside in
    rw (← c.self.view_is) (told_late s _ c.args.wait_ns c.args.frame.now c.if-self-ge-MOST_SENDINGS.true
    (ap (λ n. record s { lost = n }) c.saturating_add-self-inside.ensures))

pub returns-clause-told : goal.returns-clause-told
returns-clause-told c =
    told_sent c.args.self.now c.leave-after.new.self c.carry.new.self c.args.wait_ns c.args.frame.now c.phase_of-phase.result c.leave-after.result _
    (rw (← c.self.view_is) c.if-self-ge-MOST_SENDINGS.false)
    c.phase_of-phase.ensures.phase c.leave-after.ensures.is c.leave-after.ensures.lost c.carry.ensures.state c.carry.ensures.back

pub returns-clause-lost : goal.returns-clause-lost
returns-clause-lost c =
    loses c.args.self.now c.leave-after.new.self c.args.wait_ns c.args.frame.now c.phase_of-phase.result c.leave-after.result c.carry.result
    (rw (← c.self.view_is) c.if-self-ge-MOST_SENDINGS.false)
    c.phase_of-phase.ensures.phase c.leave-after.ensures.is c.leave-after.ensures.lost c.carry.ensures.lost
