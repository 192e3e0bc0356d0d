use Rattle.std.proofs.Common.{◌≡◌, arith, sym, ◌∙◌}
use Rattle.ecat_frame.proofs.Exported.{length-modify}
use Rattle.frame_pass.specs.DatagramAtSlave.{datagram_after, slave_after, is_latching}
use Rattle.wire_sim.proofs.InOrder.{found, slave_more, frame_more, latching_more, slave_end, frame_end, latching_end, at_found}
use Rattle.wire_sim.proofs.pass.answer_all.Goals as goal

pub loop-k-preserved : goal.loop-k-preserved
loop-k-preserved c =
    let l = c.loop-k in
    let i = l.invariant in
    let e = c.answer-latches.ensures in
    let f = l.frame in
    let g = c.answer-latches.new.frame in
    let s = l.slave in
    let t = c.answer-latches.new.slave in
    let d = found f.datagrams l.k (omega (arith, i.count)) in
    let h = at_found f.datagrams l.k (λ d. t ≡ slave_after s d) d.0 d.1 e.slave in
    let r = at_found f.datagrams l.k (λ d. c.answer-latches.result ≡ is_latching s d) d.0 d.1 e.latches in
    record {
      count = rw e.frame (length-modify l.k (datagram_after s) f.datagrams ∙ i.count);
      room = e.room ∙ i.room;
      slave = slave_more f g l.k s t d.0 d.1 e.frame h ∙ i.slave;
      frame = frame_more f g l.k s t d.0 d.1 e.frame h ∙ i.frame;
      latches = latching_more f g l.k s t l.latches c.answer-latches.result d.0 d.1 e.frame h r ∙ i.latches;
    }

pub returns-clause-slave : goal.returns-clause-slave
returns-clause-slave c = let l = c.loop-k in sym (slave_end l.frame l.k l.slave (omega (arith, l.invariant.count))) ∙ l.invariant.slave

pub returns-clause-frame : goal.returns-clause-frame
returns-clause-frame c = let l = c.loop-k in sym (frame_end l.frame l.k l.slave (omega (arith, l.invariant.count))) ∙ l.invariant.frame

pub returns-clause-latches : goal.returns-clause-latches
returns-clause-latches c = let l = c.loop-k in sym (latching_end l.frame l.k l.slave l.latches (omega (arith, l.invariant.count))) ∙ l.invariant.latches
