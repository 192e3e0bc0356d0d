use Rattle.std.proofs.Common.{◌-◌, ◌<◌, length, drop, arith, sym, ap, ◌∙◌}
use Rattle.std.proofs.lemmas.List.{length-set}
use Rattle.ecat_frame.specs.FrameGrammar.{FrameValue}
use Rattle.wire_sim.proofs.InOrder.{with_datagrams}
use Rattle.wire_sim.proofs.Through.{slaves_more, frame_more, slaves_end, frame_end, reached_all, behind_all}
use Rattle.wire_sim.proofs.pass.pass.Goals as goal

pub loop-i-preserved : goal.loop-i-preserved
loop-i-preserved c =
    let l = c.loop-i in
    let e = c.pass_one.ensures in
    let y = c.index-slaves-i.result in
    let n = c.min-count.result in
    let h : l.i < length l.slaves = omega (arith, c.min-count.ensures, l.invariant.size) in
    record {
      size = length-set l.slaves l.i _ ∙ l.invariant.size;
      room = e.room ∙ l.invariant.room;
      slaves = slaves_more l.slaves n l.i c.args.sent c.args.end y c.pass_one.new.slave l.frame.datagrams c.pass_one.new.frame.datagrams h (omega arith)
          e.slave (ap (λ (f : FrameValue). f.datagrams) e.frame) ∙ l.invariant.slaves;
      frame = frame_more l.slaves n l.i c.args.sent y c.pass_one.new.slave l.frame c.pass_one.new.frame h (omega arith) e.frame ∙ l.invariant.frame;
    }

pub returns-clause-slaves : goal.returns-clause-slaves
returns-clause-slaves c =
    let l = c.loop-i in
    let n = c.min-count.result in
    sym (slaves_end l.slaves (n - l.i) l.i c.args.sent c.args.end l.frame.datagrams (omega arith)) ∙ l.invariant.slaves
    ∙ reached_all n c.args.reach c.args.sent c.args.end c.args.slaves.now c.args.frame.now.datagrams c.min-count.ensures

pub returns-clause-frame : goal.returns-clause-frame
returns-clause-frame c =
    let l = c.loop-i in
    let n = c.min-count.result in
    sym (frame_end l.frame (n - l.i) c.args.sent (drop l.i l.slaves) (omega arith)) ∙ l.invariant.frame
    ∙ ap (with_datagrams c.args.frame.now) (behind_all n c.args.reach c.args.sent c.args.slaves.now c.args.frame.now.datagrams c.min-count.ensures)
