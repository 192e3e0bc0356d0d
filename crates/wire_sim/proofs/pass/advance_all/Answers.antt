use Rattle.std.proofs.Common.{◌<◌, length, arith, sym, ◌∙◌}
use Rattle.std.proofs.lemmas.List.{length-set}
use Rattle.frame_pass.specs.Advancing.{advanced_to}
use Rattle.wire_sim.proofs.Through.{each_more, each_end}
use Rattle.wire_sim.proofs.pass.advance_all.Goals as goal

pub loop-i-preserved : goal.loop-i-preserved
loop-i-preserved c =
    let l = c.loop-i in
    let h : l.i < length l.slaves = omega (arith, l.invariant.count) in
    record {
      count = length-set l.slaves l.i _ ∙ l.invariant.count;
      slaves = each_more (advanced_to c.args.t) l.slaves l.i c.index-slaves-i.result c.advance.new.self h c.advance.ensures ∙ l.invariant.slaves;
    }

pub returns : goal.returns
returns c =
    let l = c.loop-i in
    sym (each_end (advanced_to c.args.t) l.slaves l.i (omega (arith, l.invariant.count))) ∙ l.invariant.slaves
