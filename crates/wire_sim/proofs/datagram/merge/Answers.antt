use Rattle.std.proofs.Common.{arith, refl, sym, ◌∙◌}
use Rattle.std.proofs.lemmas.List.{length-set}
use Rattle.wire_sim.proofs.Merging.{merged_more, merged_end}
use Rattle.wire_sim.proofs.datagram.merge.Goals as goal

pub loop-k-preserved : goal.loop-k-preserved
loop-k-preserved c =
    let l = c.loop-k in
    record {
      size = length-set l.room l.k _ ∙ l.invariant.size;
      room = merged_more c.args.payload.now l.room l.k _ (omega arith) (omega (arith, c.requires, l.invariant.size)) refl ∙ l.invariant.room;
    }

pub returns : goal.returns
returns c =
    let l = c.loop-k in
    sym (merged_end c.args.payload.now l.room l.k (omega arith) (omega (arith, c.requires, l.invariant.size))) ∙ l.invariant.room
