use Rattle.std.proofs.Common.{arith, ap, length}
use Rattle.std.proofs.Math.Seq.{take-add}
use Rattle.std.proofs.lemmas.List.{length-drop, take_rest}
use Rattle.dc_base.proofs.ToldLemmas.{Appends-more}
use Rattle.dc_base.proofs.whole.write_whole.Goals as goal

pub loop-done-preserved : goal.loop-done-preserved
loop-done-preserved g c =
    let xs = c.args.bytes.now in
    let i = c.loop-done.done in
    record {
      within = let b = c.in-Ok.ensures.bound in omega (arith, rw take_rest at b, length-drop i xs);
      front = let e = c.in-Ok.ensures.bytes in rw (take-add i c.in-Ok.count xs) (Appends-more _ _ _ _ _ c.loop-done.invariant.front (rw take_rest at e));
      later = omega (arith, c.in-Ok.ensures.cause.later);
      untouched = λ none. absurd (omega (arith, ap length none));
    }
