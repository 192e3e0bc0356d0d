use Rattle.std.proofs.Common.{◌≡◌, ◌<◌, length, false, arith, rules, ◌∙◌}
use Rattle.dc_bounds.specs.Weight.{flag}
use Rattle.dc_delay.proofs.Finding.{found_later}
use Rattle.dc_delay.proofs.judgement.first_timed.Goals as goal

pub loop-position-preserved : goal.loop-position-preserved
loop-position-preserved c =
    let less : c.loop-position.position < length c.args.shape.now = omega (arith, c.len-position-end.ensures.is, c.loop-position-test.true) in
    let test : flag c.args.timed.now c.loop-position.position ≡ false = search rules in
    c.loop-position.invariant ∙ found_later (flag c.args.timed.now) (length c.args.shape.now) c.loop-position.position less test
