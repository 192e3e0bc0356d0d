use Rattle.std.proofs.Common.{◌<◌, ◌++◌, length, take, refl, arith}
use Rattle.std.proofs.lemmas.List.{length-append}
use Rattle.dc_base.proofs.ToldLemmas.{Consumes-more}
use Rattle.dc_base.proofs.whole.read_all.Goals as goal

pub returns-then-count-limit-clause-given : goal.returns-then-count-limit-clause-given
returns-then-count-limit-clause-given g c =
    let sofar = c.loop-count.bytes.items in
    let piece = take c.in-Ok.count c.read.new.buf in
    let long : c.args.limit < length (sofar ++ piece) = omega (arith, length-append sofar piece, c.in-Ok.ensures.bound) in (
      sofar ++ piece,
      Consumes-more _ _ _ sofar piece c.loop-count.invariant.front c.in-Ok.ensures.bytes.0,
      (λ _. long, λ _. refl),
    )

pub returns-then-is_err-clause-given : goal.returns-then-is_err-clause-given
returns-then-is_err-clause-given g c =
    let sofar = c.loop-count.bytes.items in
    let piece = take c.in-Ok.count c.read.new.buf in (
      sofar ++ piece,
      Consumes-more _ _ _ sofar piece c.loop-count.invariant.front c.in-Ok.ensures.bytes.0,
      (λ e. cc, λ long. absurd (omega (arith, length-append sofar piece, c.in-Ok.ensures.bound))),
    )
