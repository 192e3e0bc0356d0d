use Rattle.std.proofs.Common.{◌≡◌, to_z, of_z}
use Rattle.std.specs.Int.{w128}
use Rattle.std.proofs.lemmas.Int.{to_z-of_z}
use Rattle.dc_top.specs.CheckText.{numbers_text}
use Rattle.dc_top.proofs.check.push_numbers.Goals as goal

pub returns : goal.returns
unfolding numbers_text
returns c =
    let same : to_z w128 (of_z w128 c.args.mu) ≡ c.args.mu = to_z-of_z w128 c.args.mu c.ranges.mu in
    rw same at c.writeln.ensures.bytes
