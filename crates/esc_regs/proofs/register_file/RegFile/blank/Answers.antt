use Rattle.std.proofs.Common.{◌<◌, arith}
use Rattle.std.proofs.lemmas.List.Elements.{All-replicate}
use Rattle.esc_regs.proofs.Zeros.{zeros_of_none, zero_of}
use Rattle.esc_regs.proofs.register_file.RegFile.blank.Goals as goal

pub invariant_of-result : goal.invariant_of-result
invariant_of-result c = (zeros_of_none c.args.kind 4096, All-replicate (λ b. b < 256) 4096 0 (omega arith))

pub returns-clause-blank : goal.returns-clause-blank
returns-clause-blank c = zero_of 4096
