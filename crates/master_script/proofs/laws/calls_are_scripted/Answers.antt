use Rattle.master_script.specs.Scripted.{none}
use Rattle.master_script.proofs.Limits.{calls_scripted}
use Rattle.master_script.proofs.laws.calls_are_scripted.Goals as goal

pub returns : goal.returns
returns c = record { none = λ cfg frames. none; then = λ cfg frames call before es a l s. calls_scripted cfg frames call before es l a s }
