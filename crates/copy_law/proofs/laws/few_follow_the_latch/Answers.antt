use Rattle.copy_law.proofs.FewBehind.{few_behind, some_latched}
use Rattle.copy_law.proofs.Latched.{latched_within}
use Rattle.run_of_file.specs.MasterOfFile.{master_of}
use Rattle.copy_law.proofs.laws.few_follow_the_latch.Goals as goal

pub returns : goal.returns
returns c = record {
  some = λ s run it. some_latched s it.legal run it.is it.ok;
  within = λ s run it. latched_within (master_of s) run.exchanges;
  few = λ s run it. few_behind s it.legal run it.is it.ok;
}
