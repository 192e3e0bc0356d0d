use Rattle.copy_law.proofs.Times.{copy_then, system_time_then}
use Rattle.copy_law.proofs.laws.system_times_begin_at_the_epoch.Goals as goal

pub returns : goal.returns
returns c = record {
  copy = λ s run p v m t it since. copy_then s run p v m t it.legal it.is it.ok since.there since.clock since.has since.early since.late;
  time = λ s run p v m t it since. system_time_then s run p v m t it.legal it.is it.ok since.there since.clock since.has since.early since.late;
}
