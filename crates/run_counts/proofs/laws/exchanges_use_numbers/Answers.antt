use Rattle.lost_step.proofs.Exported.{asked_few, asked_ok}
use Rattle.run_counts.proofs.StepNumbers.{lost_there, numbers_used}
use Rattle.run_counts.proofs.laws.exchanges_use_numbers.Goals as goal

pub returns : goal.returns
returns c = record { few = asked_few; used = numbers_used; behind = asked_ok; lost = lost_there }
