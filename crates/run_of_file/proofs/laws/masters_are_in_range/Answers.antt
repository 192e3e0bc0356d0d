use Rattle.run_of_file.proofs.InRange.{as_many_kinds, as_many_plans, some_rows, few_rows, lock_in_few, frames_few}
use Rattle.run_of_file.proofs.laws.masters_are_in_range.Goals as goal

pub returns : goal.returns
returns c = record { kinds = as_many_kinds; plans = as_many_plans; some = some_rows; few = few_rows; lock_in = lock_in_few; frames = frames_few }
