use Rattle.local_clock.proofs.LocalTime.{shown, reading_is, whole_in_turn, rises}
use Rattle.local_clock.proofs.laws.local_time_is_cut.Goals as goal

pub returns-clause-clock : goal.returns-clause-clock
returns-clause-clock c = shown

pub returns-clause-reading : goal.returns-clause-reading
returns-clause-reading c = reading_is

pub returns-clause-in_turn : goal.returns-clause-in_turn
returns-clause-in_turn c = whole_in_turn

pub returns-clause-slowest : goal.returns-clause-slowest
returns-clause-slowest c = λ s t k c events run early late order is. (rises s t k c events run early late order is).0

pub returns-clause-fastest : goal.returns-clause-fastest
returns-clause-fastest c = λ s t k c events run early late order is. (rises s t k c events run early late order is).1
