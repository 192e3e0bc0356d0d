use Rattle.local_clock.proofs.LocalTime.{apart, with_offset}
use Rattle.local_clock.proofs.laws.words_of_local_time.Goals as goal

pub returns : goal.returns
returns c = record { apart = apart; offset = with_offset }
