use Rattle.wrap_time.proofs.Near.{word_difference_near}
use Rattle.wrap_time.proofs.laws.near_numbers.Goals as goal

pub returns : goal.returns
returns c = word_difference_near
