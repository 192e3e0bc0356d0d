use Rattle.frame_pass.proofs.Storage.{stores_number}
use Rattle.frame_pass.proofs.laws.stored_numbers.Goals as goal

pub returns : goal.returns
returns c = stores_number
