use Rattle.wrap_time.proofs.Cuts.{difference_of_cut}
use Rattle.wrap_time.proofs.laws.cuts_of_differences.Goals as goal

pub returns : goal.returns
returns c = difference_of_cut
