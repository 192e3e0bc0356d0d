use Rattle.wrap_time.proofs.Cuts.{cut_of_cut}
use Rattle.wrap_time.proofs.laws.cuts_of_cuts.Goals as goal

pub returns : goal.returns
returns c = cut_of_cut
