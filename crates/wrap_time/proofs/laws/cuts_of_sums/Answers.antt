use Rattle.wrap_time.proofs.Cuts.{sum_of_cuts, sum_of_cut}
use Rattle.wrap_time.proofs.laws.cuts_of_sums.Goals as goal

pub returns-clause-words : goal.returns-clause-words
returns-clause-words c = sum_of_cuts

pub returns-clause-number : goal.returns-clause-number
returns-clause-number c = sum_of_cut
