use Rattle.segment_file.proofs.LegalLemmas.{legal_round_trip, legal_step, legal_start, legal_fits}
use Rattle.segment_file.proofs.laws.times_fit.Goals as goal

pub returns : goal.returns
returns c = record { trip = legal_round_trip; step = legal_step; start = legal_start; fits = legal_fits }
