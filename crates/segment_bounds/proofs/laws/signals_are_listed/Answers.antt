use Rattle.segment_bounds.proofs.SignalLemmas.{legal_signals}
use Rattle.segment_bounds.proofs.laws.signals_are_listed.Goals as goal

pub returns : goal.returns
returns c = legal_signals
