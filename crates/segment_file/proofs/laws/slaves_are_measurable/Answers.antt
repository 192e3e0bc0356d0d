use Rattle.segment_file.proofs.LegalLemmas.{legal_reference, legal_measurable}
use Rattle.segment_file.proofs.laws.slaves_are_measurable.Goals as goal

pub returns : goal.returns
returns c = record { reference = legal_reference; measurable = legal_measurable }
