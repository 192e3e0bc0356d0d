use Rattle.segment_file.proofs.LegalLemmas.{reference_within}
use Rattle.segment_file.proofs.segment.Segment.reference.Goals as goal

pub returns-clause-row : goal.returns-clause-row
returns-clause-row c = rw (← c.self.view_is) (reference_within _ _ c.self.invariant.reference)
