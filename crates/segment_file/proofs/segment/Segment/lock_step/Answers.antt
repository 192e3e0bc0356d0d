use Rattle.segment_file.proofs.LegalLemmas.{legal_step}
use Rattle.segment_file.proofs.segment.Segment.lock_step.Goals as goal

pub returns-clause-some : goal.returns-clause-some
returns-clause-some c = rw (← c.self.view_is) (legal_step _ c.self.invariant.legal)
