use Rattle.segment_draw.proofs.LegalLemmas.{generated_legal}
use Rattle.segment_draw.proofs.segment.generate.Goals as goal

pub returns-in_err-segment-clause-legal : goal.returns-in_err-segment-clause-legal
returns-in_err-segment-clause-legal c = generated_legal c.args.n c.args.seed c.requires.0 c.requires.1
