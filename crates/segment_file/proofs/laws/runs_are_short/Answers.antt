use Rattle.segment_file.proofs.LegalLemmas.{legal_frames, legal_edges}
use Rattle.segment_file.proofs.laws.runs_are_short.Goals as goal

pub returns : goal.returns
returns c = record { frames = legal_frames; edges = legal_edges }
