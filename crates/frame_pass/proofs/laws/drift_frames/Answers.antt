use Rattle.frame_pass.proofs.Drifting.{frame_receives, frame_addressed, frame_quiet}
use Rattle.frame_pass.proofs.laws.drift_frames.Goals as goal

pub returns-clause-receives : goal.returns-clause-receives
returns-clause-receives c = frame_receives

pub returns-clause-addressed : goal.returns-clause-addressed
returns-clause-addressed c = frame_addressed

pub returns-clause-quiet : goal.returns-clause-quiet
returns-clause-quiet c = frame_quiet
