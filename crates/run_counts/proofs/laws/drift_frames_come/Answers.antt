use Rattle.run_counts.proofs.Settled.{one_drift_comes}
use Rattle.run_counts.proofs.laws.drift_frames_come.Goals as goal

pub returns : goal.returns
returns c = λ s first legal. one_drift_comes s legal first
