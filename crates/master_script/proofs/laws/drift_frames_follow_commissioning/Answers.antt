use Rattle.master_script.proofs.Wants.{wanted_other, wanted_drift}
use Rattle.master_script.proofs.laws.drift_frames_follow_commissioning.Goals as goal

pub returns : goal.returns
returns c = record {
  commission = λ cfg es wait_ns frame some h. let w = wanted_other cfg es wait_ns frame some h in (w.first, w.is, w.other);
  drift = wanted_drift;
}
