use Rattle.copy_law.proofs.Bringing.{frame_brings, one_received}
use Rattle.copy_law.proofs.First.{behind_reference}
use Rattle.copy_law.proofs.States.{leaves}
use Rattle.copy_law.proofs.laws.drift_frames_bring_times.Goals as goal

pub returns : goal.returns
returns c = record {
  sent = λ s k t e legal frame. leaves s legal k t e frame;
  receipts = λ s k p r t e v w legal frame reference is at_r. frame_brings s legal k t e frame r reference w at_r p v is;
  often = λ s first p r legal clock other. one_received s legal first p r clock other;
  behind = λ s p r legal reference low clock other. behind_reference s legal r reference p low clock other;
}
