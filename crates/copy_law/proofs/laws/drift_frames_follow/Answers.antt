use Rattle.copy_law.proofs.Drifting.{begins_behind, found_behind, frame_there, last_behind, left_behind, one_behind}
use Rattle.copy_law.proofs.laws.drift_frames_follow.Goals as goal

pub returns : goal.returns
returns c = record {
  begins = λ s first it. begins_behind s first it;
  frame = λ s first run k it is low. frame_there s first it run is k low;
  next = λ s k t e legal frame. (found_behind s legal k t e frame, left_behind s legal k t e frame);
  last = λ s first run k it is same. last_behind s first it run is k same;
  one = λ s k t u b c. one_behind s k t u b c;
}
