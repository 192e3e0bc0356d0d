use Rattle.copy_law.proofs.BehindLatch.{armed_set, ran_set, settled_set, whole_set}
use Rattle.copy_law.proofs.Runs.{all_none_first, commissioned_set}
use Rattle.copy_law.proofs.laws.offsets_are_set.Goals as goal

pub returns : goal.returns
returns c = record {
  start = λ s p v legal. all_none_first s legal p v;
  commissioned = λ s run it. commissioned_set s it.legal run it.is it.ok;
  settled = λ s first run it. settled_set s it.legal first it.is it.ok run;
  armed = λ s first run it. armed_set s it.legal first it.is it.ok run;
  ran = λ s first run it. ran_set s it.legal first it.is it.ok run;
  whole = λ s first run it. whole_set s it.legal first it.is it.ok run;
}
