use Rattle.frame_pass.proofs.Fixed.{fixed_passed, fixed_advanced, same_step, same_finished, same_expected}
use Rattle.frame_pass.proofs.laws.fixed_parts.Goals as goal

pub returns : goal.returns
returns c = record { frame = fixed_passed; time = fixed_advanced; step = same_step; finish = same_finished; expect = same_expected }
