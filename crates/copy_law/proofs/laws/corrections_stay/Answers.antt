use Rattle.copy_law.specs.Untouched.{ticks_to_correction}
use Rattle.copy_law.proofs.Untouching.{speed_untouched}
use Rattle.copy_law.proofs.Held.{alike_at, armed_alike, ran_alike, settled_alike, whole_alike}
use Rattle.copy_law.proofs.Slaves.{corrections_kept}
use Rattle.copy_law.proofs.laws.corrections_stay.Goals as goal

pub returns : goal.returns
returns c = record {
  settled = λ s first run legal was is. alike_at ticks_to_correction first.state.slaves run.state.slaves (settled_alike ticks_to_correction 0x0930 2 corrections_kept speed_untouched s legal first run was is);
  armed = λ s first run legal was is. alike_at ticks_to_correction first.state.slaves run.state.slaves (armed_alike ticks_to_correction 0x0930 2 corrections_kept speed_untouched s legal first run was is);
  ran = λ s first run legal was is. alike_at ticks_to_correction first.state.slaves run.state.slaves (ran_alike ticks_to_correction 0x0930 2 corrections_kept speed_untouched s legal first run was is);
  whole = λ s first run legal was is. alike_at ticks_to_correction first.state.slaves run.state.slaves (whole_alike ticks_to_correction 0x0930 2 corrections_kept speed_untouched s legal first run was is);
}
