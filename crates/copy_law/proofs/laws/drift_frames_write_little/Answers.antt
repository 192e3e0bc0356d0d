use Rattle.copy_law.proofs.Untouching.{delay_untouched, drift_step, offset_untouched, speed_untouched, times_untouched}
use Rattle.copy_law.proofs.laws.drift_frames_write_little.Goals as goal

pub returns : goal.returns
returns c = record { frames = drift_step; offset = offset_untouched; delay = delay_untouched; speed = speed_untouched; receive_times = times_untouched }
