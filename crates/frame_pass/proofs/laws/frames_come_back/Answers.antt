use Rattle.frame_pass.proofs.Schedule.{comes_back, is_lost, is_not_sent, numbered_step}
use Rattle.frame_pass.proofs.laws.frames_come_back.Goals as goal

pub returns : goal.returns
returns c = record { back = comes_back; lost = is_lost; unsent = is_not_sent; numbered = numbered_step }
