use Rattle.frame_pass.proofs.Schedule.{on_time_step, next_leaves, on_time_runs, sending_times}
use Rattle.frame_pass.proofs.laws.sending_times.Goals as goal

pub returns : goal.returns
returns c = record { step = on_time_step; next = next_leaves; runs = on_time_runs; start = sending_times }
