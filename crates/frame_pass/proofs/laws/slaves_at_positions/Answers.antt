use Rattle.frame_pass.proofs.AtPositions.{step_reached, step_stays, finished_at, not_latching}
use Rattle.frame_pass.proofs.laws.slaves_at_positions.Goals as goal

pub returns : goal.returns
returns c = record { reached = step_reached; stays = step_stays; finish = finished_at; unlatched = not_latching }
