use Rattle.dc_bounds.proofs.Growth.{jump_within, within_jump, tick_gap_near}
use Rattle.dc_bounds.proofs.laws.sizes.Goals as goal

pub returns : goal.returns
returns c = record { within = jump_within; greatest = within_jump; small = tick_gap_near }
