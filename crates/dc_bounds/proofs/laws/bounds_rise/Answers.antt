use Rattle.dc_bounds.proofs.Growth.{tick_gap_rises, count_gap_rises, jump_rises, least_ticks_rise}
use Rattle.dc_bounds.proofs.laws.bounds_rise.Goals as goal

pub returns : goal.returns
returns c = record { tick_gap = tick_gap_rises; count_gap = count_gap_rises; jump = jump_rises; least_ticks = least_ticks_rise }
