use Rattle.dc_bounds.proofs.RunLength.{frames_cover, long_enough, last_edge}
use Rattle.dc_bounds.proofs.laws.run_is_long_enough.Goals as goal

pub returns : goal.returns
returns c = record { frames = frames_cover; ticks = long_enough; edges = last_edge }
