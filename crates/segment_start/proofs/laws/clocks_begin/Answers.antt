use Rattle.segment_start.proofs.Times.{clocks_begin}
use Rattle.segment_start.proofs.laws.clocks_begin.Goals as goal

pub returns : goal.returns
returns c = clocks_begin
