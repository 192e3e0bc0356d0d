use Rattle.segment_start.proofs.AtSegments.{numbers_begin, numbers_step, numbers_finished}
use Rattle.segment_start.proofs.laws.edges_are_numbered.Goals as goal

pub returns : goal.returns
returns c = record { start = numbers_begin; step = numbers_step; finish = numbers_finished }
