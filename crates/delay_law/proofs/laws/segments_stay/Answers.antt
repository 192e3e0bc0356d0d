use Rattle.frame_pass.proofs.Exported.{timely_step}
use Rattle.honest_slaves.proofs.Exported.{same_many}
use Rattle.segment_start.proofs.Exported.{as_many, starts_timely}
use Rattle.std.proofs.Common.{◌∙◌}
use Rattle.delay_law.proofs.Frames.{fixed_step}
use Rattle.delay_law.proofs.Places.{fixed_first}
use Rattle.delay_law.proofs.laws.segments_stay.Goals as goal

pub returns-clause-start : goal.returns-clause-start
returns-clause-start c = λ s legal. record { many = as_many s legal; sound = starts_timely s legal; fixed = fixed_first s legal }

pub returns-clause-step : goal.returns-clause-step
returns-clause-step c = λ s t wait_ns f legal stands. record {
  many = same_many t wait_ns f ∙ stands.many;
  sound = timely_step t wait_ns f stands.sound;
  fixed = fixed_step s legal t stands.many stands.sound stands.fixed wait_ns f;
}
