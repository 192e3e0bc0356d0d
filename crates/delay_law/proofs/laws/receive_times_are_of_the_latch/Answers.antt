use Rattle.honest_slaves.proofs.Exported.{came_back}
use Rattle.std.proofs.Common.{subst, sym}
use Rattle.delay_law.specs.Far.{AreFar}
use Rattle.delay_law.proofs.Far.{latch_far}
use Rattle.delay_law.proofs.Frames.{holds_step, latch_step}
use Rattle.delay_law.proofs.laws.receive_times_are_of_the_latch.Goals as goal

pub returns-clause-kept : goal.returns-clause-kept
returns-clause-kept c = λ s t sent wait_ns f legal stands far holds. holds_step s legal t stands.many stands.sound stands.fixed wait_ns f sent far holds

pub returns-clause-latched : goal.returns-clause-latched
returns-clause-latched c = λ s t wait_ns f g legal stands is_latch back rests.
    latch_step s legal t stands.many stands.sound stands.fixed wait_ns f g (came_back t wait_ns f g back) is_latch (subst (AreFar 0x0910 4) (sym is_latch) latch_far) rests
