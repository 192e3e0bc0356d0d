use Rattle.local_clock.proofs.Rounds.{rest_below, rest_above}
use Rattle.local_clock.proofs.steps.rounds_of_many.Goals as goal

pub returns-then-rest-every-clause-rest : goal.returns-then-rest-every-clause-rest
returns-then-rest-every-clause-rest c =
    rw (c.from.ensures, c.from-every.ensures) (rest_below c.args.count c.args.g c.args.k (rw (c.from.ensures, c.from-every.ensures) at c.if-rest-every.true))

pub returns-else-rest-every-clause-rest : goal.returns-else-rest-every-clause-rest
returns-else-rest-every-clause-rest c =
    rw (c.from.ensures, c.from-every.ensures) (rest_above c.args.count c.args.g c.args.k c.requires (rw (c.from.ensures, c.from-every.ensures) at c.if-rest-every.false))
