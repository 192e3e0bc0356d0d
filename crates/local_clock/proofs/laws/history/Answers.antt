use Rattle.local_clock.proofs.History.{in_turn, one_more, at_once, not_yet, stands, fits}
use Rattle.local_clock.proofs.laws.history.Goals as goal

pub returns : goal.returns
returns c = record { in_turn = in_turn; one_more = one_more; at_once = at_once; not_yet = not_yet; stands = stands; fits = fits }
