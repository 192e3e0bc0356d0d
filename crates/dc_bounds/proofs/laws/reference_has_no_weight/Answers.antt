use Rattle.dc_bounds.proofs.Weightless.{weightless, boundless, no_clock}
use Rattle.dc_bounds.proofs.laws.reference_has_no_weight.Goals as goal

pub returns : goal.returns
returns c = record { weight = weightless; bound = boundless; no_clock = no_clock }
