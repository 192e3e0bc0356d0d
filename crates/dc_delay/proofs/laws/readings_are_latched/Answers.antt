use Rattle.dc_delay.proofs.Readings.{readings_are_latched}
use Rattle.dc_delay.proofs.laws.readings_are_latched.Goals as goal

pub returns : goal.returns
returns c = readings_are_latched
