use Rattle.master_script.proofs.Counts.{fresh_pins}
use Rattle.master_script.proofs.Pins.{commissioned_pins, settled_pins, armed_pins}
use Rattle.master_script.proofs.laws.kept_tells_progress.Goals as goal

pub returns : goal.returns
returns c = record { fresh = fresh_pins; commissioned = commissioned_pins; settled = settled_pins; armed = armed_pins }
