use Rattle.dc_delay.proofs.Alike.{shape_order, shape_unmeasurable, shape_delays, shape_delay}
use Rattle.dc_delay.proofs.laws.cables_do_not_matter.Goals as goal

pub returns : goal.returns
returns c = record { order = shape_order; unmeasurable = shape_unmeasurable; delays = shape_delays; delay = shape_delay }
