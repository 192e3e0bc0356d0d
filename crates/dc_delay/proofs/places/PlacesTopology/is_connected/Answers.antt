use Rattle.std.proofs.Common.{◌∙◌}
use Rattle.dc_delay.proofs.Hung.{hanging_port}
use Rattle.dc_delay.proofs.places.PlacesTopology.is_connected.Goals as goal

pub returns : goal.returns
returns c = c.connected.ensures ∙ hanging_port c.args.self.now.shape.now c.args.row c.args.port
