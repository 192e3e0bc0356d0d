use Rattle.cable_tree.proofs.Laps.{hop_place, pass_step}
use Rattle.cable_tree.proofs.laws.hops.Goals as goal

pub returns : goal.returns
returns c = record { place = hop_place; pass = pass_step }
