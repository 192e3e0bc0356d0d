use Rattle.cable_tree.proofs.Standing.{position_at, row_within, order_at}
use Rattle.cable_tree.proofs.laws.positions.Goals as goal

pub returns : goal.returns
returns c = record { position = position_at; within = row_within; row = order_at }
