use Rattle.cable_tree.proofs.Rising.{order_within, order_once}
use Rattle.cable_tree.proofs.Members.{every_row, order_whole}
use Rattle.cable_tree.proofs.laws.order_lists_each_row_once.Goals as goal

pub returns : goal.returns
returns c = record { whole = order_whole; every = every_row; rows = order_within; once = order_once }
