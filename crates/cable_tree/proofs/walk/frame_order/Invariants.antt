use Rattle.std.proofs.Common.{◌≡◌, ◌<◌, ◌++◌, length}
use Rattle.std.specs.List.{All}
use Rattle.cable_tree.specs.FrameOrder.{order}
use Rattle.cable_tree.proofs.Walking.{to_visit}
use Rattle.cable_tree.proofs.walk.frame_order.Given as goal

abbrev pub invariant-loop-row : goal.invariant-loop-row
invariant-loop-row l = record {
  same : l.order.items ++ to_visit l.wiring l.stack.items ≡ order l.wiring;
  within : All (λ r. r < length l.wiring) l.stack.items;
}

abbrev pub decreases-loop-row : goal.decreases-loop-row
decreases-loop-row l = length (to_visit l.wiring l.stack.items)
