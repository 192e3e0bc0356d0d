use Rattle.std.proofs.Common.{◌≡◌, ◌++◌, ◌∷◌, false, drop}
use Rattle.serde_json.specs.Written.{items_text}
use Rattle.segment_shape.specs.Written.{items_for, loss_data}
use Rattle.segment_text.proofs.losses.push_rows.Given as goal

abbrev pub invariant-loop-loss : goal.invariant-loop-loss
invariant-loop-loss l = l.fn.text.items ++ 91 ∷ items_text false (items_for loss_data l.losses) ≡ l.text.items ++ items_text l.later (items_for loss_data (drop l.loss-index l.losses))
