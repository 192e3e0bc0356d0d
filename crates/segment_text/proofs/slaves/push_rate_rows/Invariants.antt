use Rattle.std.proofs.Common.{◌≡◌, ◌++◌, ◌∷◌, false, drop}
use Rattle.serde_json.specs.Written.{items_text}
use Rattle.segment_shape.specs.Written.{items_for, rate_data}
use Rattle.segment_text.proofs.slaves.push_rate_rows.Given as goal

abbrev pub invariant-loop-rate : goal.invariant-loop-rate
invariant-loop-rate l = l.fn.text.items ++ 91 ∷ items_text false (items_for rate_data l.rates) ≡ l.text.items ++ items_text l.later (items_for rate_data (drop l.rate-index l.rates))
