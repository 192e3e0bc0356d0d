use Rattle.std.proofs.Common.{◌≡◌, ◌++◌, ◌∷◌, false, drop}
use Rattle.serde_json.specs.Written.{items_text}
use Rattle.segment_shape.specs.Written.{items_for, slave_data}
use Rattle.segment_file.specs.Written.{written}
use Rattle.segment_text.proofs.write.push_rows.Given as goal

abbrev pub invariant-loop-row : goal.invariant-loop-row
invariant-loop-row l =
    let says = slave_data l.segment.head.version in
    let slaves = (written l.segment).slaves in
    l.fn.text.items ++ 91 ∷ items_text false (items_for says slaves) ≡ l.text.items ++ items_text l.later (items_for says (drop l.row-index slaves))
