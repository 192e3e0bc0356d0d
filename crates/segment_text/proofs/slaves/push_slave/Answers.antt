use Rattle.std.proofs.Common.{◌≡◌, ◌++◌, ◌∷◌, [], map, arith, subst, sym}
use Rattle.std.specs.Prelude.{OnOk, option_map}
use Rattle.std.proofs.lemmas.Grind.{common_steps}
use Rattle.segment_file.specs.Seen.{row_seen}
use Rattle.segment_file.specs.Written.{parent_of}
use Rattle.segment_text.specs.SlaveText.{oscillator_text, place_text, signal_text}
use Rattle.segment_text.proofs.TextLemmas.{slave_text}
use Rattle.segment_text.proofs.slaves.push_slave.Goals as goal

pub returns : goal.returns
returns c =
    let rows = map row_seen c.args.rows.now in
    let r = row_seen c.args.row.now in
    let p = option_map (parent_of rows) c.args.row.now.above in
    let pieces : OnOk c.extend_from_slice.result (c.extend_from_slice.new.self.items ≡ c.args.text.now.items ++ (place_text r p ++ (oscillator_text c.args.version r p ++ (signal_text r ++ 125 ∷ [])))) = grind (arith, common_steps) in
    subst (λ t. OnOk c.extend_from_slice.result (c.extend_from_slice.new.self.items ≡ c.args.text.now.items ++ t)) (sym (slave_text c.args.version rows r)) pieces
