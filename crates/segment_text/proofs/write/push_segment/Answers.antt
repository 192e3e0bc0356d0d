use Rattle.std.proofs.Common.{◌≡◌, ◌++◌, ◌∷◌, [], arith, subst, sym}
use Rattle.std.specs.Prelude.{OnOk, codes}
use Rattle.std.proofs.lemmas.Grind.{common_steps}
use Rattle.serde_json.specs.Data.{array}
use Rattle.segment_shape.specs.Written.{at_key, whole, items_for, loss_data, slave_data}
use Rattle.segment_file.specs.Written.{written}
use Rattle.segment_text.specs.HeadText.{back_text, front_text}
use Rattle.segment_text.specs.Text.{entry_text}
use Rattle.segment_text.proofs.TextLemmas.{whole_text}
use Rattle.segment_text.proofs.RowLemmas.{on_ok}
use Rattle.segment_file.proofs.Exported.{written_text}
use Rattle.segment_text.proofs.write.push_segment.Goals as goal

pub returns-clause-is : goal.returns-clause-is
returns-clause-is c =
    let s = c.args.segment.now in
    let pieces : OnOk c.extend_from_slice.result (c.extend_from_slice.new.self.items ≡ c.args.text.now.items ++ (front_text s.head
    ++ (entry_text (at_key (codes "losses") (array (items_for loss_data s.losses)))
    ++ (entry_text (at_key (codes "ppm") (whole s.head.ppm))
    ++ (entry_text (at_key (codes "slaves") (array (items_for (slave_data s.head.version) (written s).slaves)))
    ++ (back_text s.head ++ 125 ∷ 10 ∷ [])))))) = grind (arith, common_steps) in
    subst (λ t. OnOk c.extend_from_slice.result (c.extend_from_slice.new.self.items ≡ c.args.text.now.items ++ t)) (sym (whole_text s)) pieces

pub returns-clause-read : goal.returns-clause-read
returns-clause-read c = on_ok c.extend_from_slice.result (written_text c.args.segment.now c.losses.ensures.legal)
