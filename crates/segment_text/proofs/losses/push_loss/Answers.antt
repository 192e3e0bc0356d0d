use Rattle.std.proofs.Common.{◌≡◌, ◌++◌, ◌∷◌, [], arith, subst, sym}
use Rattle.std.specs.Prelude.{OnOk, codes}
use Rattle.std.proofs.lemmas.Grind.{common_steps}
use Rattle.serde_json.specs.Data.{string}
use Rattle.segment_shape.specs.Written.{at_key, whole, phase_name}
use Rattle.segment_text.specs.Text.{entry_text, opened}
use Rattle.segment_text.proofs.TextLemmas.{loss_text}
use Rattle.segment_text.proofs.losses.push_loss.Goals as goal

pub returns : goal.returns
returns c =
    let r = c.args.loss in
    let pieces : OnOk c.extend_from_slice.result (c.extend_from_slice.new.self.items ≡ c.args.text.now.items ++ (opened (codes "after") (whole r.after) ++ (entry_text (at_key (codes "number") (whole r.number)) ++ (entry_text (at_key (codes "phase") (string (phase_name r.phase))) ++ 125 ∷ [])))) = grind (arith, common_steps) in
    subst (λ t. OnOk c.extend_from_slice.result (c.extend_from_slice.new.self.items ≡ c.args.text.now.items ++ t)) (sym (loss_text r)) pieces
