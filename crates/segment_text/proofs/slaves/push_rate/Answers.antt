use Rattle.std.proofs.Common.{◌≡◌, ◌++◌, ◌∷◌, [], arith, subst, sym}
use Rattle.std.specs.Prelude.{OnOk, codes}
use Rattle.std.proofs.lemmas.Grind.{common_steps}
use Rattle.segment_shape.specs.Written.{at_key, whole}
use Rattle.segment_text.specs.Text.{entry_text, opened}
use Rattle.segment_text.proofs.TextLemmas.{rate_text}
use Rattle.segment_text.proofs.slaves.push_rate.Goals as goal

pub returns : goal.returns
returns c =
    let r = c.args.rate in
    let pieces : OnOk c.extend_from_slice.result (c.extend_from_slice.new.self.items ≡ c.args.text.now.items ++ (opened (codes "period_fs") (whole r.period) ++ (entry_text (at_key (codes "tick") (whole r.tick)) ++ 125 ∷ []))) = grind (arith, common_steps) in
    subst (λ t. OnOk c.extend_from_slice.result (c.extend_from_slice.new.self.items ≡ c.args.text.now.items ++ t)) (sym (rate_text r)) pieces
