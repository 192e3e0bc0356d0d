use Rattle.std.proofs.Common.{◌≡◌, ◌++◌, sym, subst}
use Rattle.std.specs.Prelude.{OnOk}
use Rattle.segment_text.proofs.PlainLemmas.{quoted_plain}
use Rattle.segment_text.proofs.fields.push_quoted.Goals as goal

pub returns : goal.returns
returns c =
    subst (λ q. OnOk c.push_between_quotes.result (c.push_between_quotes.new.text.items ≡ c.args.text.now.items ++ q)) (sym (quoted_plain c.args.string.now c.requires)) c.push_between_quotes.ensures
