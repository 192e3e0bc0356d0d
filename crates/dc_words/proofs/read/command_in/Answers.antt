use Rattle.std.proofs.Common.{◌∙◌}
use Rattle.clap.specs.Words.{found_of}
use Rattle.dc_words.proofs.Getters.{made_of_found, none_made}
use Rattle.dc_words.proofs.read.command_in.Goals as goal

pub returns-in_err-word : goal.returns-in_err-word
returns-in_err-word c = c.from_residual.ensures ∙ none_made (found_of c.args.matches.now) (rw c.in_err-word.was at c.get_str.ensures)

pub returns : goal.returns
returns c = c.asked.ensures ∙ made_of_found (found_of c.args.matches.now) _ _ _ _ (rw c.in_ok-word.was at c.get_str.ensures) c.get_str-first.ensures c.get_str-second.ensures c.requires c.get_flag-edges.ensures.value c.get_flag-edges.ensures.other
