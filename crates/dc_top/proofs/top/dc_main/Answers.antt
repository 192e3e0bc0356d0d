use Rattle.std.proofs.Common.{map, string_bytes, sym, subst, ◌∙◌}
use Rattle.dc_words.specs.CommandOfWords.{command_of}
use Rattle.dc_top.specs.Answers.{DrivesWire}
use Rattle.dc_top.proofs.Complete.{complete}
use Rattle.dc_top.proofs.Words.{answered_alone, answered_over, no_memory}
use Rattle.dc_top.proofs.top.dc_main.Goals as goal

pub returns-in-WholeInput-clause-complete : goal.returns-in-WholeInput-clause-complete
returns-in-WholeInput-clause-complete g c = complete (command_of (map string_bytes c.args.words.now)) _ _ _ _ c.answer.new.bench c.answer.result _ _ _ _
    (answered_over (command_of (map string_bytes c.args.words.now)) c.in-Ok.command c.in-Some.command c.in-Ok.ensures.is c.in-Some.is c.answer.result _ _ _ _ c.answer.new.bench
    c.in-WholeInput.ensures c.answer.ensures.answered)
    c.answer.ensures.read_fault c.answer.ensures.write_fault

pub returns-in-WholeInput-clause-idle : goal.returns-in-WholeInput-clause-idle
returns-in-WholeInput-clause-idle g c = λ none. c.answer.ensures.idle (λ drives. none (subst DrivesWire (sym c.in-Some.is ∙ c.in-Ok.ensures.is) drives))
