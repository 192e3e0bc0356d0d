use Rattle.std.proofs.Common.{◌≡◌, rules, ap, ap₂, codes, true, ◌∙◌}
use Rattle.std.proofs.lemmas.Result.{IfOk-weaker}
use Rattle.clap.specs.Simple.{app_of_fields}
use Rattle.clap.specs.Words.{App, app_of, new_app, new_rule, rule_of, with_rule}
use Rattle.clap.specs.declared.builder.command.Command.{Command}
use Rattle.clap.specs.declared.builder.command.Command.TheOpen.{Command-F}
use Rattle.dc_words.specs.CommandLine.{command_rule, edges_rule}
use Rattle.dc_words.proofs.command_line.command_line.Goals as goal

abbrev quiet : App → App
quiet a = record a { top = record a.top { no_binary_name = true; disable_help_flag = true; disable_version_flag = true } }

pub returns : goal.returns
returns c =
    let command_is : rule_of c.required-command.result ≡ command_rule = search rules in
    let first_is : rule_of c.new-first.result ≡ new_rule (codes "first") = search rules in
    let second_is : rule_of c.new-second.result ≡ new_rule (codes "second") = search rules in
    let edges_is : rule_of c.action-edges.result ≡ edges_rule = search rules in
    let f1 = c.no_binary_name.ensures in
    let f2 = c.disable_help_flag.ensures in
    let f3 = c.disable_version_flag.ensures in
    let quiet_is : app_of c.disable_version_flag.result ≡ quiet (new_app (codes "dc")) =
    ap app_of_fields (f3 ∙ ap (λ (f : Command-F Command). record f { disable_version_flag = true }) (f2 ∙ ap (λ (f : Command-F Command). record f { disable_help_flag = true }) f1)) ∙ ap quiet c.new-3.ensures.app in
    let a1 = c.in_ok-arg.ensures.shape (search rules) ∙ ap₂ with_rule quiet_is command_is in
    let a2 = c.in_ok-arg-2.ensures.shape (search rules) ∙ ap₂ with_rule a1 first_is in
    let a3 = c.in_ok-arg-3.ensures.shape (search rules) ∙ ap₂ with_rule a2 second_is in
    IfOk-weaker c.arg-4.result _ _ (λ r h. h.shape (search rules) ∙ ap₂ with_rule a3 edges_is) c.arg-4.ensures
