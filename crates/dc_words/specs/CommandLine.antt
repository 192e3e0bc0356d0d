-- The command line as clap reads it.
use Rattle.std.specs.Prelude.{codes, Some, true}
use Rattle.clap.specs.Words.{App, Rule, new_app, new_rule, with_rule}
use Rattle.clap.specs.declared.builder.ArgAction.TheVariants.{SetTrue}

-- the first word, which must be there
abbrev pub command_rule : Rule
command_rule = record (new_rule (codes "command")) { required = true }

-- the flag `--edges`
abbrev pub edges_rule : Rule
edges_rule = record (new_rule (codes "edges")) { long = Some (codes "edges"); action = Some SetTrue }

-- one command with a word, two more words that may be there and the flag; no help, no version, and no name of the program before the words
abbrev pub dc_app : App
dc_app =
    let plain = new_app (codes "dc") in
    let quiet = record plain { top = record plain.top { no_binary_name = true; disable_help_flag = true; disable_version_flag = true } } in
    with_rule (with_rule (with_rule (with_rule quiet command_rule) (new_rule (codes "first"))) (new_rule (codes "second"))) edges_rule
