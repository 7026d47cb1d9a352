-- The command as a parse reads it: four options that each take one text, and one positional that takes all names.
use Rattle.std.specs.Prelude.{true, Some, codes}
use Rattle.clap.specs.Simple.{App, new_app, new_rule, with_rule, on_top}
use Rattle.clap.specs.Walk.{Rule, Text}
use Rattle.clap.specs.declared.builder.action.ArgAction.TheVariants.{Append}

abbrev pub option_rule : Text → Rule
option_rule name = record (new_rule name) { long = Some name }

abbrev pub names_rule : Rule
names_rule = record (new_rule (codes "names")) { action = Some Append }

abbrev pub empty_app : App
empty_app = on_top (λ s. record s { no_binary_name = true; disable_help_flag = true }) (new_app (codes "backsim"))

abbrev pub session_app : App
session_app = with_rule (with_rule (with_rule empty_app (option_rule (codes "workers"))) (option_rule (codes "shards"))) (option_rule (codes "cells"))

abbrev pub command_app : App
command_app = with_rule (with_rule session_app (option_rule (codes "work"))) names_rule
