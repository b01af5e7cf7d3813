-- The command line behind a command's name, as clap takes it: names of files, and two options with a value each.
use Rattle.std.specs.Prelude.{◌≡◌, ℕ, true, List, [], codes, Some, Option, option_and_then}
use Rattle.clap.specs.Words.{App, Rule, new_app, new_rule, with_rule}
use Rattle.clap.specs.declared.builder.ArgAction.TheVariants.{Set, Append}
use Rattle.command_words.specs.Words.{Given, command_given}

abbrev pub files_rule : Rule
files_rule = record (new_rule (codes "files")) { action = Some Append }

abbrev pub siphons_rule : Rule
siphons_rule = record (new_rule (codes "siphons")) { long = Some (codes "siphons"); action = Some Set }

abbrev pub monitors_rule : Rule
monitors_rule = record (new_rule (codes "monitors")) { long = Some (codes "monitors"); action = Some Set }

-- no word is the program's name, and there is no flag for help or a version
abbrev pub bare_app : App
bare_app = record {
  top = record (new_app (codes "gadara")).top { no_binary_name = true; disable_help_flag = true; disable_version_flag = true };
  subs = [];
}

abbrev pub app : App
app = with_rule (with_rule (with_rule bare_app files_rule) siphons_rule) monitors_rule

-- each command makes the same of both
abbrev pub AreAsGiven : Option Given → Option Given → Type 0
AreAsGiven given wanted = (command : List ℕ) → option_and_then (command_given command) given ≡ option_and_then (command_given command) wanted
