use Rattle.std.proofs.Common.{◌∙◌, codes}
use Rattle.clap.specs.Words.{found_of}
use Rattle.clap.proofs.WalkLemmas.{first_value-rows}
use Rattle.command_words.proofs.given.given_in.Goals as goal

pub returns-clause-siphons : goal.returns-clause-siphons
returns-clause-siphons c = c.in_ok-siphons.ensures ∙ c.get_str.ensures ∙ first_value-rows (found_of c.args.found.now) (codes "siphons")

pub returns-clause-monitors : goal.returns-clause-monitors
returns-clause-monitors c = c.in_ok-monitors.ensures ∙ c.get_str-2.ensures ∙ first_value-rows (found_of c.args.found.now) (codes "monitors")
