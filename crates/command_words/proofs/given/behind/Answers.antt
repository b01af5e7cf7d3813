use Rattle.std.proofs.Common.{rules, ap, ap₂, true, ◌≡◌, ◌∙◌}
use Rattle.std.proofs.lemmas.Result.{IfOk-weaker}
use Rattle.clap.specs.Words.{App, app_of, rule_of, with_rule}
use Rattle.clap.specs.Simple.{app_of_fields}
use Rattle.command_words.specs.Behind.{bare_app, files_rule, siphons_rule, monitors_rule}
use Rattle.command_words.proofs.given.behind.Goals as goal

abbrev without_name : App → App
without_name a = record a { top = record a.top { no_binary_name = true } }

abbrev without_help : App → App
without_help a = record a { top = record a.top { disable_help_flag = true } }

abbrev without_version : App → App
without_version a = record a { top = record a.top { disable_version_flag = true } }

pub returns : goal.returns
returns c =
    let files : rule_of c.action-files.result ≡ files_rule = search rules in
    let siphons : rule_of c.action-siphons.result ≡ siphons_rule = search rules in
    let monitors : rule_of c.action-monitors.result ≡ monitors_rule = search rules in
    let name : app_of c.no_binary_name.result ≡ without_name (app_of c.new-4.result) = ap app_of_fields c.no_binary_name.ensures in
    let help : app_of c.disable_help_flag.result ≡ without_help (app_of c.no_binary_name.result) = ap app_of_fields c.disable_help_flag.ensures in
    let version : app_of c.disable_version_flag.result ≡ without_version (app_of c.disable_help_flag.result) = ap app_of_fields c.disable_version_flag.ensures in
    let bare : app_of c.disable_version_flag.result ≡ bare_app = version ∙ ap without_version (help ∙ ap without_help (name ∙ ap without_name c.new-4.ensures.app)) in
    let two = c.in_ok-arg-2.ensures.shape (search rules) ∙ ap₂ with_rule (c.in_ok-arg.ensures.shape (search rules) ∙ ap₂ with_rule bare files) siphons in
    IfOk-weaker c.arg-3.result _ _ (λ r adds. adds.shape (search rules) ∙ ap₂ with_rule two monitors) c.arg-3.ensures
