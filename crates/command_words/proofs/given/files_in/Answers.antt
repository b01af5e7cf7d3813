use Rattle.std.proofs.Common.{◌≡◌, [], List, Some, None, Option, map, option_map, unwrap_or, codes, sym, ap, ◌∙◌, Bor}
use Rattle.std.proofs.lemmas.Result.{IfOk-weaker}
use Rattle.clap.specs.Words.{Text, all_of, found_of, rows_of}
use Rattle.clap.proofs.WalkLemmas.{raw_values-rows}
use Rattle.command_words.specs.Tasks.{texts}
use Rattle.command_words.proofs.given.files_in.Goals as goal

abbrev read : Option (Bor (List (Bor Text))) → Option (List Text)
read = option_map (λ s. map (λ v. v.now) s.now)

pub returns-in-Some : goal.returns-in-Some
returns-in-Some c =
    let f = found_of c.args.found.now in
    let all : all_of (codes "files") (rows_of f) ≡ Some (map (λ v. v.now) c.in-Some.words.now) = sym (raw_values-rows f (codes "files")) ∙ sym c.get_raw.ensures ∙ ap read c.in-Some.is in
    IfOk-weaker c.copies_of.result _ _ (λ files same. same ∙ sym (ap (λ (o : Option (List Text)). unwrap_or o []) all)) c.copies_of.ensures

pub returns-in-None : goal.returns-in-None
returns-in-None c =
    let f = found_of c.args.found.now in
    let none : all_of (codes "files") (rows_of f) ≡ None = sym (raw_values-rows f (codes "files")) ∙ sym c.get_raw.ensures ∙ ap read c.in-None.is in
    ap texts c.new.ensures.items ∙ sym (ap (λ (o : Option (List Text)). unwrap_or o []) none)
