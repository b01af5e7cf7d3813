use Rattle.std.proofs.Common.{◌∙◌, ap, Option}
use Rattle.c_expressions.specs.declared.token.What as declared
use Rattle.c_tokens.specs.Known.{latest, latest_keyword, others}
use Rattle.c_tokens.proofs.Tables.{words_known, names_table, keywords_table, found_empty}
use Rattle.c_tokens.proofs.words.known_words.Goals as goal

pub returns : goal.returns
returns c = λ name.
    c.in_ok-put_other_keywords.ensures name
    ∙ ap (λ (x : Option declared.What). latest_keyword others x name) (c.in_ok-put_words-2.ensures name
    ∙ ap (λ (x : Option declared.What). latest keywords_table x name) (c.in_ok-put_words.ensures name
    ∙ ap (λ (x : Option declared.What). latest names_table x name) (found_empty c.new-known.result name c.new-known.ensures.empty)))
    ∙ words_known name
