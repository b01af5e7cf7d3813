use Rattle.std.proofs.Common.{◌≡◌, ◌++◌, ℕ, List, [], take, option_map, arith, refl, sym, ap, subst, ◌∙◌}
use Rattle.std.proofs.lemmas.List.{take_all}
use Rattle.answers.specs.Answered.{usage_answer}
use Rattle.top_call.specs.Answers.{AnswersFor, files_for, files_named}
use Rattle.top_call.proofs.laws.usage_is_for_words_of_no_known_shape.Goals as goal

pub returns-clause-usage : goal.returns-clause-usage
returns-clause-usage c words old new explains = explains.usage refl

pub returns-clause-shapes : goal.returns-clause-shapes
returns-clause-shapes c words files old new status exact none =
    exact usage_answer (subst (λ found. AnswersFor files found usage_answer) (sym none) refl)

pub returns-clause-unasked : goal.returns-clause-unasked
returns-clause-unasked c words old new none asked =
    let names = files_named words in
    let empty : names ≡ [] = ap files_for none in
    let nothing : take asked.count names ≡ take 0 names = ap (λ (xs : List (List ℕ)). take asked.count xs) empty ∙ take_all asked.count [] (omega arith) in
    asked.named ∙ ap (λ (xs : List (List ℕ)). option_map (λ (a : List (List ℕ)). a ++ xs) old.asked) nothing
