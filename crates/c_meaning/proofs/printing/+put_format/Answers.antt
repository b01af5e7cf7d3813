use Rattle.std.proofs.Common.{◌≡◌, [], ◌∷◌, ◌++◌, sym, ap, ◌∙◌, append_assoc}
use Rattle.std.proofs.lemmas.Result.{on_ok_weaker}
use Rattle.c_meaning.specs.Printing.{formatted}
use Rattle.c_meaning.proofs.printing.+put_format.Goals as goal

pub returns-in_ok-more-in-Argument : goal.returns-in_ok-more-in-Argument
returns-in_ok-more-in-Argument t c =
    let old = c.args.out.now.items in
    let vs = c.args.values.now in
    let behind = c.in-Some-split_first.behind.now in
    let two : c.args.format.now ≡ c.in-Some.b.now ∷ c.in-Some-split_first.c.now ∷ behind = c.in-Some.ensures.cases.0 ∙ ap (λ r. c.in-Some.b.now ∷ r) c.in-Some-split_first.ensures.cases.0 in
    let whole = ap (λ x. formatted x vs) two ∙ c.in-Argument.ensures behind vs in
    on_ok_weaker c.put_format.result (λ h. h ∙ c.in_ok-more-in-Argument.ensures (formatted behind) ∙ ap (λ x. old ++ x) (sym whole)) c.put_format.ensures

pub returns-in_ok-push-in-Pair : goal.returns-in_ok-push-in-Pair
returns-in_ok-push-in-Pair t c =
    let old = c.args.out.now.items in
    let vs = c.args.values.now in
    let behind = c.in-Some-split_first.behind.now in
    let two : c.args.format.now ≡ c.in-Some.b.now ∷ c.in-Some-split_first.c.now ∷ behind = c.in-Some.ensures.cases.0 ∙ ap (λ r. c.in-Some.b.now ∷ r) c.in-Some-split_first.ensures.cases.0 in
    let whole = ap (λ x. formatted x vs) two ∙ c.in-Pair.ensures behind vs in
    on_ok_weaker c.put_format-in-Pair.result
    (λ h. h ∙ ap (λ x. x ++ formatted behind vs) c.in_ok-push-in-Pair.ensures.items ∙ append_assoc old (c.pair.result ∷ []) (formatted behind vs)
    ∙ ap (λ x. old ++ (x ∷ formatted behind vs)) c.pair.ensures ∙ ap (λ x. old ++ x) (sym whole))
    c.put_format-in-Pair.ensures

pub returns-in_ok-push-in-Byte : goal.returns-in_ok-push-in-Byte
returns-in_ok-push-in-Byte t c =
    let old = c.args.out.now.items in
    let vs = c.args.values.now in
    let b = c.in-Some.b.now in
    let rest = c.in-Some.rest.now in
    let behind = c.in-Some-split_first.behind.now in
    let two : c.args.format.now ≡ b ∷ c.in-Some-split_first.c.now ∷ behind = c.in-Some.ensures.cases.0 ∙ ap (λ r. b ∷ r) c.in-Some-split_first.ensures.cases.0 in
    let whole : formatted c.args.format.now vs ≡ b ∷ formatted rest vs =
    ap (λ x. formatted x vs) two ∙ c.in-Byte.ensures behind vs ∙ ap (λ r. b ∷ formatted r vs) (sym c.in-Some-split_first.ensures.cases.0) in
    on_ok_weaker c.put_format-in-Byte.result
    (λ h. h ∙ ap (λ x. x ++ formatted rest vs) c.in_ok-push-in-Byte.ensures.items ∙ append_assoc old (b ∷ []) (formatted rest vs) ∙ ap (λ x. old ++ x) (sym whole))
    c.put_format-in-Byte.ensures
