-- What the code answers has its cause.
use Rattle.std.proofs.Common.{◌≡◌, ℕ, suc, ◌≤◌, true, false, List, [], ◌∷◌, length, sym, ap, subst, ◌∙◌, arith}
use Rattle.std.specs.Prelude.{◌==◌, Err}
use Rattle.std.proofs.lemmas.Bool.Decides.{Decides-eqb}
use denote.Ref.{Bor}
use Rattle.parse_laws.specs.declared.fault.Refusal.{Refusal}
use Rattle.parse_laws.specs.declared.fault.Refusal.TheVariants.{At}
use Rattle.parse_laws.specs.Gives.{Refuses}
use Rattle.c_lexer.specs.Tokens.{line}
use Rattle.c_tree.specs.Lined.{Program}
use Rattle.c_grammar.specs.Levels.{Tall}
use Rattle.parse_laws.specs.declared.fault.Fault.{Fault}
use Rattle.parse_laws.specs.declared.fault.Fault.TheVariants as fault
use Rattle.parse_laws.specs.Parser.{Outcome, Got, Failed}
use Rattle.parse_laws.proofs.Exact.{whole_is_exact}
use Rattle.c_expressions.specs.declared.token.Marked.{Marked}
use Rattle.c_programs.specs.Parsers.{program}
use Rattle.c_programs.specs.Lexed.{word_views}
use Rattle.c_programs.specs.Gives.{views}
use Rattle.c_programs.proofs.WordExact.{words_spelled}
use Rattle.c_tokens.specs.declared.reader.Tokens.{Tokens}
use Rattle.c_tokens.specs.Reading.{IsRead}
use Rattle.c_tokens.proofs.Smallness.{leads_small}
use Rattle.c_alike.proofs.Along.{as_long}
use Rattle.c_alike.proofs.Programs.{programs_same}
use Rattle.c_parser.specs.Answer.{Answer, when_read, when_left}
use Rattle.c_parser.specs.Parsed.{Parsed}
use Rattle.c_parser.proofs.Causes.{answer_of, parsed_by}

pub refused : (r : Refusal Marked) (f : Fault) (rest : Bor (List Marked)) (o : Outcome Marked (Tall Program)) → r ≡ At f rest → Refuses r o → o ≡ Failed f rest.now
refused r f rest o e h = let same : Refuses (At f rest) o = subst (λ (r : Refusal Marked). Refuses r o) e h in same

some_left : (u : Marked) (rest : List Marked) → true ≡ (length (u ∷ rest) == 0) → ⊥
some_left u rest n = let e : suc (length rest) ≡ 0 = (Decides-eqb (suc (length rest)) 0).0 (sym n) in omega (arith, e)

module _ (text : List ℕ) (t : Tokens) (r : IsRead text t) where
  -- there are as many tokens as words
  pub few_tokens : length t.marks.items ≤ 65536
  few_tokens = let n : length t.marks.items ≡ length r.words = as_long text [] t.marks.items r.words (r.marked, leads_small r.begins.2) in let few = r.few in omega (arith, n, few)

  abbrev outcome : Outcome Marked (Tall Program)
  outcome = program (views text) 64 (line text) t.marks.items

  parsed : Parsed text (answer_of outcome t.end (line text))
  parsed =
      parsed_by text r.words r.begins r.few t.end r.stops outcome (program word_views 64 (line text) r.words) (programs_same text 64 (line text) r.words t.marks.items r.marked (leads_small r.begins.2))
      (whole_is_exact (words_spelled (line text)) 63 r.words)

  so_parsed : (o : Outcome Marked (Tall Program)) → outcome ≡ o → Parsed text (answer_of o t.end (line text))
  so_parsed o e = subst (λ (o : Outcome Marked (Tall Program)). Parsed text (answer_of o t.end (line text))) e parsed

  at_line : (tokens : List Marked) (l : ℕ) (o : Outcome Marked (Tall Program)) → tokens ≡ t.marks.items → l ≡ line text → program (views text) 64 l tokens ≡ o → outcome ≡ o
  at_line tokens l o m e h = rw (sym m, sym e) h

  module _ (tokens : List Marked) (l : ℕ) (m : tokens ≡ t.marks.items) (e : l ≡ line text) (rest : List Marked) where
    -- all tokens are read as a program
    pub parsed_whole : (p : Tall Program) (a : Answer) → program (views text) 64 l tokens ≡ Got p rest → true ≡ (length rest == 0) → a ≡ when_read p.tree t.end → Parsed text a
    parsed_whole p a h n s = go rest h n
      where
        go : (rest : List Marked) → program (views text) 64 l tokens ≡ Got p rest → true ≡ (length rest == 0) → Parsed text a
        go [] h n = subst (Parsed text) (sym s) (so_parsed (Got p []) (at_line tokens l (Got p []) m e h))
        go (u ∷ rest) h n = absurd (some_left u rest n)

    -- tokens are left
    pub parsed_part : (p : Tall Program) (a : Answer) → program (views text) 64 l tokens ≡ Got p rest → false ≡ (length rest == 0) → a ≡ Err (when_left fault.Syntax rest t.end l) → Parsed text a
    parsed_part p a h n s = go rest h n s
      where
        go : (rest : List Marked) → program (views text) 64 l tokens ≡ Got p rest → false ≡ (length rest == 0) → a ≡ Err (when_left fault.Syntax rest t.end l) → Parsed text a
        go [] h n s = absurd cc
        go (u ∷ rest) h n s = subst (Parsed text) (sym s) (so_parsed (Got p (u ∷ rest)) (at_line tokens l (Got p (u ∷ rest)) m e h))

    -- a token fails, or the end does
    pub parsed_failed : (f : Fault) (a : Answer) → program (views text) 64 l tokens ≡ Failed f rest → a ≡ Err (when_left f rest t.end l) → Parsed text a
    parsed_failed f a h s = subst (Parsed text) (sym (s ∙ ap (λ k. Err (when_left f rest t.end k)) e)) (so_parsed (Failed f rest) (at_line tokens l (Failed f rest) m e h))
