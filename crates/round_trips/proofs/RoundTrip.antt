-- The canonical text of a program is read as that program, or passes a limit.
use Rattle.std.proofs.Common.{◌≡◌, ℕ, List, Option, Some, None, ap, subst, ◌∙◌, arith, inl, inr}
use Rattle.std.specs.Prelude.{Ok, Err}
use Rattle.c_lexer.specs.declared.token.LexError.{LexError}
use Rattle.c_lexer.specs.Tokens.{Word, line}
use Rattle.c_lexer.proofs.Unique.{one_scan}
use Rattle.c_layout.specs.Layout.{text}
use Rattle.c_tree.specs.Bare as bare
use Rattle.c_tree.specs.Lined.{Program, bare_program}
use Rattle.c_grammar.specs.Levels.{Tall, tall}
use Rattle.c_grammar.specs.Programs.{Spells, TextSpells}
use Rattle.c_tokens.proofs.Leads.{within_scan}
use Rattle.c_canonical.specs.Programs.{layout_of}
use Rattle.c_canonical.specs.Canonical.{SpellsBare, HasText}
use Rattle.c_canonical.proofs.Canonical.{canonical_spells}
use Rattle.c_parser.specs.declared.error.ParseError.TheVariants as error
use Rattle.c_parser.specs.Answer.{Answer}
use Rattle.c_parser.specs.Parsed.{Parsed, SpelledBy, RefusedBy, FailsOnLine}
use Rattle.c_parser.proofs.OneAnswer.{one_text_program}
use Rattle.round_trips.specs.RoundTrip.{IsReadBack}

-- ---- a text that spells a program

module _ (source : List ℕ) (p : Tall Program) (spells : TextSpells source p) where
  same_tree : (q : Program) → SpelledBy source q → q ≡ p.tree
  same_tree q x = ap (λ (z : Tall Program). z.tree) (one_text_program source (tall q x.levels) p (x.words, x.tokens, x.spells) spells)

  -- the lexer refuses nothing in it
  not_refused : (e : LexError) → RefusedBy source e → ⊥
  not_refused e x = let ends : ◌≡◌ {A = Option LexError} (Some e) None = (one_scan x.scan spells.1).1 in cc

  -- none of its tokens fails, at any depth, and it doesn't end too soon
  not_failed : (on : ℕ) → FailsOnLine source on → ⊥
  not_failed on (inl x) =
      let h = within_scan x.reads.2 spells.1 in
      x.fails.at_any_depth p.levels (record {
        more = h.0;
        end = line source;
        program = p;
        spells = subst (λ (z : List Word). Spells (line source) z p) h.1 spells.2;
        within = omega arith;
      })
  not_failed on (inr x) =
      let same = (one_scan spells.1 x.tokens).0 in
      x.fails.none (line source) p (subst (λ (z : List Word). Spells (line source) z p) same spells.2)

-- ---- the answer

read_back : (source : List ℕ) (p : bare.Program) → SpellsBare source p → (answer : Answer) → Parsed source answer → IsReadBack p answer
read_back source p s (Ok q) x = ap bare_program (same_tree source s.program s.spells q x) ∙ s.same
read_back source p s (Err (error.Lex e)) x = not_refused source s.program s.spells e x
read_back source p s (Err (error.Syntax on)) x = not_failed source s.program s.spells on x
read_back source p s (Err (error.TooDeep on)) x = tt
read_back source p s (Err error.TooManyTokens) x = tt
read_back source p s (Err error.Memory) x = tt

pub round_trip : (p : bare.Program) → HasText p → (answer : Answer) → Parsed (text (layout_of p)) answer → IsReadBack p answer
round_trip p h answer x = read_back (text (layout_of p)) p (canonical_spells p h) answer x
