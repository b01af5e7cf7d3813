-- One turn of the loops over lists with commas.
use Rattle.std.proofs.Common.{◌≡◌, ◌<◌, true, false, List, [], ◌∷◌, length, refl, ◌∙◌}
use Rattle.c_lexer.specs.declared.token.Sign.TheVariants as s
use Rattle.parse_laws.specs.Parser.{Got, Parser, and_then, must, one_more}
use Rattle.parse_laws.proofs.Loops.{many_next, many_stops, loop_ends}
use Rattle.parse_laws.proofs.Sound.{Sound}
use Rattle.c_expressions.specs.Parsers.{Sight, is}
use Rattle.c_expressions.proofs.Shorter.{Less, less_when, less_shrinks, less_pure, fewer_bind, fewer_choice}
use Rattle.c_declarations.specs.Parsers.{comma, more, is_at}

module _ {Token A B : Type 0} (v : Sight Token) {item : Parser Token A} (less : Sound item Less) (add : B → A → B) where
  -- where a comma comes, it and an item must be read, and the list goes on
  pub comma_next : (all : B) (ts : List Token) → is_at (is v s.Comma) ts ≡ true → more v item add all ts ≡ and_then (must (is v s.Comma) item ts) (λ x. more v item add (add all x))
  comma_next all [] b = absurd cc
  comma_next all (u ∷ rest) b =
      many_next (comma v item) add (λ w. less_shrinks (less_when (is v s.Comma w) less)) all u rest (rw b (λ e. cc)) ∙ rw b refl

  pub commas_stop : (all : B) (ts : List Token) → is_at (is v s.Comma) ts ≡ false → more v item add all ts ≡ Got all ts
  commas_stop all [] b = loop_ends (one_more (comma v item) add) all
  commas_stop all (u ∷ rest) b = many_stops (comma v item) add all u rest (rw b refl)

  pub comma_shorter : (ts : List Token) (x : A) (rest : List Token) → must (is v s.Comma) item ts ≡ Got x rest → length rest < length ts
  comma_shorter ts x rest e = (fewer_bind (fewer_choice (λ u. less_when (is v s.Comma u) less_pure)) (λ u. less)).spelled ts x rest e
