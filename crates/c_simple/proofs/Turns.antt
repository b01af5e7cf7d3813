-- One turn of each loop, and statements by their first token.
use Rattle.std.proofs.Common.{◌≡◌, ℕ, suc, ◌<◌, Bool, true, false, cond, List, [], ◌∷◌, ◌++◌, length, Option, Some, None, refl}
use Rattle.std.specs.Option.{is_some}
use Rattle.std.proofs.lemmas.List.{map-append}
use Rattle.c_lexer.specs.declared.token.Sign.TheVariants as s
use Rattle.c_tree.specs.declared.stmt.Stmt as declared
use Rattle.c_tree.specs.Lined.{Stmt}
use Rattle.c_grammar.specs.Levels.{Tall}
use Rattle.parse_laws.specs.Parser.{Got, Parser, and_then, pure, refuse, Move, Stop, Deep, Go, moved, commit, and_go, must, loop}
use Rattle.parse_laws.proofs.Loops.{loop_next, loop_stops, loop_ends, choice_shorter}
use Rattle.c_expressions.specs.Parsers.{Sight, seen, is, fits, fitting}
use Rattle.c_simple.specs.Gives.{statements_of}
use Rattle.c_simple.specs.Words.{number_of}
use Rattle.c_simple.specs.Parsers.{go_with, one_more, comma_by, comma_comes, take_by, number_comes}
use Rattle.c_simple.proofs.Shorter.{comma_shrinks, take_shrinks}

-- statements behind others
pub statements_grow : (ss more : List declared.Stmt) → statements_of (ss ++ more) ≡ statements_of ss ++ statements_of more
statements_grow ss more = map-append _ ss more

-- a part and what stands behind it, by the next token
pub commit_then : {Token A : Type 0} (k : Token → Move Token A) (f : A → Parser Token A) (ts : List Token) → commit (λ u. and_go (k u) f) refuse ts ≡ and_then (commit k refuse ts) f
commit_then k f [] = refl
commit_then {Token} {A} k f (u ∷ rest) = go (k u)
  where
    go : (m : Move Token A) → moved (and_go m f) refuse u rest ≡ and_then (moved m refuse u rest) f
    go Stop = refl
    go Deep = refl
    go (Go p) = refl

module _ {Token : Type 0} (v : Sight Token) where
  goes : (r : ℕ) (all : Tall (List Stmt)) (b f : Bool) → b ≡ true → cond b (fitting f (one_more v r all)) Stop ≡ Stop → ⊥
  goes r all false f e d = cc
  goes r all true true e d = cc
  goes r all true false e d = cc

  pub comma_next : (r : ℕ) (all : Tall (List Stmt)) (ts : List Token) → comma_comes v ts ≡ true → loop (comma_by v r) all ts ≡ and_then (commit (comma_by v r all) refuse ts) (loop (comma_by v r))
  comma_next r all [] b = absurd cc
  comma_next r all (u ∷ rest) b = loop_next (comma_by v r) (comma_shrinks v r) all u rest (goes r all (is v s.Comma u) (fits (suc r) all.levels) b)

  pub commas_stop : (r : ℕ) (all : Tall (List Stmt)) (ts : List Token) → comma_comes v ts ≡ false → loop (comma_by v r) all ts ≡ Got all ts
  commas_stop r all [] b = loop_ends (comma_by v r) all
  commas_stop r all (u ∷ rest) b = loop_stops (comma_by v r) all u rest (rw b refl)

  take_goes : (all : List ℕ) (o : Option ℕ) → is_some o ≡ true → go_with (λ k. must (is v s.Comma) (pure (all ++ k ∷ []))) o ≡ Stop → ⊥
  take_goes all None e d = cc
  take_goes all (Some k) e d = cc

  take_stays : (all : List ℕ) (o : Option ℕ) → is_some o ≡ false → go_with (λ k. must (is v s.Comma) (pure (all ++ k ∷ []))) o ≡ Stop
  take_stays all None e = refl
  take_stays all (Some k) e = absurd cc

  pub take_next : (all : List ℕ) (ts : List Token) → number_comes v ts ≡ true → loop (take_by v) all ts ≡ and_then (commit (take_by v all) refuse ts) (loop (take_by v))
  take_next all [] b = absurd cc
  take_next all (u ∷ rest) b = loop_next (take_by v) (take_shrinks v) all u rest (take_goes all (number_of (seen v u)) b)

  pub takes_stop : (all : List ℕ) (ts : List Token) → number_comes v ts ≡ false → loop (take_by v) all ts ≡ Got all ts
  takes_stop all [] b = loop_ends (take_by v) all
  takes_stop all (u ∷ rest) b = loop_stops (take_by v) all u rest (take_stays all (number_of (seen v u)) b)

  pub take_shorter : (all more : List ℕ) (ts rest : List Token) → commit (take_by v all) refuse ts ≡ Got more rest → length rest < length ts
  take_shorter all more ts rest e = choice_shorter (take_by v all) (take_shrinks v all) ts more rest e

  pub comma_shorter : (r : ℕ) (all more : Tall (List Stmt)) (ts rest : List Token) → commit (comma_by v r all) refuse ts ≡ Got more rest → length rest < length ts
  comma_shorter r all more ts rest e = choice_shorter (comma_by v r all) (comma_shrinks v r all) ts more rest e
