-- No parser of places, lists, calls and arguments takes a token back.
use Rattle.std.proofs.Common.{◌≡◌, ℕ, zero, suc, Bool, true, false, cond, List, ◌∙◌}
use Rattle.c_lexer.specs.declared.token.Sign.TheVariants as s
use Rattle.c_grammar.specs.declared.words.FixedWord.TheVariants as w
use Rattle.c_grammar.specs.Items.{What, name_of}
use Rattle.parse_laws.specs.Parser.{Stop, deeper}
use Rattle.parse_laws.proofs.Operators as ops
use Rattle.parse_laws.proofs.Sound.{Sound, SoundMove, stop_sound, deep_sound, go_sound}
use Rattle.c_expressions.specs.Parsers.{Sight, seen, is, fits, fitting, may_open, opened, expression, expressions_of, lower_in, place_behind, place, address, expressions, some_arguments, arguments, unary, cast_by, cast_unary, void_cast, argument_by, argument}
use Rattle.c_expressions.proofs.Shorter.{Less, Fewer, less_pure, less_commit, fewer_choice, fewer_less, less_when, less_fitting, less_bind, less_must, less_loop, less_named, less_close_by, less_close, below_fewer, less_behind, less_opened, fewer_chain, fewer_expression_of}

module _ {Token : Type 0} (v : Sight Token) where
  lower_fewer : (r m : ℕ) → r ≡ suc m → (k : ℕ) → Sound (lower_in v r k) Fewer
  lower_fewer r = below_fewer v r (λ m e k. fewer_chain v m k)

  -- an expression takes a token
  pub fewer_expression : (r : ℕ) → Sound (expression v r) Fewer
  fewer_expression r = fewer_expression_of v r

  -- ---- places

  pub less_place_behind : (r : ℕ) (n : List ℕ) → Sound (place_behind v r n) Less
  less_place_behind r n = less_behind v r (lower_in v r) (lower_fewer r) _ _

  -- and so does a place
  pub fewer_place : (r : ℕ) → Sound (place v r) Fewer
  unfolding place
  fewer_place r = fewer_choice (λ u. less_named v (name_of (seen v u)) (less_place_behind r))

  pub less_address : (r : ℕ) → Sound (address v r) Less
  unfolding address
  less_address r = less_must _ (fewer_less (fewer_place r))

  -- ---- lists and calls

  pub less_expressions : (r : ℕ) → Sound (expressions v r) Less
  unfolding expressions
  less_expressions r =
      less_bind (fewer_less (fewer_expression r)) (λ e. less_loop (λ all u. less_close_by v s.Comma (fits r all.levels) (less_bind (fewer_less (fewer_expression r)) (λ x. less_pure)) u) _)

  pub less_some_arguments : (r : ℕ) → Sound (some_arguments v r) Less
  less_some_arguments r = less_bind (less_expressions r) (λ all. less_close v _ _ less_pure)

  pub less_arguments : (r : ℕ) → Sound (arguments v r) Less
  unfolding arguments
  less_arguments r = less_commit (λ u. less_when _ less_pure) (less_some_arguments r)

  -- ---- the argument of a new thread

  less_unary : (r : ℕ) → Sound (unary v r) Less
  less_unary r = record { spelled = λ ts e rest d. (fewer_less (fewer_chain v r 0)).spelled ts e rest (ops.chain_base (expressions_of v) r ts ∙ d) }

  less_cast_by : (r : ℕ) (u : Token) → SoundMove Less (cast_by v r u)
  less_cast_by r u = go (is v s.LeftParenthesis u)
    where
      go : (b : Bool) → SoundMove Less (cond b (fitting (may_open v r) (opened v r (lower_in v r) (unary v r) (unary v r))) Stop)
      go true = less_fitting (may_open v r) (less_opened v r (lower_in v r) (lower_fewer r) (less_unary r) (less_unary r))
      go false = stop_sound

  less_cast_unary : (r : ℕ) → Sound (cast_unary v r) Less
  unfolding cast_unary
  less_cast_unary r = less_commit (less_cast_by r) (less_unary r)

  less_void_cast : (r : ℕ) → Sound (void_cast v r) Less
  unfolding void_cast
  less_void_cast r = less_must _ (less_must _ (less_must _ (less_cast_unary r)))

  less_argument_by : (r : ℕ) (a : What) → SoundMove Less (argument_by v r a)
  less_argument_by r (What.Fixed w.Null) = go_sound less_pure
  less_argument_by r (What.Sign s.LeftParenthesis) = go v.void
    where
      below : (r : ℕ) → SoundMove Less (deeper (void_cast v) r)
      below zero = deep_sound
      below (suc m) = go_sound (less_void_cast m)

      go : (b : Bool) → SoundMove Less (cond b (deeper (void_cast v) r) Stop)
      go true = below r
      go false = stop_sound
  less_argument_by r _ = stop_sound

  pub fewer_argument : (r : ℕ) → Sound (argument v r) Fewer
  unfolding argument
  fewer_argument r = fewer_choice (λ u. less_argument_by r (seen v u))
