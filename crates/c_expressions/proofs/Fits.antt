-- What is read as a place, as the arguments of a call or as a call fits into its room.
use Rattle.std.proofs.Common.{◌≡◌, ℕ, zero, suc, Bool, true, false, cond, List, Option, Some, None, refl, arith}
use Rattle.c_lexer.specs.declared.token.Sign.{Sign}
use Rattle.c_lexer.specs.declared.token.Sign.TheVariants as signs
use Rattle.c_tree.specs.Expressions.{Expr, Exprs, Place}
use Rattle.c_grammar.specs.Items.{name_of}
use Rattle.c_grammar.specs.Levels.{Tall}
use Rattle.c_grammar.specs.Expressions.{Called, loosest}
use Rattle.parse_laws.specs.Parser.{Got, Parser, ◌>>=◌, pure, Stop, expect, deeper}
use Rattle.parse_laws.proofs.Sound.{Sound, SoundMove, stop_sound, deep_sound, go_sound, pure_sound, refuse_sound, bind_sound, commit_sound, when_sound}
use Rattle.c_expressions.specs.Parsers.{Sight, seen, is, go_named, fits, fitting, closing, close, indexed, behind_name, place_behind, place, address, member, scalar, expressions, arguments, call_behind, lower_in}
use Rattle.c_expressions.proofs.Closers.{fit, fits_of}

-- each value that is read is such
abbrev pub Values : {Token A : Type 0} → (A → Type 0) → Parser Token A → Type 0
Values P p = Sound p (λ ts rest a. P a)

module _ {Token : Type 0} where
  any : {A : Type 0} (p : Parser Token A) → Sound p (λ ts rest a. Unit {0})
  any p = record { spelled = λ ts a rest e. tt }

  -- by the last part alone
  values_bind : {A B : Type 0} {P : B → Type 0} (p : Parser Token A) {f : A → Parser Token B} → ((a : A) → Values P (f a)) → Values P (p >>= f)
  values_bind p h = bind_sound (any p) (λ a. record { spelled = λ mid b rest e ts y. (h a).spelled mid b rest e })

  values_then : {A B : Type 0} {Q : A → Type 0} {P : B → Type 0} {p : Parser Token A} {f : A → Parser Token B} → Values Q p → ((a : A) → Q a → Values P (f a)) → Values P (p >>= f)
  values_then {Q = Q} x h = bind_sound {R = λ ts rest a. Q a} x (λ a. record { spelled = λ mid b rest e ts y. (h a y).spelled mid b rest e })

module _ {Token : Type 0} (v : Sight Token) where
  values_close : {A : Type 0} {P : A → Type 0} {p : Parser Token A} (x : Sign) (b : Bool) → (b ≡ true → Values P p) → Values P (close v x b p)
  values_close {A} {P} {p} x true h = values_bind (closing v x true) (λ u. h refl)
  values_close {A} {P} {p} x false h = bind_sound {R = λ ts rest a. ⊥} (commit_sound (λ u. go u (is v x u)) refuse_sound) (λ u. record { spelled = λ mid b rest e ts y. absurd y })
    where
      go : (u : Token) (c : Bool) → SoundMove {Token = Token} {A = Token} (λ mid rest a. ⊥) (cond c (fitting false (pure u)) Stop)
      go u true = deep_sound
      go u false = stop_sound

  behind_fits : (r : ℕ) {A : Type 0} {P : A → Type 0} (make : Tall Expr → A) (alone : A) → ((e : Tall Expr) → fit r e ≡ true → P (make e)) → P alone → Values P (behind_name v r (lower_in v r) make alone)
  behind_fits r {A} {P} make alone made x = commit_sound (λ u. go (is v signs.LeftBracket u)) (pure_sound (λ ts. x))
    where
      inside : Values P (indexed v r (lower_in v r) make)
      inside = values_then {Q = λ e. fit r e ≡ true} (values_bind (lower_in v r loosest) (λ e. values_close signs.RightBracket (fits r e.levels) (λ d. pure_sound (λ ts. d)))) (λ e d. pure_sound (λ ts. made e d))

      deep : (s : ℕ) → SoundMove (λ mid rest a. P a) (deeper (λ _. indexed v r (lower_in v r) make) s)
      deep zero = deep_sound
      deep (suc m) = go_sound inside

      go : (b : Bool) → SoundMove (λ mid rest a. P a) (cond b (deeper (λ _. indexed v r (lower_in v r) make) r) Stop)
      go true = deep r
      go false = stop_sound

  place_behind_values : (r : ℕ) (n : List ℕ) → Values (λ p. fit r p ≡ true) (place_behind v r n)
  place_behind_values r n = behind_fits r (member n) (scalar n) (λ e d. d) (fits_of r 0 (omega arith))

  place_values : (r : ℕ) → Values (λ p. fit r p ≡ true) (place v r)
  unfolding place
  place_values r = commit_sound (λ u. go (name_of (seen v u))) refuse_sound
    where
      go : (o : Option (List ℕ)) → SoundMove (λ mid rest p. fit r p ≡ true) (go_named (place_behind v r) o)
      go None = stop_sound
      go (Some n) = go_sound (place_behind_values r n)

  address_values : (r : ℕ) → Values (λ p. fit r p ≡ true) (address v r)
  unfolding address
  address_values r = values_bind (expect (is v signs.Ampersand)) (λ u. place_values r)

  arguments_values : (r : ℕ) → Values (λ args. fit r args ≡ true) (arguments v r)
  unfolding arguments
  arguments_values r =
      commit_sound (λ u. when_sound (is v signs.RightParenthesis u) (λ e. pure_sound (λ ts. fits_of r 0 (omega arith))))
      (values_bind (expressions v r) (λ all. values_close signs.RightParenthesis (fits r all.levels) (λ d. pure_sound (λ ts. d))))

  call_behind_values : (r : ℕ) (f : List ℕ) → Values (λ c. fit r c ≡ true) (call_behind v r f)
  unfolding call_behind
  call_behind_values r f = values_bind (expect (is v signs.LeftParenthesis)) (λ u. values_then (arguments_values r) (λ args d. pure_sound (λ ts. d)))

  -- as facts of what was read

  pub place_behind_fits : (r : ℕ) (n : List ℕ) (ts : List Token) (p : Tall Place) (rest : List Token) → place_behind v r n ts ≡ Got p rest → fit r p ≡ true
  place_behind_fits r n ts p rest e = (place_behind_values r n).spelled ts p rest e

  pub place_fits : (r : ℕ) (ts : List Token) (p : Tall Place) (rest : List Token) → place v r ts ≡ Got p rest → fit r p ≡ true
  place_fits r ts p rest e = (place_values r).spelled ts p rest e

  pub address_fits : (r : ℕ) (ts : List Token) (p : Tall Place) (rest : List Token) → address v r ts ≡ Got p rest → fit r p ≡ true
  address_fits r ts p rest e = (address_values r).spelled ts p rest e

  pub arguments_fit : (r : ℕ) (ts : List Token) (args : Tall Exprs) (rest : List Token) → arguments v r ts ≡ Got args rest → fit r args ≡ true
  arguments_fit r ts args rest e = (arguments_values r).spelled ts args rest e

  pub call_behind_fits : (r : ℕ) (f : List ℕ) (ts : List Token) (c : Tall Called) (rest : List Token) → call_behind v r f ts ≡ Got c rest → fit r c ≡ true
  call_behind_fits r f ts c rest e = (call_behind_values r f).spelled ts c rest e
