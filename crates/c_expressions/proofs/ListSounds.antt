-- The lists of expressions that are read are spelled.
use Rattle.std.proofs.Common.{◌≡◌, ℕ, max, Bool, true, false, cond, List, [], ◌∷◌, ◌++◌, refl, ap, subst, ◌∙◌, arith}
use Rattle.c_lexer.specs.declared.token.Sign.TheVariants as s
use Rattle.c_tree.specs.Expressions.{Expr}
use Rattle.c_grammar.specs.Items.{What, Item, at}
use Rattle.c_grammar.specs.Levels.{Tall, tall, gathered}
use Rattle.c_grammar.specs.Commas.{one, more}
use Rattle.c_grammar.specs.Expressions.{SpellsWhole, SpellsExpressions}
use Rattle.parse_laws.specs.Parser.{Stop}
use Rattle.parse_laws.proofs.Sound.{Sound, SoundMove, stop_sound, sound_map, pure_sound, bind_sound, loop_sound}
use Rattle.c_expressions.specs.Words.{is_sign}
use Rattle.c_expressions.specs.Parsers.{Sight, what_at, is, fits, fitting, added, comma_by, expressions, one_expression, with_expression}
use Rattle.c_expressions.proofs.Spelled.{is_sign_only}
use Rattle.c_expressions.proofs.Sounds.{items, expression_sound, fitting_sound}

pub gathered_one : (e : Tall Expr) → gathered (e ∷ []) ≡ one_expression e
gathered_one e = let p : max e.levels 0 ≡ e.levels = omega arith in ap (λ (l : ℕ). tall (e.tree ∷ []) l) p

pub gathered_more : (all : List (Tall Expr)) (e : Tall Expr) → gathered (all ++ e ∷ []) ≡ with_expression (gathered all) e
gathered_more [] e = let p : max e.levels 0 ≡ max 0 e.levels = omega arith in ap (λ (l : ℕ). tall (e.tree ∷ []) l) p
gathered_more (x ∷ all) e =
    let p : max x.levels (max (gathered all).levels e.levels) ≡ max (max x.levels (gathered all).levels) e.levels = omega arith in
    rw (gathered_more all e) (ap (λ (l : ℕ). tall (x.tree ∷ ((gathered all).tree ++ e.tree ∷ [])) l) p)

more_spelled : (t : Item) (ts mid rest : List Item) (all : List (Tall Expr)) (e : Tall Expr) → is_sign s.Comma (what_at t) ≡ true → SpellsExpressions ts (t ∷ mid) all → SpellsWhole mid rest e
    → SpellsExpressions ts rest (all ++ e ∷ [])
more_spelled (at l a) ts mid rest all e q d f = more (subst (λ (x : What). SpellsExpressions ts (at l x ∷ mid) all) (is_sign_only s.Comma a q) d) f

module _ {Token : Type 0} (v : Sight Token) where
  -- such expressions, with the levels of the deepest
  abbrev pub L : List Token → List Token → Tall (List Expr) → Type 0
  L ts rest a = (all : List (Tall Expr)) × SpellsExpressions (items v ts) (items v rest) all × (gathered all ≡ a)

  turn_sound : (r : ℕ) (a : Tall (List Expr)) (u : Token) → SoundMove (λ mid rest b. (ts : List Token) → L ts (u ∷ mid) a → L ts rest b) (comma_by v r a u)
  turn_sound r a u = go (is v s.Comma u) refl
    where
      go : (b : Bool) → is v s.Comma u ≡ b → SoundMove (λ mid rest b. (ts : List Token) → L ts (u ∷ mid) a → L ts rest b) (cond b (fitting (fits r a.levels) (added v r a)) Stop)
      go false q = stop_sound
      go true q = fitting_sound v (fits r a.levels) (bind_sound (expression_sound v r) (λ e. pure_sound (λ rest mid y ts x.
          (x.0 ++ e ∷ [], more_spelled (v.item u) (items v ts) (items v mid) (items v rest) x.0 e q x.1 y, gathered_more x.0 e ∙ ap (λ (g : Tall (List Expr)). with_expression g e) x.2))))

  -- every list that is read is spelled
  pub expressions_sound : (r : ℕ) → Sound (expressions v r) L
  unfolding expressions
  expressions_sound r = bind_sound (expression_sound v r) (λ e. sound_map (λ mid rest b f ts y. f ts (e ∷ [], one y, gathered_one e)) (loop_sound {R = L} (turn_sound r) (one_expression e)))
