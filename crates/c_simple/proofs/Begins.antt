-- What statements begin with, and that they fit.
use Rattle.std.proofs.Common.{◌≡◌, ℕ, zero, suc, ◌≤◌, Bool, true, false, ◌||◌, cond, List, Option, Some, None, refl, arith}
use Rattle.std.proofs.lemmas.Bool.{ltb-true}
use Rattle.std.specs.Option.{is_some}
use Rattle.c_lexer.specs.declared.token.Sign.{Sign}
use Rattle.c_lexer.specs.declared.token.Sign.TheVariants as s
use Rattle.c_tree.specs.declared.expr.Op.{Op}
use Rattle.c_tree.specs.declared.program.Kind.{Kind}
use Rattle.c_tree.specs.declared.program.Kind.TheVariants as kind
use Rattle.c_tree.specs.Lined.{Stmt}
use Rattle.c_grammar.specs.declared.words.FixedWord.TheVariants as w
use Rattle.c_grammar.specs.Items.{What, name_of}
use Rattle.c_grammar.specs.Levels.{Tall}
use Rattle.parse_laws.specs.Parser.{Parser, Move, Stop, Deep, Go, pure, and_go, deeper}
use Rattle.parse_laws.proofs.Sound.{Sound, SoundMove, stop_sound, deep_sound, pure_sound, refuse_sound, sound_map, bind_sound, and_go_sound, commit_sound}
use Rattle.c_expressions.specs.Parsers.{Sight, seen, is, fits, fitting, close}
use Rattle.c_expressions.proofs.Sounds.{close_sound}
use Rattle.c_simple.specs.Words.{counter}
use Rattle.c_simple.specs.Parsers.{line, go_with, ended, value_returned, return_by, begun_by, step_begun, simple_begun, step_by, simple_by, step_named, simple_named, begins_step, begins_simple_at, begins_simple}

module _ {Token : Type 0} (v : Sight Token) where
  -- ---- what is read fits

  ended_fits : (closer : Sign) (r : ℕ) (x : Tall (List Stmt)) → Sound (ended v closer r x) (λ mid rest y. y.levels ≤ suc r)
  ended_fits closer r x = go (fits (suc r) x.levels) refl
    where
      none : (u : Token) (b : Bool) → SoundMove {Token = Token} {A = Token} (λ mid rest w. ⊥) (cond b (fitting false (pure u)) Stop)
      none u true = deep_sound
      none u false = stop_sound

      go : (b : Bool) → fits (suc r) x.levels ≡ b → Sound (close v closer b (pure x)) (λ mid rest y. y.levels ≤ suc r)
      go true q = close_sound v closer true (λ u e. pure_sound (λ rest. let lt = ltb-true x.levels (suc (suc r)) q in omega (arith, lt)))
      go false q = bind_sound {R = λ ts rest u. ⊥} (commit_sound (λ u. none u (is v closer u)) refuse_sound) (λ u. record { spelled = λ mid y rest e ts h. absurd h })

  any_move : {A : Type 0} {m : Move Token A} → SoundMove (λ mid rest x. Unit {0}) m
  any_move = record { taken = λ p e. record { spelled = λ ts a rest d. tt } }

  pub simple_fits : (k : Kind) (r : ℕ) (u : Token) → SoundMove (λ mid rest x. x.levels ≤ suc r) (simple_by v k r u)
  simple_fits k r u = and_go_sound any_move (λ x. sound_map (λ mid rest y h ts z. h) (ended_fits s.Semicolon r x))

  pub step_fits : (closer : Sign) (r : ℕ) (u : Token) → SoundMove (λ mid rest x. x.levels ≤ suc r) (step_by v closer r u)
  step_fits closer r u = and_go_sound any_move (λ x. sound_map (λ mid rest y h ts z. h) (ended_fits closer r x))

  -- ---- where nothing begins

  -- a move that does something
  abbrev Acts : {A : Type 0} → Move Token A → Type 0
  Acts m = m ≡ Stop → ⊥

  goes_on_acts : {A B : Type 0} (m : Move Token A) (f : A → Parser Token B) → Acts m → Acts (and_go m f)
  goes_on_acts Stop f h e = h refl
  goes_on_acts Deep f h e = cc
  goes_on_acts (Go p) f h e = cc

  goes_on_stops : {A B : Type 0} (m : Move Token A) (f : A → Parser Token B) → m ≡ Stop → and_go m f ≡ Stop
  goes_on_stops Stop f e = refl
  goes_on_stops Deep f e = absurd cc
  goes_on_stops (Go p) f e = absurd cc

  with_stops : {A B : Type 0} (p : B → Parser Token A) (o : Option B) → is_some o ≡ false → go_with p o ≡ Stop
  with_stops p None e = refl
  with_stops p (Some x) e = absurd cc

  with_acts : {A B : Type 0} (p : B → Parser Token A) (o : Option B) → is_some o ≡ true → Acts (go_with p o)
  with_acts p None e d = cc
  with_acts p (Some x) e d = cc

  begun_stops : (p : List ℕ → Parser Token (Tall (List Stmt))) (q : Op → Parser Token (Tall (List Stmt))) (n : Option (List ℕ)) (o : Option Op) → (is_some n || is_some o) ≡ false → begun_by p (go_with q o) n ≡ Stop
  begun_stops p q (Some n) o e = absurd cc
  begun_stops p q None o e = with_stops q o e

  begun_acts : (p : List ℕ → Parser Token (Tall (List Stmt))) (q : Op → Parser Token (Tall (List Stmt))) (n : Option (List ℕ)) (o : Option Op) → (is_some n || is_some o) ≡ true → Acts (begun_by p (go_with q o) n)
  begun_acts p q (Some n) o e d = cc
  begun_acts p q None o e d = with_acts q o e d

  deeper_acts : {A : Type 0} (p : ℕ → Parser Token A) (r : ℕ) → Acts (deeper p r)
  deeper_acts p zero e = cc
  deeper_acts p (suc r) e = cc

  return_acts : (r l : ℕ) (k : Kind) → Acts (return_by v r l k)
  return_acts r l kind.Main e = deeper_acts (λ _. value_returned v r l) r e
  return_acts r l kind.Int e = deeper_acts (λ _. value_returned v r l) r e
  return_acts r l kind.Void e = cc
  return_acts r l kind.Thread e = cc

  simple_begun_stops : (k : Kind) (r : ℕ) (u : Token) (a : What) → seen v u ≡ a → begins_simple_at a ≡ false → simple_begun v k r u a ≡ Stop
  simple_begun_stops k r u (What.Fixed w.Int) d e = absurd cc
  simple_begun_stops k r u (What.Fixed w.Return) d e = absurd cc
  simple_begun_stops k r u _ d e = begun_stops (simple_named v r u) _ (name_of (seen v u)) (counter (seen v u)) (rw d e)

  simple_begun_acts : (k : Kind) (r : ℕ) (u : Token) (a : What) → seen v u ≡ a → begins_simple_at a ≡ true → Acts (simple_begun v k r u a)
  simple_begun_acts k r u (What.Fixed w.Int) d e f = cc
  simple_begun_acts k r u (What.Fixed w.Return) d e f = return_acts r (line v u) k f
  simple_begun_acts k r u _ d e f = begun_acts (simple_named v r u) _ (name_of (seen v u)) (counter (seen v u)) (rw d e) f

  -- a token with which no simple statement begins, in any room
  pub simple_stops : (k : Kind) (r : ℕ) (u : Token) → begins_simple v u ≡ false → simple_by v k r u ≡ Stop
  simple_stops k r u e = goes_on_stops (simple_begun v k r u (seen v u)) (ended v s.Semicolon r) (simple_begun_stops k r u (seen v u) refl e)

  pub simple_acts : (k : Kind) (r : ℕ) (u : Token) → begins_simple v u ≡ true → simple_by v k r u ≡ Stop → ⊥
  simple_acts k r u e = goes_on_acts (simple_begun v k r u (seen v u)) (ended v s.Semicolon r) (simple_begun_acts k r u (seen v u) refl e)

  pub step_stops : (closer : Sign) (r : ℕ) (u : Token) → begins_step v u ≡ false → step_by v closer r u ≡ Stop
  step_stops closer r u e = goes_on_stops (step_begun v r u) (ended v closer r) (begun_stops (step_named v r u) _ (name_of (seen v u)) (counter (seen v u)) e)

  pub step_acts : (closer : Sign) (r : ℕ) (u : Token) → begins_step v u ≡ true → step_by v closer r u ≡ Stop → ⊥
  step_acts closer r u e = goes_on_acts (step_begun v r u) (ended v closer r) (begun_acts (step_named v r u) _ (name_of (seen v u)) (counter (seen v u)) e)
