-- One turn of the loops of the code.
use Rattle.std.proofs.Common.{◌≡◌, ℕ, ◌<◌, Bool, true, false, cond, ◌||◌, ◌&&◌, List, [], ◌∷◌, length, refl, sym, ◌∙◌}
use Rattle.c_lexer.specs.declared.token.Sign.TheVariants as s
use Rattle.c_tree.specs.declared.program.Kind.{Kind}
use Rattle.c_tree.specs.declared.program.Slot.{Slot}
use Rattle.c_tree.specs.Lined.{Stmt}
use Rattle.c_grammar.specs.Items.{What}
use Rattle.c_grammar.specs.declared.words.FixedWord.TheVariants as w
use Rattle.c_grammar.specs.Levels.{Tall, followed}
use Rattle.c_grammar.specs.Statements.{Body, body_then}
use Rattle.parse_laws.specs.Parser.{Got, Parser, and_then, pure, refuse, Move, Stop, commit, and_go, when, loop, many, one_more}
use Rattle.parse_laws.proofs.Loops.{loop_next, loop_stops, loop_ends, many_next, many_stops, choice_shorter}
use Rattle.c_expressions.specs.Parsers.{Sight, seen, is, comes}
use Rattle.c_statements.specs.declared.word.Thread.{Thread}
use Rattle.c_statements.specs.declared.word.Thread.TheVariants as t
use Rattle.c_statements.specs.Words.{thread_opening, is_static, begins}
use Rattle.c_statements.specs.Parsers.{statement_by, statement_comes, slot, comma_by, one_more_slot, static_threads, stated_by, main_by, is_main, body_by, body_goes_on, body_comes}
use Rattle.c_statements.proofs.Shorter.{statement_shrinks, comma_shrinks, body_shrinks}
use Rattle.c_statements.proofs.Openings.{statement_stops, statement_begins}

module _ {Token : Type 0} (v : Sight Token) where
  -- ---- statements

  pub statement_next : (kind : Kind) (room : ℕ) (all : Tall (List Stmt)) (ts : List Token) → statement_comes v ts ≡ true
      → many (statement_by v kind room) followed all ts ≡ and_then (commit (statement_by v kind room) refuse ts) (λ x. many (statement_by v kind room) followed (followed all x))
  statement_next kind room all [] b = absurd cc
  statement_next kind room all (u ∷ rest) b = many_next (statement_by v kind room) followed (statement_shrinks v kind room) all u rest (statement_begins v kind room u b)

  pub statements_stop : (kind : Kind) (room : ℕ) (all : Tall (List Stmt)) (ts : List Token) → statement_comes v ts ≡ false → many (statement_by v kind room) followed all ts ≡ Got all ts
  statements_stop kind room all [] b = loop_ends (one_more (statement_by v kind room) followed) all
  statements_stop kind room all (u ∷ rest) b = many_stops (statement_by v kind room) followed all u rest (statement_stops v kind room u b)

  pub statement_shorter : (kind : Kind) (room : ℕ) (x : Tall (List Stmt)) (ts rest : List Token) → commit (statement_by v kind room) refuse ts ≡ Got x rest → length rest < length ts
  statement_shorter kind room x ts rest e = choice_shorter (statement_by v kind room) (statement_shrinks v kind room) ts x rest e

  -- ---- threads

  comma_goes : (b : Bool) (p : Parser Token Slot) → b ≡ true → when b p ≡ Stop → ⊥
  comma_goes true p e d = cc
  comma_goes false p e d = cc

  pub comma_next : (all : List Slot) (ts : List Token) → comes v s.Comma ts ≡ true → many (comma_by v) one_more_slot all ts ≡ and_then (commit (comma_by v) refuse ts) (λ x. many (comma_by v) one_more_slot (one_more_slot all x))
  comma_next all [] b = absurd cc
  comma_next all (u ∷ rest) b = many_next (comma_by v) one_more_slot (comma_shrinks v) all u rest (comma_goes (is v s.Comma u) (slot v) b)

  pub commas_stop : (all : List Slot) (ts : List Token) → comes v s.Comma ts ≡ false → many (comma_by v) one_more_slot all ts ≡ Got all ts
  commas_stop all [] b = loop_ends (one_more (comma_by v) one_more_slot) all
  commas_stop all (u ∷ rest) b = many_stops (comma_by v) one_more_slot all u rest (rw b refl)

  pub comma_shorter : (x : Slot) (ts rest : List Token) → commit (comma_by v) refuse ts ≡ Got x rest → length rest < length ts
  comma_shorter x ts rest e = choice_shorter (comma_by v) (comma_shrinks v) ts x rest e

  -- ---- bodies

  -- what is no statement of main begins so
  static_begins : (a : What) → thread_opening a ≡ t.Static → (begins a ≡ false) × (is_static a ≡ true)
  static_begins (What.Fixed w.Static) e = (refl, refl)
  static_begins _ e = absurd cc

  type_begins : (a : What) → thread_opening a ≡ t.Type → begins a ≡ true
  type_begins (What.Fixed w.Thread) e = refl
  type_begins _ e = absurd cc

  other_static : (a : What) → thread_opening a ≡ t.Other → is_static a ≡ false
  other_static (What.Fixed w.Static) e = absurd cc
  other_static _ e = refl

  module _ (kind : Kind) (room : ℕ) (b : Tall Body) (u : Token) where
    stated_stops : begins (seen v u) ≡ false → stated_by v kind room b u ≡ Stop
    stated_stops e = rw (statement_stops v kind room u e) refl

    stated_begins : begins (seen v u) ≡ true → stated_by v kind room b u ≡ Stop → ⊥
    stated_begins e = go (statement_by v kind room u) (statement_begins v kind room u e)
      where
        go : (m : Move Token (Tall (List Stmt))) → (m ≡ Stop → ⊥) → and_go m (λ x. pure (body_then b x)) ≡ Stop → ⊥
        go Stop h d = absurd (h refl)
        go m h d = cc

    main_stops : (x : Thread) → thread_opening (seen v u) ≡ x → begins (seen v u) || (v.threads && is_static (seen v u)) ≡ false → main_by v kind room b u x ≡ Stop
    main_stops t.Static d e = go (begins (seen v u)) v.threads (is_static (seen v u)) (static_begins (seen v u) d).1 e
      where
        go : (x c y : Bool) → y ≡ true → x || (c && y) ≡ false → when c (static_threads v b) ≡ Stop
        go x false y d e = refl
        go true true y d e = absurd cc
        go false true y d e = absurd (differ y d e)
          where
            differ : (y : Bool) → y ≡ true → y ≡ false → ⊥
            differ y d e = cc
    main_stops t.Type d e = absurd (differ (type_begins (seen v u) d) e)
      where
        differ : begins (seen v u) ≡ true → begins (seen v u) || (v.threads && is_static (seen v u)) ≡ false → ⊥
        differ x y = cc
    main_stops t.Other d e = stated_stops (left (begins (seen v u)) (v.threads && is_static (seen v u)) e)
      where
        left : (c x : Bool) → c || x ≡ false → c ≡ false
        left true x e = absurd cc
        left false x e = refl

    main_begins : (x : Thread) → thread_opening (seen v u) ≡ x → begins (seen v u) || (v.threads && is_static (seen v u)) ≡ true → main_by v kind room b u x ≡ Stop → ⊥
    main_begins t.Static d e = go (begins (seen v u)) v.threads (is_static (seen v u)) (static_begins (seen v u) d).0 e
      where
        go : (x c y : Bool) → x ≡ false → x || (c && y) ≡ true → when c (static_threads v b) ≡ Stop → ⊥
        go x true y d e f = cc
        go true false y d e f = cc
        go false false y d e f = cc
    main_begins t.Type d e = λ f. cc
    main_begins t.Other d e = stated_begins (left (begins (seen v u)) v.threads (is_static (seen v u)) (other_static (seen v u) d) e)
      where
        left : (c x y : Bool) → y ≡ false → c || (x && y) ≡ true → c ≡ true
        left true x y d e = refl
        left false true y d e = sym d ∙ e
        left false false y d e = e

    pub turn_stops : body_goes_on v kind u ≡ false → body_by v kind room b u ≡ Stop
    turn_stops e = go (is_main kind) e
      where
        go : (c : Bool) → begins (seen v u) || (c && (v.threads && is_static (seen v u))) ≡ false → cond c (main_by v kind room b u (thread_opening (seen v u))) (stated_by v kind room b u) ≡ Stop
        go true e = main_stops (thread_opening (seen v u)) refl e
        go false e = stated_stops (left (begins (seen v u)) e)
          where
            left : (c : Bool) → c || false ≡ false → c ≡ false
            left true e = e
            left false e = e

    turn_begins : body_goes_on v kind u ≡ true → body_by v kind room b u ≡ Stop → ⊥
    turn_begins e = go (is_main kind) e
      where
        go : (c : Bool) → begins (seen v u) || (c && (v.threads && is_static (seen v u))) ≡ true → cond c (main_by v kind room b u (thread_opening (seen v u))) (stated_by v kind room b u) ≡ Stop → ⊥
        go true e = main_begins (thread_opening (seen v u)) refl e
        go false e = stated_begins (left (begins (seen v u)) e)
          where
            left : (c : Bool) → c || false ≡ true → c ≡ true
            left true e = e
            left false e = e

  pub body_next : (kind : Kind) (room : ℕ) (b : Tall Body) (ts : List Token) → body_comes v kind ts ≡ true → loop (body_by v kind room) b ts ≡ and_then (commit (body_by v kind room b) refuse ts) (loop (body_by v kind room))
  body_next kind room b [] e = absurd cc
  body_next kind room b (u ∷ rest) e = loop_next (body_by v kind room) (body_shrinks v kind room) b u rest (turn_begins kind room b u e)

  pub body_stops : (kind : Kind) (room : ℕ) (b : Tall Body) (ts : List Token) → body_comes v kind ts ≡ false → loop (body_by v kind room) b ts ≡ Got b ts
  body_stops kind room b [] e = loop_ends (body_by v kind room) b
  body_stops kind room b (u ∷ rest) e = loop_stops (body_by v kind room) b u rest (turn_stops kind room b u e)

  pub body_shorter : (kind : Kind) (room : ℕ) (b c : Tall Body) (ts rest : List Token) → commit (body_by v kind room b) refuse ts ≡ Got c rest → length rest < length ts
  body_shorter kind room b c ts rest e = choice_shorter (body_by v kind room b) (body_shrinks v kind room b) ts c rest e
