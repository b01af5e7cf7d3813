-- The statements of a function's own list.
use Rattle.std.proofs.Common.{◌≡◌, ℕ, ◌+◌, ◌<◌, ◌≤◌, Bool, ◌||◌, List, ◌∷◌, length, get_or, drop, sym, ap, ◌∙◌}
use Rattle.std.specs.declared.option.Option.{Option}
use Rattle.std.proofs.lemmas.List.{drop_more, drop_all}
use Rattle.c_tree.specs.declared.stmt.Stmt as declared_stmt
use Rattle.c_tree.specs.Expressions.{Place}
use Rattle.c_tree.specs.Lined.{Stmt, stmt_of, stmts_of}
use Rattle.c_rules.specs.Sites.{declared}
use Rattle.c_acts.specs.declared.first.Break.{Break}
use Rattle.c_acts.specs.First.{noted_all}
use Rattle.c_acts.specs.Uses.{Around}
use Rattle.c_check.specs.Walk.{with_names, stmt_breaks}
use Rattle.c_check.specs.Own.{Past, acts, create_added, join_added, added, is_unfixed, is_late, own_breaks}
use Rattle.c_acts.proofs.Noted.{noted_append}

pub past_added : (p : Past) (s : Stmt) (c j : Place → Bool) (a : Bool) → c ≡ create_added p.created s → j ≡ join_added p.joined s → a ≡ (acts s || p.active)
    → record { created = c; joined = j; active = a } ≡ added p s
past_added p s c j a e f g = λ i. record { created = e i; joined = f i; active = g i }

module _ (a : Around) (main : Bool) where
  -- one turn: what the statements that are left break leads to what all break
  pub own_turn : (ss : List declared_stmt.Stmt) (i : ℕ) (s : declared_stmt.Stmt) (now next : List ℕ → Bool) (past after : Past) (u late : Bool) (f g all : Option Break)
      → i < length ss → s ≡ get_or ss i s → next ≡ with_names (declared (stmt_of s)) now → after ≡ added past (stmt_of s)
      → u ≡ is_unfixed a now main past (stmt_of s) → late ≡ is_late main past (stmt_of s) → g ≡ noted_all f (stmt_breaks a now u late (stmt_of s))
      → noted_all f (own_breaks a main now past (stmts_of (drop i ss))) ≡ all → noted_all g (own_breaks a main next after (stmts_of (drop (i + 1) ss))) ≡ all
  own_turn ss i s now next past after u late f g all within is e k du dl p h =
      let here : drop i ss ≡ s ∷ drop (i + 1) ss = drop_more ss i s within ∙ ap (λ y. y ∷ drop (i + 1) ss) (sym is) in
      let t = stmt_of s in
      let rest = stmts_of (drop (i + 1) ss) in
      let now' = with_names (declared t) now in
      let piece = stmt_breaks a now (is_unfixed a now main past t) (is_late main past t) t in
      ap (λ x. noted_all g (own_breaks a main x after rest)) e
      ∙ ap (λ x. noted_all g (own_breaks a main now' x rest)) k
      ∙ ap (λ x. noted_all x (own_breaks a main now' (added past t) rest)) (p ∙ ap (λ x. noted_all f (stmt_breaks a now x late t)) du ∙ ap (λ x. noted_all f (stmt_breaks a now (is_unfixed a now main past t) x t)) dl)
      ∙ sym (noted_append f piece (own_breaks a main now' (added past t) rest))
      ∙ ap (λ x. noted_all f (own_breaks a main now past (stmts_of x))) (sym here) ∙ h

  pub own_end : (ss : List declared_stmt.Stmt) (i : ℕ) (now : List ℕ → Bool) (past : Past) (f all : Option Break) → length ss ≤ i
      → noted_all f (own_breaks a main now past (stmts_of (drop i ss))) ≡ all → f ≡ all
  own_end ss i now past f all past_end h = ap (λ x. noted_all f (own_breaks a main now past (stmts_of x))) (sym (drop_all i ss past_end)) ∙ h
