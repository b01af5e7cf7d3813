-- Places in lists of statements, and what stands there.
use Rattle.std.proofs.Common.{◌≡◌, ◌<◌, ◌≤◌, ◌+◌, ℕ, zero, suc, List, [], ◌∷◌, length, drop, get_or, slice_index_or, Some, None, refl, sym, ap, ◌∙◌, arith}
use Rattle.std.proofs.lemmas.List.{drop_more, drop_all}
use Rattle.std.proofs.lemmas.Option.{slice_get_read, slice_get_past}
use Rattle.std.specs.Prelude.{slice_get}
use Rattle.c_tree.specs.declared.stmt.Stmt as declared
use Rattle.c_tree.specs.Bare.{Stmts, Nil, Cons}
use Rattle.c_frames.specs.declared.positions.Part.{Part}
use Rattle.c_frames.specs.declared.positions.Entered.{Entered}
use Rattle.c_meaning.specs.Shown.{shown_stmt, shown_body}
use Rattle.c_frames.specs.Positions.{from, part_of, entered, inside}
use Rattle.c_meaning.proofs.Reading.{some_is}

pub from_there : (ss : List declared.Stmt) (k : ℕ) (s : declared.Stmt) → slice_get ss k ≡ Some s → from k (shown_body ss) ≡ Cons (shown_stmt s) (from (suc k) (shown_body ss))
from_there [] k s e = absurd (cc e)
from_there (s' ∷ ss) zero s e = ap (λ x. Cons (shown_stmt x) (shown_body ss)) (some_is s' s e)
from_there (s' ∷ ss) (suc k) s e = from_there ss k s e

pub from_nothing : (ss : List declared.Stmt) (k : ℕ) → slice_get ss k ≡ None → from k (shown_body ss) ≡ Nil
from_nothing [] zero e = refl
from_nothing [] (suc k) e = refl
from_nothing (s' ∷ ss) zero e = absurd (cc e)
from_nothing (s' ∷ ss) (suc k) e = from_nothing ss k e

pub entered_there : (ss : List declared.Stmt) (k : ℕ) (part : Part) (s : declared.Stmt) → slice_get ss k ≡ Some s → entered part (from k (shown_body ss)) ≡ part_of part (shown_stmt s)
entered_there ss k part s e = ap (entered part) (from_there ss k s e)

pub entered_nothing : (ss : List declared.Stmt) (k : ℕ) (part : Part) → slice_get ss k ≡ None → entered part (from k (shown_body ss)) ≡ Nil
entered_nothing ss k part e = ap (entered part) (from_nothing ss k e)

-- one list more is entered
pub enters : (list next : Stmts) (at : List Entered) (k : ℕ) (d : Entered) (whole : Stmts) → k < length at → next ≡ entered (slice_index_or at k d).part (from (slice_index_or at k d).index list)
    → inside list (drop k at) ≡ whole → inside next (drop (k + 1) at) ≡ whole
enters list next at k d whole within is so_far = ap (λ l. inside l (drop (k + 1) at)) is ∙ sym (ap (inside list) (drop_more at k d within)) ∙ so_far

pub entered_all : (list : Stmts) (at : List Entered) (k : ℕ) (whole : Stmts) → length at ≤ k → inside list (drop k at) ≡ whole → list ≡ whole
entered_all list at k whole all so_far = sym (ap (inside list) (drop_all k at all)) ∙ so_far

-- what a lookup of a list tells
pub there_of : (ss : List declared.Stmt) (k : ℕ) (s : declared.Stmt) → k < length ss → s ≡ get_or ss k s → slice_get ss k ≡ Some s
there_of ss k s within is = slice_get_read ss (length ss) k s refl within is

pub from_past : (ss : List declared.Stmt) (k : ℕ) → length ss ≤ k → from k (shown_body ss) ≡ Nil
from_past ss k past = from_nothing ss k (slice_get_past ss k past)

-- something stands at each place of a list
pub something : (ss : List declared.Stmt) (k : ℕ) → k < length ss → from k (shown_body ss) ≡ Nil → ⊥
something [] k within e = absurd (omega (arith, within))
something (s ∷ ss) zero within e = cc e
something (s ∷ ss) (suc k) within e = something ss k (omega (arith, within)) e
