use Rattle.std.proofs.Common.{◌≡◌, ℕ, List, Bool, length, take, drop}
use Rattle.std.specs.declared.option.Option.{Option}
use denote.Ref.{Bor}
use Rattle.c_tree.specs.Lined.{stmts_of, Stmts}
use Rattle.c_rules.specs.Sites.{locals_of}
use Rattle.c_names.specs.Tables.{in_scope}
use Rattle.c_acts.specs.declared.first.Break.{Break}
use Rattle.c_acts.specs.First.{noted_all}
use Rattle.c_acts.specs.Uses.{Around, around}
use Rattle.c_check.specs.Walk as spec
use Rattle.c_check.proofs.walk.+walk.Given as goal

-- what the statements that are left break and declare leads to what all do, and the locals before are still there
pub record Walks (a : Around) (late : Bool) (now before : List ℕ → Bool) (keys old : List (Bor (List ℕ))) (first all : Option Break) (left whole : Stmts) : Type 0 where
  pub breaks : noted_all first (spec.list_breaks a now late left) ≡ noted_all all (spec.list_breaks a before late whole)
  pub scoped : spec.with_names (locals_of left) now ≡ spec.with_names (locals_of whole) before
  pub behind : take (length old) keys ≡ old

abbrev pub invariant-check_open-loop-s : goal.invariant-check_open-loop-s
invariant-check_open-loop-s l =
    Walks (around l.at) l.late (in_scope l.scope) (in_scope l.fn.scope) l.scope.keys l.fn.scope.keys l.first l.fn.first
    (stmts_of (drop l.s-index l.ss)) (stmts_of l.ss)
