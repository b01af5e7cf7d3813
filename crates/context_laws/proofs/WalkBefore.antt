-- The walk of a list before another is the one walk and then the other.
use Rattle.std.specs.Prelude.{◌≡◌, ℕ, List}
use Rattle.std.proofs.Common.{refl, ap, sym, ◌∙◌}
use Rattle.c_tree.specs.Lined.{Stmts, Nil, Cons}
use Rattle.outlines.specs.Outline.{Parts, joined}
use Rattle.contexts.specs.Constants.{Constants, known_after, known_end, before}
use Rattle.contexts.specs.Walk.{Walked, Found, Unresolved, TooMany, then_walk, walk, walk_all, Scene}
use Rattle.context_laws.proofs.Found.{then_again, then_same, then_found, joined_again}

-- parts that are found before others
abbrev pub before_all : Parts → Walked Parts → Walked Parts
before_all xs r = then_walk r (λ ys k. Found (joined xs ys) k)

both_before : (xs ys : Parts) (r : Walked Parts) → before_all xs (before_all ys r) ≡ before_all (joined xs ys) r
both_before xs ys (Found zs k) = ap (λ ws. Found ws k) (sym (joined_again xs ys zs))
both_before xs ys (Unresolved line) = refl
both_before xs ys TooMany = refl

pub walk_before : (c : Scene) (known : Constants) (a rest : Stmts) (n : List ℕ)
    → walk_all c known (before a rest) n ≡ then_walk (walk_all c known a n) (λ xs m. before_all xs (walk_all c (known_end c.writes known a) rest m))
walk_before c known Nil rest n = sym (then_found (walk_all c known rest n))
walk_before c known (Cons s a) rest n =
    then_same (walk c known s n) (λ xs m. before_all xs (walk_all c (known_after c.writes known s) (before a rest) m))
    (λ xs m. then_walk (before_all xs (walk_all c (known_after c.writes known s) a m)) (λ ys k. before_all ys (walk_all c (known_end c.writes (known_after c.writes known s) a) rest k)))
    (λ xs m. ap (before_all xs) (walk_before c (known_after c.writes known s) a rest m) ∙ step xs (walk_all c (known_after c.writes known s) a m))
    ∙ sym (then_again (walk c known s n) (λ xs m. before_all xs (walk_all c (known_after c.writes known s) a m)) (λ ys k. before_all ys (walk_all c (known_end c.writes (known_after c.writes known s) a) rest k)))
  where
    step : (xs : Parts) (r : Walked Parts) → before_all xs (then_walk r (λ ys k. before_all ys (walk_all c (known_end c.writes (known_after c.writes known s) a) rest k)))
        ≡ then_walk (before_all xs r) (λ ys k. before_all ys (walk_all c (known_end c.writes (known_after c.writes known s) a) rest k))
    step xs (Found ys k) = both_before xs ys (walk_all c (known_end c.writes (known_after c.writes known s) a) rest k)
    step xs (Unresolved line) = refl
    step xs TooMany = refl
