-- An arm or a body before others has an outline: its own before theirs.
use Rattle.std.specs.Prelude.{ℕ, List, None}
use Rattle.std.specs.declared.option.Option.{Option}
use Rattle.c_tree.specs.Lined.{Stmt, Stmts, For}
use Rattle.outlines.specs.Outline.{Part, Parts, joined}
use Rattle.contexts.specs.Constants.{Constants, Weaker, known_after, known_in, known_end, known_turn, before, declared_all}
use Rattle.contexts.specs.Resolved.{constants_of, passed, writes_of}
use Rattle.contexts.specs.Outlined.{Code, HasPart, Outlined, steps, joins, leaves, locks, unlocks, waits, takes, gives, tries, branches, loops, enters, over, forgets, next, counts}
use Rattle.contexts.proofs.Grows.{resolved_grows, without_grows, after_grows, end_grows, args_grow, passed_grow}

-- a statement's part where less is known is its part where more is
pub part_grows : (code : Code) (writes : List (List ℕ)) (less known : Constants) → Weaker less known → (s : Stmt) (x : Part) → HasPart code writes less s x → HasPart code writes known s x
part_grows code writes less known w s x (steps t ok) = steps t ok
part_grows code writes less known w s x (joins line slot) = joins line slot
part_grows code writes less known w s x (leaves line value) = leaves line value
part_grows code writes less known w s x (locks line r place is) = locks line r place (resolved_grows code.program less known w place r is)
part_grows code writes less known w s x (unlocks line r place is) = unlocks line r place (resolved_grows code.program less known w place r is)
part_grows code writes less known w s x (waits line r cond place cs is) = waits line r cond place cs (resolved_grows code.program less known w place r is)
part_grows code writes less known w s x (takes line k) = takes line k
part_grows code writes less known w s x (gives line k) = gives line k
part_grows code writes less known w s x (tries line r place is a b) = tries line r place (resolved_grows code.program less known w place r is) (forgets less w a) (forgets less w b)
part_grows code writes less known w s x (branches line test a b) = branches line test (forgets less w a) (forgets less w b)
part_grows code writes less known w s x (loops {body = body} line test a) = loops line test (forgets (known_in less body) (without_grows (declared_all body) less known w) a)
part_grows code writes less known w s x (enters line k place target name args f bears target_in is context inside) =
    enters line k place target name args f bears target_in is context
    (forgets (passed (writes_of code.program f) f.params (constants_of less args)) (passed_grow (writes_of code.program f) f.params (constants_of less args) (constants_of known args) (args_grow less known w args)) inside)

-- low is what the arm's outline knows, and known what is known: so what the arm forgets is known behind it
pub outlined_before : (code : Code) (writes : List (List ℕ)) (low known less : Constants) (ends : Option ℕ) (a rest : Stmts) (xs ys : Parts)
    → Outlined code writes low None a xs → Weaker low known → Outlined code writes less ends rest ys → Weaker less (known_end writes known a)
    → Outlined code writes known ends (before a rest) (joined xs ys)
outlined_before code writes low known less ends a rest xs ys (over e) w behind end = forgets less end behind
outlined_before code writes low known less ends a rest xs ys (forgets lower v there) w behind end =
    outlined_before code writes lower known less ends a rest xs ys there (λ name z e. w name z (v name z e)) behind end
outlined_before code writes low known less ends a rest xs ys (next {rest = r} {xs = zs} s x is there) w behind end =
    next s x (part_grows code writes low known w s x is)
    (outlined_before code writes (known_after writes low s) (known_after writes known s) less ends r rest zs ys there (after_grows writes low known w s) behind end)
outlined_before code writes low known less ends a rest xs ys (counts {first_part = fp} {step = st} {body = bd} {rest = r} {xs = zs} line test first body there) w behind end =
    counts line test first (forgets (known_turn writes low fp st bd) (without_grows (declared_all (before bd st)) (known_end writes low fp) (known_end writes known fp) (end_grows writes low known w fp)) body)
    (outlined_before code writes (known_after writes low (For line fp test st bd)) (known_after writes known (For line fp test st bd)) less ends r rest zs ys there
    (after_grows writes low known w (For line fp test st bd)) behind end)
