-- Outlines name resources of the program, and each function's outline ends with a return.
use Rattle.std.specs.Prelude.{◌≡◌, ◌<◌, ◌&&◌, ℕ, suc, ℤ, Bool, true, false, List, [], ◌∷◌, length, map, Some, None, option_and_then}
use Rattle.std.specs.declared.option.Option.{Option}
use Rattle.std.proofs.Common.{arith, refl, inl, inr}
use Rattle.c_tree.specs.Bare as bare
use Rattle.c_tree.specs.Everywhere.{Everywhere, EverywhereInside}
use Rattle.c_tree.specs.Expressions.{Place}
use Rattle.c_tree.specs.Numbering.{monitor_resource, mutex_count, mutex_of, resource_count}
use Rattle.c_tree.specs.Lined.{Stmt, Stmts, Function, Program, bare_stmt, bare_stmts, bare_program}
use Rattle.c_rules.proofs.Members.{In, contains_of}
use Rattle.outlines.specs.Outline.{Part, Parts, Thread, passes, passes_all}
use Rattle.outlines.specs.Whole.{AllBelow, AllFrom, Names, NamesAll, ThreadsName, IsWhole, IsWholeAll, ThreadsAreWhole}
use Rattle.rule_facts.specs.Regular.{Regular}
use Rattle.rule_facts.specs.Statements.{WithinMonitors}
use Rattle.rule_facts.proofs.Counted.{mutex_below}
use Rattle.contexts.specs.Constants.{Constants, before}
use Rattle.contexts.specs.Resolved.{resolved, known_index}
use Rattle.contexts.specs.Outlines.{starts}
use Rattle.contexts.specs.Outlined.{Code, HasPart, Outlined, end_parts, steps, joins, leaves, locks, unlocks, waits, takes, gives, tries, branches, loops, enters, over, forgets, next, counts}
use Rattle.contexts.specs.Threads.{code_of, Threads, Outlines}
use Rattle.contexts.specs.Numbered.{after_all}
use Rattle.context_laws.proofs.Steady.{everywhere_before}
use Rattle.context_laws.proofs.ForRuns.{function_is}

-- ---- resources

resolved_below : (p : bare.Program) (known : Constants) (place : Place) (r : ℕ) → resolved p known place ≡ Some r → r < mutex_count p
resolved_below p known place r e = by (known_index known place.index) e
  where
    by : (i : Option (Option ℤ)) → option_and_then (mutex_of p place.name) i ≡ Some r → r < mutex_count p
    by None e = absurd (cc e)
    by (Some i) e = mutex_below p place.name i r e

-- a number of a mutex, and one of a monitor, is below that of all resources
mutex_named : (p : bare.Program) (r : ℕ) → r < mutex_count p → r < resource_count p
mutex_named p r less = omega arith

monitor_named : (p : bare.Program) (k : ℕ) → k < length p.monitors → monitor_resource p k < resource_count p
monitor_named p k less = omega arith

taken_named : (p : bare.Program) (ks : List ℕ) → ((k : ℕ) → In k ks → k < length p.monitors) → AllBelow (resource_count p) (map (monitor_resource p) ks) × AllFrom (mutex_count p) (map (monitor_resource p) ks)
taken_named p [] all = (tt, tt)
taken_named p (k ∷ ks) all =
    let rest = taken_named p ks (λ j at. all j (inr at)) in
    let here : k < length p.monitors = all k (inl refl) in
    ((monitor_named p k here, rest.0), (omega arith, rest.1))

-- ---- ends

end_stops : (ends : Option ℕ) (line : ℕ) → ends ≡ Some line → passes_all (end_parts ends) ≡ false
end_stops None line e = absurd (cc e)
end_stops (Some k) line e = refl

behind_stops : (b c : Bool) → c ≡ false → (b && c) ≡ false
behind_stops true c e = e
behind_stops false c e = refl

stops : (code : Code) (writes : List (List ℕ)) (known : Constants) (ends : Option ℕ) (ss : Stmts) (xs : Parts) → Outlined code writes known ends ss xs → (line : ℕ) → ends ≡ Some line → passes_all xs ≡ false
stops code writes known ends ss xs (over e) line is = end_stops e line is
stops code writes known ends ss xs (forgets less w there) line is = stops code writes less ends ss xs there line is
stops code writes known ends ss xs (next {rest = rest} {xs = tail} s x has there) line is = behind_stops (passes x) (passes_all tail) (stops code writes _ ends rest tail there line is)
stops code writes known ends ss xs (counts {rest = rest} {xs = tail} l test first body there) line is = stops code writes _ ends rest tail there line is

-- ---- outlines

-- the functions of the program take and give monitors that are there
abbrev Fits : Code → Type 0
Fits code = (name : List ℕ) (f : ℕ × Function) → code.function name ≡ Some f → Everywhere (WithinMonitors (length code.program.monitors)) (bare_stmts f.1.body)

module _ (code : Code) (fits : Fits code) where
  mutual
    part_whole : (writes : List (List ℕ)) (known : Constants) (s : Stmt) (x : Part) → HasPart code writes known s x → WithinMonitors (length code.program.monitors) (bare_stmt s)
        → EverywhereInside (WithinMonitors (length code.program.monitors)) (bare_stmt s) → Names (resource_count code.program) x × IsWhole (mutex_count code.program) x
    part_whole writes known s x (steps t ok) own inside = (tt, tt)
    part_whole writes known s x (joins line slot) own inside = (tt, tt)
    part_whole writes known s x (leaves line value) own inside = (tt, tt)
    part_whole writes known s x (locks line r place is) own inside = (mutex_named code.program r (resolved_below code.program known place r is), tt)
    part_whole writes known s x (unlocks line r place is) own inside = (mutex_named code.program r (resolved_below code.program known place r is), tt)
    part_whole writes known s x (waits line r cond place ks is) own inside =
        let taken = taken_named code.program ks (λ k at. own k (contains_of ks k at)) in
        ((mutex_named code.program r (resolved_below code.program known place r is), taken.0), taken.1)
    part_whole writes known s x (takes line k) own inside = (monitor_named code.program k own, tt)
    part_whole writes known s x (gives line k) own inside = (monitor_named code.program k own, tt)
    part_whole writes known s x (tries {taken = a} {busy = b} {xs = ya} {ys = yb} line r place is in_a in_b) own inside =
        let first = list_whole writes known None a ya in_a inside.0 in
        let second = list_whole writes known None b yb in_b inside.1 in
        ((mutex_named code.program r (resolved_below code.program known place r is), first.0, second.0), (first.1, second.1))
    part_whole writes known s x (branches {a = a} {b = b} {xs = ya} {ys = yb} line test in_a in_b) own inside =
        let first = list_whole writes known None a ya in_a inside.0 in
        let second = list_whole writes known None b yb in_b inside.1 in
        ((first.0, second.0), (first.1, second.1))
    part_whole writes known s x (loops {body = body} {xs = ys} line test in_body) own inside = list_whole writes _ None body ys in_body inside
    part_whole writes known s x (enters {body = body} line k place target name args f bears target_in is context in_f) own inside =
        let there = list_whole _ _ (Some f.end_line) f.body body in_f (fits name (place, f) is) in
        (there.0, (stops code _ _ (Some f.end_line) f.body body in_f f.end_line refl, there.1))

    list_whole : (writes : List (List ℕ)) (known : Constants) (ends : Option ℕ) (ss : Stmts) (xs : Parts) → Outlined code writes known ends ss xs
        → Everywhere (WithinMonitors (length code.program.monitors)) (bare_stmts ss) → NamesAll (resource_count code.program) xs × IsWholeAll (mutex_count code.program) xs
    list_whole writes known ends ss xs (over None) all = (tt, tt)
    list_whole writes known ends ss xs (over (Some line)) all = ((tt, tt), (tt, tt))
    list_whole writes known ends ss xs (forgets less w there) all = list_whole writes less ends ss xs there all
    list_whole writes known ends ss xs (next {rest = rest} {xs = tail} s x has there) all =
        let first = part_whole writes known s x has all.0 all.1 in
        let second = list_whole writes _ ends rest tail there all.2 in ((first.0, second.0), (first.1, second.1))
    list_whole writes known ends ss xs (counts {step = st} {body = bd} {rest = rest} {ys = ys} {xs = tail} line test first body there) all =
        let inner = list_whole writes _ None (before bd st) ys body (everywhere_before (WithinMonitors (length code.program.monitors)) bd st all.1.2 all.1.1) in
        let second = list_whole writes _ ends rest tail there all.2 in ((tt, (inner.0, second.0)), (tt, (inner.1, second.1)))

  threads_whole : (ss : List (List ℕ × List (Option ℤ))) (es : List Thread) (n : ℕ) → Threads code ss es n → ThreadsName (resource_count code.program) es × ThreadsAreWhole (mutex_count code.program) es
  threads_whole [] [] n threads = (tt, tt)
  threads_whole [] (e ∷ es) n threads = absurd threads
  threads_whole (s ∷ ss) [] n threads = absurd threads
  threads_whole (s ∷ ss) (e ∷ es) n threads =
      let th = threads.0 in
      let here = list_whole _ _ (Some th.f.end_line) th.f.body e.body th.outlined (fits s.0 (th.place, th.f) th.is) in
      let rest = threads_whole ss es (after_all e.body (suc n)) threads.1 in
      ((here.0, rest.0), (stops code _ _ (Some th.f.end_line) th.f.body e.body th.outlined th.f.end_line refl, here.1, rest.1))

pub outlines_whole : (p : Program) (es : List Thread) (places : List ℕ) → Regular p → Outlines p es places → ThreadsName (resource_count (bare_program p)) es × ThreadsAreWhole (mutex_count (bare_program p)) es
outlines_whole p es places regular there =
    threads_whole (code_of p places) (λ name f is. regular.monitors f (function_is p regular name f is).0) (starts p) es 0 there.threads
