-- An edited program has the shape.
use Rattle.std.proofs.Common.{◌≡◌, ℕ, ◌+◌, true, false, List, [], ◌∷◌, map, length, inl, inr, refl, sym, subst, ap, ◌∙◌, arith}
use Rattle.std.specs.Prelude.{All, bytes_eq}
use Rattle.std.specs.List.{enumerate_from}
use Rattle.std.proofs.lemmas.List.Elements.{All-cons, All-head, All-tail}
use Rattle.std.proofs.lemmas.Slice.Eq.{bytes_eq-Decides}
use Rattle.c_tree.specs.declared.program.Kind.{Kind}
use Rattle.c_tree.specs.declared.program.Kind.TheVariants as k
use Rattle.c_tree.specs.Numbering.{main_name}
use Rattle.c_tree.specs.Bare as bare
use Rattle.c_tree.specs.Everywhere.{Everywhere, EverywhereInside}
use Rattle.c_tree.specs.Lined.{Stmt, Stmts, Nil, Cons, Take, Give, Function, Program, bare_stmt, bare_stmts, bare_function, bare_program}
use Rattle.c_rules.proofs.Members.{In, in_of, contains_of}
use Rattle.rule_facts.proofs.Places.{in_functions}
use Rattle.c_canonical.specs.Shaped.{ShapedSlot}
use Rattle.c_canonical.specs.ShapedPrograms.{UsableFunction, ShapedCell, ShapedArray, ShapedObject, ShapedCapacities, ShapedHead, ShapedFunction, ShapedProgram}
use Rattle.kept_rules.specs.Edit.{Way, puts}
use Rattle.kept_rules.specs.Programs.{IsFunctionEdit, AreEdits, DeclaresSame}
use Rattle.kept_rules.specs.Uses.{Puts, IsPutInto, IsCopyOf, putting, copying}
use Rattle.kept_shape.specs.Edited.{UsesFit, NamesFit, HavePlainHeads, PlainHeads}
use Rattle.kept_shape.proofs.Bodies.{edits_shaped, plain_heads}
use Rattle.kept_shape.proofs.Copied.{copies_fit}

-- ---- heads of functions

main_same : (name : List ℕ) → bytes_eq name main_name ≡ true → name ≡ main_name
main_same name e = (bytes_eq-Decides name main_name).0 e

head_shaped : (r : Way) (kind : Kind) (name other : List ℕ) (params : List (List ℕ)) → (UsableFunction (r.name name) → UsableFunction name) → r.name name ≡ other → bytes_eq name main_name ≡ bytes_eq other main_name
    → ShapedHead kind other params → ShapedHead kind name params
head_shaped r k.Main name other params u e m f = (main_same name (m ∙ ap (λ n. bytes_eq n main_name) f.0), f.1)
head_shaped r k.Int name other params u e m f = (u (subst UsableFunction (sym e) f.0), f.1)
head_shaped r k.Void name other params u e m f = (u (subst UsableFunction (sym e) f.0), f.1)
head_shaped r k.Thread name other (param ∷ []) u e m f = (u (subst UsableFunction (sym e) f.0), f.1)
head_shaped r k.Thread name other _ u e m f = absurd f

-- ---- functions

-- a function with its parts named
shaped_by : (kind other : Kind) (name : List ℕ) (params others : List (List ℕ)) (body : bare.Stmts) → kind ≡ other → params ≡ others
    → ShapedFunction (record { name = name; kind = other; params = others; body = body }) → ShapedFunction (record { name = name; kind = kind; params = params; body = body })
shaped_by kind other name params others body e g f =
    subst (λ x. ShapedFunction (record { name = name; kind = x; params = params; body = body })) (sym e)
    (subst (λ x. ShapedFunction (record { name = name; kind = other; params = x; body = body })) (sym g) f)

function_shaped : (r : Way) (g f : Function) → (UsableFunction (r.name g.name) → UsableFunction g.name) → Everywhere (UsesFit r.name) (bare_stmts g.body) → IsFunctionEdit r g f → HavePlainHeads r g.body → ShapedFunction (bare_function f) → ShapedFunction (bare_function g)
function_shaped r g f u v e h s =
    shaped_by g.kind f.kind g.name g.params f.params (bare_function g).body e.kind e.params (head_shaped r f.kind g.name f.name f.params u e.name e.main s.0, edits_shaped r f.kind v e.body h s.1)

-- ---- lists of functions

-- what holds of the functions of a list holds of each in it, and back
of_each : (fs : List Function) → All ShapedFunction (map bare_function fs) → (f : Function) → In f fs → ShapedFunction (bare_function f)
of_each [] h f is = absurd is
of_each (g ∷ fs) h f (inl e) = subst (λ x. ShapedFunction (bare_function x)) e (All-head ShapedFunction (bare_function g) (map bare_function fs) h)
of_each (g ∷ fs) h f (inr is) = of_each fs (All-tail ShapedFunction (bare_function g) (map bare_function fs) h) f is

by_each : (n : ℕ) (fs : List Function) → ((g : ℕ × Function) → In g (enumerate_from n fs) → ShapedFunction (bare_function g.1)) → All ShapedFunction (map bare_function fs)
by_each n [] h = λ k d l. absurd (omega (arith, l))
by_each n (f ∷ fs) h = All-cons ShapedFunction (bare_function f) (map bare_function fs) (h (n, f) (inl refl)) (by_each (n + 1) fs (λ g is. h g (inr is)))

-- ---- programs

program_shaped : (q p : Program) → DeclaresSame q p → ShapedCapacities q.cap_len q.monitors → All ShapedFunction (map bare_function q.functions) → ShapedProgram (bare_program p)
    → ShapedProgram (bare_program q)
program_shaped q p d c f s = record {
  ints = subst (All ShapedCell) (sym d.ints) s.ints;
  arrays = subst (All ShapedArray) (sym d.arrays) s.arrays;
  mutexes = subst (All ShapedObject) (sym d.mutexes) s.mutexes;
  conds = subst (All ShapedObject) (sym d.conds) s.conds;
  threads = subst (All ShapedSlot) (sym d.threads) s.threads;
  capacities = c;
  functions = f;
}

pub edits_shape : (r : Way) (place : ℕ → ℕ) (q p : Program) → DeclaresSame q p → AreEdits r place q p → NamesFit r.name q → PlainHeads r q → ShapedCapacities q.cap_len q.monitors
    → ShapedProgram (bare_program p) → ShapedProgram (bare_program q)
edits_shape r place q p d e u h c s =
    program_shaped q p d c
    (by_each 0 q.functions (λ g is.
    let x = e g (contains_of (enumerate_from 0 q.functions) g is) in
    let at = contains_of q.functions g.1 (in_functions 0 q.functions g is) in
    function_shaped r g.1 x.function (u.declared g.1 at) (u.used g.1 at) x.edit (h g.1 at)
    (of_each p.functions s.functions x.function
    (in_functions 0 p.functions (place g.0, x.function) (in_of (enumerate_from 0 p.functions) (place g.0, x.function) x.listed)))))
    s

-- ---- puts

mutual
  same_fits : (limit : ℕ) (s : Stmt) → UsesFit (putting limit).name (bare_stmt s)
  same_fits limit (Stmt.Call line target name args) = λ c. c
  same_fits limit (Stmt.Create line slot name arg) = λ c. c
  same_fits limit _ = tt

  same_fit_inside : (limit : ℕ) (s : Stmt) → EverywhereInside (UsesFit (putting limit).name) (bare_stmt s)
  same_fit_inside limit (Stmt.If line test a b) = (same_fit limit a, same_fit limit b)
  same_fit_inside limit (Stmt.While line test body) = same_fit limit body
  same_fit_inside limit (Stmt.For line first_part test step body) = (same_fit limit first_part, same_fit limit step, same_fit limit body)
  same_fit_inside limit (Stmt.TryLock line place a b) = (same_fit limit a, same_fit limit b)
  same_fit_inside limit _ = tt

  same_fit : (limit : ℕ) (ss : Stmts) → Everywhere (UsesFit (putting limit).name) (bare_stmts ss)
  same_fit limit Nil = tt
  same_fit limit (Cons s ss) = (same_fits limit s, same_fit_inside limit s, same_fit limit ss)

puts_shape : (limit : ℕ) (gs fs : List Function) → Puts (putting limit) gs fs → ((g : Function) → In g gs → HavePlainHeads (putting limit) g.body) → All ShapedFunction (map bare_function fs)
    → All ShapedFunction (map bare_function gs)
puts_shape limit [] [] Puts.none h s = s
puts_shape limit _ _ (Puts.more g f gs fs e rest) h s =
    All-cons ShapedFunction (bare_function g) (map bare_function gs)
    (function_shaped (putting limit) g f (λ c. c) (same_fit limit g.body) e (h g (inl refl))
    (All-head ShapedFunction (bare_function f) (map bare_function fs) s))
    (puts_shape limit gs fs rest (λ x is. h x (inr is)) (All-tail ShapedFunction (bare_function f) (map bare_function fs) s))

-- as many as there are
counted : (len : ℕ) (all : List ℕ) → len ≡ length all → ShapedCapacities len all
counted len [] e = e
counted len (first ∷ more) e = tt

pub put_shape : (q p : Program) → IsPutInto q p → PlainHeads (putting (length q.monitors)) q → ShapedProgram (bare_program p) → ShapedProgram (bare_program q)
put_shape q p e h s =
    program_shaped q p e.declared (counted q.cap_len q.monitors e.counted)
    (puts_shape (length q.monitors) q.functions p.functions e.functions (λ g is. h g (contains_of q.functions g is)) s.functions) s

-- ---- copies

copies_put_none : (name : List ℕ → List ℕ) (s : Stmt) → puts (copying name) s ≡ false
copies_put_none name (Take line monitor) = grind arith
copies_put_none name (Give line monitor) = grind arith
copies_put_none name s = refl

capacities_by : (l m : ℕ) (xs ys : List ℕ) → l ≡ m → xs ≡ ys → ShapedCapacities m ys → ShapedCapacities l xs
capacities_by l m xs ys e g f = subst (λ x. ShapedCapacities x xs) (sym e) (subst (ShapedCapacities m) (sym g) f)

pub copy_shape : (name : List ℕ → List ℕ) (place : ℕ → ℕ) (q p : Program) → IsCopyOf name place q p → ShapedProgram (bare_program p) → ShapedProgram (bare_program q)
copy_shape name place q p e s =
    edits_shape (copying name) place q p e.declared e.functions (copies_fit name place q p e s) (λ g at. plain_heads (copying name) (copies_put_none name) g.body)
    (capacities_by q.cap_len p.cap_len q.monitors p.monitors e.cap_len e.monitors s.capacities) s

-- ---- lines

pub lines_shape : (q p : Program) → bare_program q ≡ bare_program p → ShapedProgram (bare_program p) → ShapedProgram (bare_program q)
lines_shape q p e s = subst ShapedProgram (sym e) s
