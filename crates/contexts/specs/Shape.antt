-- What an outline of statements is, by its first statement.
use Rattle.std.specs.Prelude.{◌≡◌, ◌⊎◌, ℕ, true, List, map, Some, None}
use Rattle.std.specs.declared.option.Option.{Option}
use Rattle.c_tree.specs.Expressions.{Exprs, Place}
use Rattle.c_tree.specs.Numbering.{monitor_resource}
use Rattle.c_tree.specs.Lined.{Stmt, Stmts, Nil, Cons, Function, Call, If, While, For, Return, Join, Lock, TryLock, Unlock, Wait, Take, Give, line_of}
use Rattle.outlines.specs.Outline as outline
use Rattle.outlines.specs.Outline.{Part, Parts}
use Rattle.contexts.specs.Constants.{Constants, Weaker, known_after, known_in, known_end, before}
use Rattle.contexts.specs.Resolved.{resolved, constants_of, passed, writes_of}
use Rattle.contexts.specs.Outlined.{Code, Outlined, IsPlain, IsTarget, IsFirst, end_parts}

-- one part, and an outline of the rest
abbrev pub First : Code → List (List ℕ) → Constants → Option ℕ → Stmts → Part → Parts → Type 0
First code writes known ends rest x xs = (ys : Parts) × (xs ≡ outline.Cons x ys) × Outlined code writes known ends rest ys

-- a part at a mutex, and an outline of the rest
abbrev pub AtMutex : Code → List (List ℕ) → Constants → Option ℕ → Stmts → Place → (ℕ → Part) → Parts → Type 0
AtMutex code writes known ends rest place make xs = (r : ℕ) × (resolved code.program known place ≡ Some r) × First code writes known ends rest (make r) xs

-- a call that enters a function, and an outline of the rest
pub record IsInner (code : Code) (writes : List (List ℕ)) (known : Constants) (ends : Option ℕ) (rest : Stmts) (line : ℕ) (target : Option Place) (name : List ℕ) (args : Exprs) (xs : Parts) : Type 0 where
  pub context : ℕ
  pub place : ℕ
  pub f : Function
  pub body : Parts
  pub behind : Parts
  pub bears : code.bears name ≡ true
  pub target_in : IsTarget writes target
  pub named : code.function name ≡ Some (place, f)
  pub placed : code.context context ≡ Some place
  pub inside : Outlined code (writes_of code.program f) (passed (writes_of code.program f) f.params (constants_of known args)) (Some f.end_line) f.body body
  pub is : xs ≡ outline.Cons (outline.Inner line context body) behind
  pub rest_is : Outlined code writes known ends rest behind

abbrev pub PlainShape : Code → List (List ℕ) → Constants → Option ℕ → Stmt → Stmts → Parts → Type 0
PlainShape code writes known ends s rest xs = IsPlain code writes s × First code writes (known_after writes known s) ends rest (outline.Step (line_of s)) xs

abbrev pub Shape : Code → List (List ℕ) → Constants → Option ℕ → Stmts → Parts → Type 0
Shape code writes known ends Nil xs = xs ≡ end_parts ends
Shape code writes known ends (Cons (Call line target name args) rest) xs =
    PlainShape code writes known ends (Call line target name args) rest xs ⊎ IsInner code writes known ends rest line target name args xs
Shape code writes known ends (Cons (If line test a b) rest) xs =
    (ys zs : Parts) × Outlined code writes known None a ys × Outlined code writes known None b zs
    × First code writes (known_after writes known (If line test a b)) ends rest (outline.Branch line ys zs) xs
Shape code writes known ends (Cons (While line test body) rest) xs =
    (ys : Parts) × Outlined code writes (known_in known body) None body ys × First code writes (known_after writes known (While line test body)) ends rest (outline.Loop line ys) xs
-- a `for` is its first part, and then a loop
Shape code writes known ends (Cons (For line first_part test step body) rest) xs =
    IsFirst writes first_part × First code writes (known_end writes known first_part) ends (Cons (While line test (before body step)) rest) (outline.Step line) xs
Shape code writes known ends (Cons (Return line value) rest) xs = First code writes known ends rest (outline.Leave line) xs
Shape code writes known ends (Cons (Join line slot) rest) xs = First code writes known ends rest (outline.Join line) xs
Shape code writes known ends (Cons (Lock line place) rest) xs = AtMutex code writes known ends rest place (outline.Acquire line) xs
Shape code writes known ends (Cons (TryLock line place taken busy) rest) xs =
    (r : ℕ) × (ys zs : Parts) × (resolved code.program known place ≡ Some r) × Outlined code writes known None taken ys × Outlined code writes known None busy zs
    × First code writes (known_after writes known (TryLock line place taken busy)) ends rest (outline.Try line r ys zs) xs
Shape code writes known ends (Cons (Unlock line place) rest) xs = AtMutex code writes known ends rest place (outline.Release line) xs
Shape code writes known ends (Cons (Wait line cond place takes) rest) xs =
    AtMutex code writes known ends rest place (λ r. outline.Wait line r (map (monitor_resource code.program) takes)) xs
Shape code writes known ends (Cons (Take line monitor) rest) xs = First code writes known ends rest (outline.Acquire line (monitor_resource code.program monitor)) xs
Shape code writes known ends (Cons (Give line monitor) rest) xs = First code writes known ends rest (outline.Release line (monitor_resource code.program monitor)) xs
Shape code writes known ends (Cons s rest) xs = PlainShape code writes known ends s rest xs

-- the shape of an outline, where less may be known
pub record Shaped (code : Code) (writes : List (List ℕ)) (known : Constants) (ends : Option ℕ) (ss : Stmts) (xs : Parts) : Type 0 where
  pub less : Constants
  pub weaker : Weaker less known
  pub shape : Shape code writes less ends ss xs
