-- That statements have an outline, by the functions that they call and not by a walk through them.
use Rattle.std.specs.Prelude.{◌≡◌, ℕ, ◌+◌, Bool, true, false, List, map, slice_get, Some, None, ⊤}
use Rattle.std.specs.declared.option.Option.{Option}
use Rattle.c_tree.specs.Expressions.{Expr, Exprs, Place}
use Rattle.c_tree.specs.Bare as bare
use Rattle.c_tree.specs.Numbering.{monitor_resource, creations, thread_in}
use Rattle.c_tree.specs.Lined.{Stmt, Stmts, Nil, Cons, Function, Declare, Assign, Call, If, While, For, Return, Read, Print, Create, Join, InitMutex, InitCond, Lock, TryLock, Unlock, Wait, Signal, Broadcast, Take, Give, line_of}
use Rattle.outlines.specs.Outline as outline
use Rattle.outlines.specs.Outline.{Part, Parts}
use Rattle.contexts.specs.Constants.{Constants, Weaker, among, known_after, known_in, known_turn, before}
use Rattle.contexts.specs.Resolved.{resolved, constants_of, passed, writes_of}

-- a program by its functions: the one of a name, with its place; whether one bears locks; and the place of each context's function
pub record Code : Type 0 where
  pub program : bare.Program
  pub function : List ℕ → Option (ℕ × Function)
  pub bears : List ℕ → Bool
  pub context : ℕ → Option ℕ

-- ---- steps

-- a create statement is one of main's own list, and its slot means the thread that it begins
pub record IsCreation (p : bare.Program) (slot : Place) (name : List ℕ) (arg : Expr) : Type 0 where
  pub creation : ℕ
  pub created : slice_get (creations p) creation ≡ Some (record { slot = slot; function = name; arg = arg })
  pub thread : thread_in p slot ≡ Some (creation + 1)

-- a target, where there is one, is among the names that a function writes into
abbrev pub IsTarget : List (List ℕ) → Option Place → Type 0
IsTarget writes None = ⊤
IsTarget writes (Some place) = among writes place.name ≡ true

-- a statement with one way on, that takes and gives nothing
abbrev pub IsPlain : Code → List (List ℕ) → Stmt → Type 0
IsPlain code writes (Declare line name e) = ⊤
IsPlain code writes (Assign line target e) = among writes target.name ≡ true
IsPlain code writes (Call line target name args) = (code.bears name ≡ false) × IsTarget writes target
IsPlain code writes (Read line target) = among writes target.name ≡ true
IsPlain code writes (Print line format args) = ⊤
IsPlain code writes (Create line slot name arg) = IsCreation code.program slot name arg
IsPlain code writes (InitMutex line place) = ⊤
IsPlain code writes (InitCond line place) = ⊤
IsPlain code writes (Signal line cond) = ⊤
IsPlain code writes (Broadcast line cond) = ⊤
IsPlain code writes s = ⊥

-- the first part of a `for`: nothing, a declaration or an assignment
abbrev pub IsFirst : List (List ℕ) → Stmts → Type 0
IsFirst writes Nil = ⊤
IsFirst writes (Cons (Declare line name e) Nil) = ⊤
IsFirst writes (Cons (Assign line target e) Nil) = among writes target.name ≡ true
IsFirst writes ss = ⊥

-- ---- the relation

-- what stands behind a list: the end of its function, at a line; or nothing, behind an arm or a body
abbrev pub end_parts : Option ℕ → Parts
end_parts None = outline.Nil
end_parts (Some line) = outline.Cons (outline.Leave line) outline.Nil

mutual
  -- one statement has this part, in a function that writes into these names, where these locals are constant
  pub data HasPart (code : Code) : (writes : List (List ℕ)) → Constants → Stmt → Part → Type 0 where
    steps : {writes : List (List ℕ)} {known : Constants} (s : Stmt) → IsPlain code writes s → HasPart code writes known s (outline.Step (line_of s))
    joins : {writes : List (List ℕ)} {known : Constants} (line : ℕ) (slot : Place) → HasPart code writes known (Join line slot) (outline.Join line)
    leaves : {writes : List (List ℕ)} {known : Constants} (line : ℕ) (value : Option Expr) → HasPart code writes known (Return line value) (outline.Leave line)
    locks : {writes : List (List ℕ)} {known : Constants} (line r : ℕ) (place : Place) → resolved code.program known place ≡ Some r
        → HasPart code writes known (Lock line place) (outline.Acquire line r)
    unlocks : {writes : List (List ℕ)} {known : Constants} (line r : ℕ) (place : Place) → resolved code.program known place ≡ Some r
        → HasPart code writes known (Unlock line place) (outline.Release line r)
    waits : {writes : List (List ℕ)} {known : Constants} (line r : ℕ) (cond place : Place) (takes : List ℕ) → resolved code.program known place ≡ Some r
        → HasPart code writes known (Wait line cond place takes) (outline.Wait line r (map (monitor_resource code.program) takes))
    takes : {writes : List (List ℕ)} {known : Constants} (line monitor : ℕ)
        → HasPart code writes known (Take line monitor) (outline.Acquire line (monitor_resource code.program monitor))
    gives : {writes : List (List ℕ)} {known : Constants} (line monitor : ℕ)
        → HasPart code writes known (Give line monitor) (outline.Release line (monitor_resource code.program monitor))
    tries : {writes : List (List ℕ)} {known : Constants} {taken busy : Stmts} {xs ys : Parts} (line r : ℕ) (place : Place) → resolved code.program known place ≡ Some r
        → Outlined code writes known None taken xs → Outlined code writes known None busy ys
        → HasPart code writes known (TryLock line place taken busy) (outline.Try line r xs ys)
    branches : {writes : List (List ℕ)} {known : Constants} {a b : Stmts} {xs ys : Parts} (line : ℕ) (test : Expr)
        → Outlined code writes known None a xs → Outlined code writes known None b ys
        → HasPart code writes known (If line test a b) (outline.Branch line xs ys)
    loops : {writes : List (List ℕ)} {known : Constants} {body : Stmts} {xs : Parts} (line : ℕ) (test : Expr)
        → Outlined code writes (known_in known body) None body xs
        → HasPart code writes known (While line test body) (outline.Loop line xs)
    -- a call of a function that bears locks, which is entered as a context of its place
    enters : {writes : List (List ℕ)} {known : Constants} {body : Parts} (line k place : ℕ) (target : Option Place) (name : List ℕ) (args : Exprs) (f : Function)
        → code.bears name ≡ true → IsTarget writes target → code.function name ≡ Some (place, f) → code.context k ≡ Some place
        → Outlined code (writes_of code.program f) (passed (writes_of code.program f) f.params (constants_of known args)) (Some f.end_line) f.body body
        → HasPart code writes known (Call line target name args) (outline.Inner line k body)

  -- a list of statements has this outline, with what stands behind it
  pub data Outlined (code : Code) : (writes : List (List ℕ)) → Constants → (ends : Option ℕ) → Stmts → Parts → Type 0 where
    over : {writes : List (List ℕ)} {known : Constants} (ends : Option ℕ) → Outlined code writes known ends Nil (end_parts ends)
    -- less may be known than is
    forgets : {writes : List (List ℕ)} {known : Constants} {ends : Option ℕ} {ss : Stmts} {xs : Parts} (less : Constants) → Weaker less known
        → Outlined code writes less ends ss xs → Outlined code writes known ends ss xs
    next : {writes : List (List ℕ)} {known : Constants} {ends : Option ℕ} {rest : Stmts} {xs : Parts} (s : Stmt) (x : Part)
        → HasPart code writes known s x → Outlined code writes (known_after writes known s) ends rest xs
        → Outlined code writes known ends (Cons s rest) (outline.Cons x xs)
    -- a `for` is its first part, and then a loop, whose body is followed by its step
    counts : {writes : List (List ℕ)} {known : Constants} {ends : Option ℕ} {first_part step body rest : Stmts} {ys xs : Parts} (line : ℕ) (test : Expr) → IsFirst writes first_part
        → Outlined code writes (known_turn writes known first_part step body) None (before body step) ys
        → Outlined code writes (known_after writes known (For line first_part test step body)) ends rest xs
        → Outlined code writes known ends (Cons (For line first_part test step body) rest) (outline.Cons (outline.Step line) (outline.Cons (outline.Loop line ys) xs))
