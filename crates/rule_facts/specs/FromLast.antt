-- The functions of a program from the last, by which what they call is followed.
use Rattle.std.specs.Prelude.{◌≡◌, ℕ, Bool, false, true, ◌||◌, List, [], ◌∷◌, bytes_eq, reverse, Some, ⊤, find}
use Rattle.std.specs.declared.option.Option.{Option}
use Rattle.std.specs.List.{enumerate_from}
use Rattle.c_tree.specs.Bare as bare
use Rattle.c_tree.specs.Everywhere.{Everywhere}
use Rattle.c_tree.specs.Numbering.{Creation, creations, main_name}
use Rattle.c_tree.specs.Lined.{Function, Program, bare_stmts, bare_program}
use Rattle.rule_facts.specs.Apart.{Listed}

-- the functions with their places, the last first
abbrev pub from_last : Program → List (ℕ × Function)
from_last p = reverse (enumerate_from 0 p.functions)

-- a function of this name is among these
abbrev pub named_in : List (ℕ × Function) → List ℕ → Bool
named_in [] name = false
named_in (f ∷ fs) name = bytes_eq f.1.name name || named_in fs name

-- the first function of this name among these
abbrev pub function_in : List (ℕ × Function) → List ℕ → Option (ℕ × Function)
function_in fs name = find (λ f. bytes_eq f.1.name name) fs

-- a call names one of these
abbrev pub CallsNamed : (List ℕ → Bool) → bare.Stmt → Type 0
CallsNamed named (bare.Call target name args) = named name ≡ true
CallsNamed named s = ⊤

-- each function calls those behind it in the list alone, and none of them has its name
abbrev pub CallsBehind : List (ℕ × Function) → Type 0
CallsBehind [] = ⊤
CallsBehind (f ∷ fs) = Everywhere (CallsNamed (named_in fs)) (bare_stmts f.1.body) × (named_in fs f.1.name ≡ false) × CallsBehind fs

-- threads begin with functions that are there
abbrev pub StartsNamed : (List ℕ → Bool) → List Creation → Type 0
StartsNamed named [] = ⊤
StartsNamed named (c ∷ cs) = (named c.function ≡ true) × StartsNamed named cs

pub record HasRegularNames (p : Program) : Type 0 where
  pub calls : CallsBehind (from_last p)
  pub found : (f : ℕ × Function) → Listed p f → function_in (from_last p) f.1.name ≡ Some f
  pub main : named_in (from_last p) main_name ≡ true
  pub starts : StartsNamed (named_in (from_last p)) (creations (bare_program p))
