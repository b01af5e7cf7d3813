-- How a program grows, line by line and function by function.
use Rattle.std.proofs.Common.{◌≡◌, List, [], ◌∷◌, ◌++◌, sym, ap, ◌∙◌, append_assoc, append-nil}
use Rattle.std.specs.Prelude.{All}
use Rattle.std.specs.List.{flat_map}
use Rattle.std.proofs.lemmas.List.Elements.{All-head, All-tail}
use Rattle.c_layout.specs.Layout as layout
use Rattle.c_tree.specs.Bare.{Cell, Array, Object, Slot, Function, Program}
use Rattle.c_tree.specs.Lined as lined
use Rattle.c_tree.specs.Lined.{bare_program}
use Rattle.c_grammar.specs.Items.{Item}
use Rattle.c_grammar.specs.Levels.{Tall}
use Rattle.c_grammar.specs.Programs.{SpellsOuter}
use Rattle.c_canonical.specs.Shown.{Shows, nothing}
use Rattle.c_canonical.proofs.Shown.{shows_append}

-- ---- what a program without lines grows by

abbrev pub more_ints : Program → List Cell → Program
more_ints p all = record p { ints = p.ints ++ all }

abbrev pub more_arrays : Program → List Array → Program
more_arrays p all = record p { arrays = p.arrays ++ all }

abbrev pub more_mutexes : Program → List Object → Program
more_mutexes p all = record p { mutexes = p.mutexes ++ all }

abbrev pub more_conds : Program → List Object → Program
more_conds p all = record p { conds = p.conds ++ all }

abbrev pub more_threads : Program → List Slot → Program
more_threads p all = record p { threads = p.threads ++ all }

abbrev pub more_functions : Program → List Function → Program
more_functions p all = record p { functions = p.functions ++ all }

-- A way to grow by the items of a list, one after another.
pub record Growth {X : Type 0} (more : Program → List X → Program) : Type 0 where
  pub none : (p : Program) → more p [] ≡ p
  pub again : (p : Program) (x : X) (xs : List X) → more (more p (x ∷ [])) xs ≡ more p (x ∷ xs)

pub ints_grow : Growth more_ints
ints_grow = record {
  none = λ p. ap (λ (all : List Cell). record p { ints = all }) (append-nil p.ints);
  again = λ p x xs. ap (λ (all : List Cell). record p { ints = all }) (append_assoc p.ints (x ∷ []) xs);
}

pub arrays_grow : Growth more_arrays
arrays_grow = record {
  none = λ p. ap (λ (all : List Array). record p { arrays = all }) (append-nil p.arrays);
  again = λ p x xs. ap (λ (all : List Array). record p { arrays = all }) (append_assoc p.arrays (x ∷ []) xs);
}

pub mutexes_grow : Growth more_mutexes
mutexes_grow = record {
  none = λ p. ap (λ (all : List Object). record p { mutexes = all }) (append-nil p.mutexes);
  again = λ p x xs. ap (λ (all : List Object). record p { mutexes = all }) (append_assoc p.mutexes (x ∷ []) xs);
}

pub conds_grow : Growth more_conds
conds_grow = record {
  none = λ p. ap (λ (all : List Object). record p { conds = all }) (append-nil p.conds);
  again = λ p x xs. ap (λ (all : List Object). record p { conds = all }) (append_assoc p.conds (x ∷ []) xs);
}

pub threads_grow : Growth more_threads
threads_grow = record {
  none = λ p. ap (λ (all : List Slot). record p { threads = all }) (append-nil p.threads);
  again = λ p x xs. ap (λ (all : List Slot). record p { threads = all }) (append_assoc p.threads (x ∷ []) xs);
}

pub functions_grow : Growth more_functions
functions_grow = record {
  none = λ p. ap (λ (all : List Function). record p { functions = all }) (append-nil p.functions);
  again = λ p x xs. ap (λ (all : List Function). record p { functions = all }) (append_assoc p.functions (x ∷ []) xs);
}

-- ---- one line or function more

-- Tokens that spell a program, which is this one without its lines.
pub record Grown (start : Tall lined.Program) (ts rest : List Item) (p : Program) : Type 0 where
  pub program : Tall lined.Program
  pub spells : SpellsOuter start ts rest program
  pub is : bare_program program.tree ≡ p

pub regrown : {start : Tall lined.Program} {ts rest : List Item} {p q : Program} → p ≡ q → Grown start ts rest p → Grown start ts rest q
regrown e g = record { program = g.program; spells = g.spells; is = g.is ∙ e }

-- These lines add an item of a list.
abbrev pub Adds : (start : Tall lined.Program) (X : Type 0) → (X → Type 0) → (X → List layout.Item) → (Program → List X → Program) → Type 0
Adds start X P lines more =
    (x : X) (ts mid rest : List Item) (p : Tall lined.Program) → P x → SpellsOuter start ts mid p → Shows (lines x) mid rest → Grown start ts rest (more (bare_program p.tree) (x ∷ []))

pub all_added : {X : Type 0} (start : Tall lined.Program) (P : X → Type 0) (lines : X → List layout.Item) (more : Program → List X → Program) → Growth more → Adds start X P lines more
    → (xs : List X) {ts mid rest : List Item} {p : Program} → All P xs → Grown start ts mid p → Shows (flat_map lines xs) mid rest → Grown start ts rest (more p xs)
all_added start P lines more growth add [] f g nothing = regrown (sym (growth.none _)) g
all_added start P lines more growth add (x ∷ xs) f g h =
    let parts = shows_append (lines x) (flat_map lines xs) _ _ h in
    let with_first = add x _ _ _ g.program (All-head P x xs f) g.spells parts.first in
    let with_all = all_added start P lines more growth add xs (All-tail P x xs f) with_first parts.second in
    regrown (growth.again _ x xs ∙ ap (λ q. more q (x ∷ xs)) g.is) with_all
