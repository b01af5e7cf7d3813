-- The names that a program declares outside functions.
use Rattle.std.proofs.Common.{◌≡◌, ℕ, List, ◌++◌, ◌&&◌, map, filter, bytes_eq, refl, sym, ap, ◌∙◌, append_assoc}
use Rattle.std.proofs.lemmas.Simd.{map-map}
use Rattle.c_tree.specs.declared.program.Program.{Program}
use Rattle.c_tree.specs.declared.program.Cell.{Cell}
use Rattle.c_tree.specs.declared.program.Object.{Object}
use Rattle.c_tree.specs.declared.program.Slot.{Slot}
use Rattle.c_tree.specs.declared.program.Function.{Function}
use Rattle.c_tree.specs.Lined.{bare_cell, bare_object, bare_slot, bare_function, function_of}
use Rattle.c_rules.specs.Names.{mentions}
use Rattle.first_form.specs.FirstForm.{start_functions, is_thread_kind, outer_names, ints_of, mutexes_of}
use Rattle.std.specs.List.{list_any}
use Rattle.first_form.specs.Shown.{shown}
use Rattle.first_form.proofs.Lists.{list_any-map, list_any-filter}

-- the names of declarations, seen without their lines
pub ints_of_shown : (p : Program) → ints_of (shown p) ≡ map (λ (c : Cell). c.name) p.ints
ints_of_shown p = map-map (λ c. c.name) bare_cell p.ints

pub mutexes_of_shown : (p : Program) → mutexes_of (shown p) ≡ map (λ (m : Object). m.name) p.mutexes
mutexes_of_shown p = map-map (λ m. m.name) bare_object p.mutexes

pub slots_of_shown : (p : Program) → map (λ s. s.name) (shown p).threads ≡ map (λ (s : Slot). s.name) p.threads
slots_of_shown p = map-map (λ s. s.name) bare_slot p.threads

functions_of_shown : (p : Program) → map (λ f. f.name) (shown p).functions ≡ map (λ (f : Function). f.name) p.functions
functions_of_shown p = map-map (λ f. f.name) bare_function (map function_of p.functions) ∙ map-map (λ f. (bare_function f).name) function_of p.functions

joined : (a b c d i m s f : List (List ℕ)) → a ≡ i → b ≡ a ++ m → c ≡ b ++ s → d ≡ c ++ f → d ≡ i ++ m ++ s ++ f
joined a b c d i m s f ea eb ec ed = rw (ed, ec, eb, ea, append_assoc, append_assoc) refl

pub outer_names_shown : (p : Program) (a b c d : List (List ℕ))
    → a ≡ map (λ (c : Cell). c.name) p.ints → b ≡ a ++ map (λ (m : Object). m.name) p.mutexes
    → c ≡ b ++ map (λ (s : Slot). s.name) p.threads → d ≡ c ++ map (λ (f : Function). f.name) p.functions
    → d ≡ outer_names (shown p)
outer_names_shown p a b c d ea eb ec ed =
    joined a b c d (ints_of (shown p)) (mutexes_of (shown p)) (map (λ s. s.name) (shown p).threads) (map (λ f. f.name) (shown p).functions)
    (ea ∙ sym (ints_of_shown p)) (eb ∙ ap (λ xs. a ++ xs) (sym (mutexes_of_shown p)))
    (ec ∙ ap (λ xs. b ++ xs) (sym (slots_of_shown p))) (ed ∙ ap (λ xs. c ++ xs) (sym (functions_of_shown p)))

pub starts_shown : (p : Program) (name : List ℕ)
    → mentions (start_functions (shown p)) name ≡ list_any (λ (f : Function). is_thread_kind f.kind && bytes_eq name f.name) p.functions
starts_shown p name =
    list_any-map (bytes_eq name) (λ f. f.name) (filter (λ f. is_thread_kind f.kind) (shown p).functions)
    ∙ list_any-filter (λ f. bytes_eq name f.name) (λ f. is_thread_kind f.kind) (shown p).functions
    ∙ list_any-map (λ f. is_thread_kind f.kind && bytes_eq name f.name) bare_function (map function_of p.functions)
    ∙ list_any-map (λ f. is_thread_kind f.kind && bytes_eq name f.name) function_of p.functions
