-- Slots as they are kept are those of the program's create statements.
use Rattle.std.proofs.Common.{◌≡◌, ◌&&◌, List, map, position, find, bytes_eq, unwrap_or, Option, Some, None, option_map, refl, sym, ap, ◌∙◌}
use Rattle.c_tree.specs.Expressions.{Expr, Place}
use Rattle.c_tree.specs.Values.{constant}
use denote.Ref.{Bor}
use Rattle.c_tree.specs.declared.program.Function as declared_function
use Rattle.c_tree.specs.declared.program.Program as declared_program
use Rattle.c_tree.specs.Lined.{function_of, bare_function}
use Rattle.c_tree.specs.Bare.{Function, Nil}
use Rattle.c_tree.specs.Numbering as numbering
use Rattle.c_tree.specs.Numbering.{Creation, same_slot, main_body, main_name}
use Rattle.c_places.specs.declared.creations.Slot as declared
use Rattle.c_meaning.specs.Shown.{shown, shown_body}
use Rattle.c_places.specs.Slots.{slot_at, same_index, same, kept, slots_of}
use Rattle.c_places.proofs.Numbering.{position_map, find_map, map_twice}

same_indices : (a b : Option Expr) → same_index (option_map constant a) (option_map constant b) ≡ numbering.same_index a b
same_indices None None = refl
same_indices None (Some b) = refl
same_indices (Some a) None = refl
same_indices (Some a) (Some b) = refl

-- the number of a thread by the slots as they are kept
pub slot_found : (ss : List declared.Slot) (cs : List Creation) (slot : Place) → map kept ss ≡ slots_of cs → position (λ s. same (kept s) (slot_at slot)) ss ≡ position (λ c. same_slot c.slot slot) cs
slot_found ss cs slot e =
    position_map kept (λ s. same s (slot_at slot)) ss ∙ ap (position (λ s. same s (slot_at slot))) e ∙ sym (position_map (λ c. slot_at c.slot) (λ s. same s (slot_at slot)) cs)
    ∙ ap (λ test. position test cs) (λ j c. bytes_eq c.slot.name slot.name && same_indices c.slot.index slot.index j)

-- main's own list of statements
pub main_found : (p : declared_program.Program) (main : Option (Bor declared_function.Function)) → option_map (λ f. f.now) main ≡ find (λ f. bytes_eq f.name main_name) p.functions
    → main_body (shown p) ≡ unwrap_or (option_map (λ f. shown_body f.now.body) main) Nil
main_found p main e =
    ap (λ (o : Option Function). unwrap_or (option_map (λ f. f.body) o) Nil) (ap (find (λ f. bytes_eq f.name main_name)) (sym (map_twice bare_function function_of p.functions))
    ∙ find_map (λ f. bare_function (function_of f)) (λ f. bytes_eq f.name main_name) p.functions ∙ ap (option_map (λ f. bare_function (function_of f))) (sym e))
    ∙ go main
  where
    go : (o : Option (Bor declared_function.Function)) → unwrap_or (option_map (λ f. f.body) (option_map (λ f. bare_function (function_of f)) (option_map (λ f. f.now) o))) Nil ≡ unwrap_or (option_map (λ f. shown_body f.now.body) o) Nil
    go None = refl
    go (Some f) = refl
