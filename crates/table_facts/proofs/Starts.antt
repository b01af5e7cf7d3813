-- The threads of the meaning are those of the table.
use Rattle.std.proofs.Common.{◌≡◌, ◌∙◌, ℕ, suc, ◌+◌, ◌<◌, Bool, true, List, length, refl, sym, ap, arith, cond}
use Rattle.std.specs.Prelude.{find, nat_lt, pos, bytes_eq, slice_get, position, option_map, option_and_then, unwrap_or, Some, None}
use Rattle.std.specs.List.{position_or_len}
use Rattle.std.proofs.lemmas.Option.{slice_get-map, slice_get_within}
use Rattle.std.proofs.lemmas.List.Folds.{find_at}
use Rattle.c_tree.specs.declared.program.Mode.{Mode}
use Rattle.c_tree.specs.Bare as bare
use Rattle.c_tree.specs.Lined.{Program, bare_program, bare_function}
use Rattle.c_tree.specs.Numbering.{Creation, creations, function_named, main_name}
use Rattle.c_tree.specs.Values.{fitting}
use Rattle.c_rules.specs.Formed.{Formed}
use Rattle.rule_facts.specs.Regular.{Regular}
use Rattle.rule_facts.proofs.Ruled.{regular}
use Rattle.c_check.specs.Tables.{starts_of, start_of, place_of}
use Rattle.table_facts.specs.Numbered.{StartOf, ThreadOf}

lt_is : (a b : ℕ) → a < b → nat_lt a b ≡ true
lt_is a b h = grind arith

-- the element that is found stands at the position that is found
found_at : {X : Type 0} (test : X → Bool) (xs : List X) (x : X) → find test xs ≡ Some x → slice_get xs (unwrap_or (position test xs) 0) ≡ Some x
found_at test xs x e =
    let n = position_or_len test xs in
    let here : slice_get xs n ≡ Some x = sym (find_at test xs) ∙ e in
    ap (λ b. slice_get xs (unwrap_or (cond b (Some n) None) 0)) (lt_is n (length xs) (slice_get_within xs n x here)) ∙ here

stands_at : (p : bare.Program) (name : List ℕ) (f : bare.Function) → function_named p name ≡ Some f → slice_get p.functions (place_of p name) ≡ Some f
stands_at p name f e = found_at (λ (g : bare.Function). bytes_eq g.name name) p.functions f e

pub main_starts : (p : Program) (mode : Mode) → Formed p mode → StartOf (bare_program p) 0 main_name
main_starts p mode formed =
    let rules : Regular p = regular p mode formed in
    let m = rules.main in
    let found : function_named (bare_program p) main_name ≡ Some (bare_function m.function) =
    ap (function_named (bare_program p)) (sym m.named) ∙ rules.found (m.place, m.function) m.listed in
    record {
      start = record { function = place_of (bare_program p) main_name; arg = pos 0 };
      listed = refl;
      function = bare_function m.function;
      found = found;
      stands = stands_at (bare_program p) main_name (bare_function m.function) found;
    }

start_listed : (p : bare.Program) (k : ℕ) (c : Creation) → slice_get (creations p) k ≡ Some c → slice_get (starts_of p) (k + 1) ≡ Some (start_of p c)
start_listed p k c e =
    let more : k + 1 ≡ suc k = omega arith in
    ap (slice_get (starts_of p)) more ∙ (slice_get-map (start_of p) (creations p) k ∙ ap (option_map (start_of p)) e)

pub thread_starts : (p : Program) (mode : Mode) (k : ℕ) (c : Creation) → Formed p mode → slice_get (creations (bare_program p)) k ≡ Some c → ThreadOf (bare_program p) k c
thread_starts p mode k c formed e =
    let rules : Regular p = regular p mode formed in
    let made = rules.created k c e in
    let s = made.starts in
    let found : function_named (bare_program p) c.function ≡ Some (bare_function s.function) =
    ap (function_named (bare_program p)) (sym s.named) ∙ rules.found (s.place, s.function) s.listed in
    record {
      thread = made.thread;
      start = record {
        start = start_of (bare_program p) c;
        listed = start_listed (bare_program p) k c e;
        function = bare_function s.function;
        found = found;
        stands = stands_at (bare_program p) c.function (bare_function s.function) found;
      };
      value = s.value;
      argument = s.argument;
      passed = λ fits. ap (λ o. unwrap_or (option_and_then fitting o) (pos 0)) s.argument ∙ ap (λ o. unwrap_or o (pos 0)) fits;
    }
