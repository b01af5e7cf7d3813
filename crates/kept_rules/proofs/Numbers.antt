-- Numbers of arguments and of values match in an edited program.
use Rattle.std.proofs.Common.{length, not, refl, sym, ℕ, ◌&&◌, ◌++◌, ◌==◌, ◌∙◌, ◌≡◌}
use Rattle.std.specs.Prelude.{Contains, map, nat_lt, unwrap_or}
use Rattle.std.proofs.lemmas.List.{map-append}
use Rattle.c_tree.specs.declared.program.Mode.{Mode}
use Rattle.c_tree.specs.Bare as bare
use Rattle.c_tree.specs.Lined.{Program, bare_array, bare_object}
use Rattle.c_tree.specs.declared.program.Array as declared_array
use Rattle.c_tree.specs.declared.program.Object.{Object}
use Rattle.c_rules.specs.declared.rule.Rule.TheVariants as rule
use Rattle.c_rules.specs.Sites.{lines_where}
use Rattle.c_rules.specs.Formed.{KeepsRules}
use Rattle.c_rules.specs.Using.{capacity_count_lines, has_other_initialisers, has_too_many_values, is_miscounted, wrong_counts}
use Rattle.c_rules.proofs.Members.{contains_of, in_of}
use Rattle.rule_facts.proofs.Ranges.{given_lines, value_lines}
use Rattle.rule_facts.proofs.Tests.{both, first_part, last_part, no_lines, same_lines}
use Rattle.kept_rules.proofs.Fitting.{kept_counts_at, none_counted}
use Rattle.kept_rules.proofs.Origin.{kept_where}
use Rattle.kept_rules.specs.Edit.{Way}
use Rattle.kept_rules.specs.Programs.{IsEditOf, KeepsOwn}

pub objects_same : (r : Way) (place : ℕ → ℕ) (q p : Program) → IsEditOf r place q p → map bare_object (q.mutexes ++ q.conds) ≡ map bare_object (p.mutexes ++ p.conds)
objects_same r place q p e =
    let a = e.declared.mutexes in let b = e.declared.conds in
    map-append bare_object q.mutexes q.conds ∙ (cc (a, b) ∙ sym (map-append bare_object p.mutexes p.conds))

pub kept_counts : (r : Way) (place : ℕ → ℕ) (n : Mode) (q p : Program) (mode : Mode) → IsEditOf r place q p → KeepsOwn n q → KeepsRules p mode
    → (line : ℕ) → Contains (wrong_counts q) line → ⊥
kept_counts r place n q p mode e own keeps line at =
    let sites_q = lines_where (λ site. is_miscounted q site site.stmt) q in
    let sites_p = lines_where (λ site. is_miscounted p site site.stmt) p in
    let all = no_lines (wrong_counts p) (keeps rule.WrongCount) in
    let three = first_part (value_lines p ++ given_lines p ++ capacity_count_lines p) sites_p all in
    let two = first_part (value_lines p ++ given_lines p) (capacity_count_lines p) three in
    both (value_lines q ++ given_lines q ++ capacity_count_lines q) sites_q
    (both (value_lines q ++ given_lines q) (capacity_count_lines q)
    (both (value_lines q) (given_lines q)
    (same_lines (λ (a : declared_array.Array). a.line) has_too_many_values bare_array (λ (a : bare.Array). nat_lt a.len (length a.values)) (λ a. refl) q.arrays p.arrays e.declared.arrays
    (first_part (value_lines p) (given_lines p) two))
    (same_lines (λ (o : Object). o.line) has_other_initialisers bare_object (λ (o : bare.Object). o.ready && not (o.given == unwrap_or o.len 1)) (λ o. refl) (q.mutexes ++ q.conds) (p.mutexes ++ p.conds) (objects_same r place q p e)
    (last_part (value_lines p) (given_lines p) two)))
    (no_lines (capacity_count_lines q) own.counted))
    (λ l h. kept_where r place q p e.functions (λ site. is_miscounted q site site.stmt) (λ site. is_miscounted p site site.stmt)
    (λ x at is. none_counted q x x.stmt is)
    (λ g f x y in_q in_p fe like free. kept_counts_at r place q p mode e keeps g f x y in_q in_p like free)
    (λ k c. last_part (value_lines p ++ given_lines p ++ capacity_count_lines p) sites_p all k (in_of sites_p k c)) l (contains_of sites_q l h))
    line (in_of (wrong_counts q) line at)
