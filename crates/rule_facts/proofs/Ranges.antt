-- Monitors are there, each with a capacity that isn't 0.
use Rattle.std.proofs.Common.{Bool, List, [], arith, cond, false, inl, length, refl, sym, true, ℕ, ◌++◌, ◌<◌, ◌==◌, ◌||◌, ◌∙◌, ◌∷◌, ◌≡◌, ◌≤◌}
use Rattle.std.specs.Prelude.{filter, if◌then◌else◌, map, nat_le, nat_lt}
use Rattle.std.specs.List.{enumerate_from, list_any}
use Rattle.c_tree.specs.declared.program.Mode.{Mode}
use Rattle.c_tree.specs.Lined.{Function, Give, Program, Stmt, Take, Wait, bare_stmt}
use Rattle.c_tree.specs.declared.program.Array as declared_array
use Rattle.c_tree.specs.declared.program.Object.{Object}
use Rattle.c_tree.specs.declared.program.Slot.{Slot}
use Rattle.c_rules.specs.declared.rule.Rule.TheVariants as rule
use Rattle.c_rules.specs.Sites.{Site, lines_where, sites, sites_in}
use Rattle.c_rules.specs.Formed.{KeepsRules}
use Rattle.c_rules.specs.Naming.{capacity_lines}
use Rattle.c_rules.specs.Using.{capacity_count_lines, has_other_initialisers, has_too_many_values, is_miscounted, wrong_counts}
use Rattle.c_rules.specs.Objects.{empty_capacity_lines, has_no_member, has_no_object, has_no_slot, is_beyond, out_of_range}
use Rattle.c_rules.proofs.Members.{In, in_flat_map, in_of}
use Rattle.rule_facts.proofs.Tests.{NoLines, first_part, last_part, no_lines, none_any, none_there}
use Rattle.rule_facts.specs.Statements.{WithinMonitors}

-- ---- the parts of the rules on numbers

abbrev pub value_lines : Program → List ℕ
value_lines p = map (λ (a : declared_array.Array). a.line) (filter has_too_many_values p.arrays)

abbrev pub given_lines : Program → List ℕ
given_lines p = map (λ (o : Object). o.line) (filter has_other_initialisers (p.mutexes ++ p.conds))

abbrev pub member_lines : Program → List ℕ
member_lines p = map (λ (a : declared_array.Array). a.line) (filter has_no_member p.arrays)

abbrev pub object_lines : Program → List ℕ
object_lines p = map (λ (o : Object). o.line) (filter has_no_object (p.mutexes ++ p.conds))

abbrev pub slot_lines : Program → List ℕ
slot_lines p = map (λ (t : Slot). t.line) (filter has_no_slot p.threads)

pub capacity_counts_free : (p : Program) (mode : Mode) → KeepsRules p mode → NoLines (capacity_count_lines p)
capacity_counts_free p mode keeps =
    last_part (value_lines p ++ given_lines p) (capacity_count_lines p)
    (first_part (value_lines p ++ given_lines p ++ capacity_count_lines p) (lines_where (λ site. is_miscounted p site site.stmt) p) (no_lines (wrong_counts p) (keeps rule.WrongCount)))

pub empty_capacities_free : (p : Program) (mode : Mode) → KeepsRules p mode → NoLines (empty_capacity_lines p)
empty_capacities_free p mode keeps =
    last_part (member_lines p ++ object_lines p ++ slot_lines p) (empty_capacity_lines p)
    (first_part (member_lines p ++ object_lines p ++ slot_lines p ++ empty_capacity_lines p) (lines_where (λ site. is_beyond p site.stmt) p) (no_lines (out_of_range p) (keeps rule.IndexRange)))

pub beyond_free : (p : Program) (mode : Mode) → KeepsRules p mode → (x : Site) → In x (sites p) → is_beyond p x.stmt ≡ false
beyond_free p mode keeps x at =
    let range_sites = lines_where (λ site. is_beyond p site.stmt) p in
    none_there (λ site. is_beyond p site.stmt) p
    (λ l c. last_part (member_lines p ++ object_lines p ++ slot_lines p ++ empty_capacity_lines p) range_sites (no_lines (out_of_range p) (keeps rule.IndexRange)) l (in_of range_sites l c))
    x at

-- ---- capacities

zero_of : (a : ℕ) → nat_lt 0 a ≡ false → a ≡ 0
zero_of a e = grind arith

or_none : (a b : Bool) → (a || b) ≡ false → (a ≡ false) × (b ≡ false)
or_none true b e = absurd (cc e)
or_none false b e = (refl, e)

no_capacities : (a b line : ℕ) → NoLines (if nat_lt 0 a || nat_lt 0 b then line ∷ [] else []) → (a ≡ 0) × (b ≡ 0)
no_capacities a b line free = go (nat_lt 0 a || nat_lt 0 b) refl free
  where
    go : (c : Bool) → (nat_lt 0 a || nat_lt 0 b) ≡ c → NoLines (if c then line ∷ [] else []) → (a ≡ 0) × (b ≡ 0)
    go true e none = absurd (none line (inl refl))
    go false e none = let k = or_none (nat_lt 0 a) (nat_lt 0 b) e in (zero_of a k.0, zero_of b k.1)

equal_of : (a b : ℕ) → (a == b) ≡ true → a ≡ b
equal_of a b e = grind arith

pub capacities_counted : (p : Program) (mode : Mode) → KeepsRules p mode → p.cap_len ≡ length p.monitors
capacities_counted p mode keeps = go (p.cap_len == length p.monitors) refl (capacity_counts_free p mode keeps)
  where
    go : (b : Bool) → (p.cap_len == length p.monitors) ≡ b → NoLines (if b then [] else capacity_lines p) → p.cap_len ≡ length p.monitors
    go true e free = equal_of p.cap_len (length p.monitors) e
    go false e free = let k = no_capacities (length p.monitors) p.cap_len p.cap_line free in k.1 ∙ sym k.0

in_none : (xs : List ℕ) (x : ℕ) → In x xs → length xs ≡ 0 → ⊥
in_none [] x at e = at
in_none (y ∷ ys) x at e = omega arith

one_of : (c : ℕ) → (c == 0) ≡ false → 1 ≤ c
one_of c e = grind arith

pub capacities_filled : (p : Program) (mode : Mode) → KeepsRules p mode → (capacity : ℕ) → In capacity p.monitors → 1 ≤ capacity
capacities_filled p mode keeps capacity at = go ((p.cap_len == 0) || list_any (λ c. c == 0) p.monitors) refl (empty_capacities_free p mode keeps)
  where
    go : (b : Bool) → ((p.cap_len == 0) || list_any (λ c. c == 0) p.monitors) ≡ b → NoLines (if b then capacity_lines p else []) → 1 ≤ capacity
    go true e free = absurd (in_none p.monitors capacity at (no_capacities (length p.monitors) p.cap_len p.cap_line free).0)
    go false e free = one_of capacity (none_any (λ c. c == 0) p.monitors (or_none (p.cap_len == 0) (list_any (λ c. c == 0) p.monitors) e).1 capacity at)

-- ---- takes and gives

below_len : (len k : ℕ) → nat_le len k ≡ false → k < len
below_len len k e = grind arith

pub monitors_well : (p : Program) (mode : Mode) → KeepsRules p mode → (f : ℕ × Function) (x : Site) → In f (enumerate_from 0 p.functions) → In x (sites_in f) → WithinMonitors (length p.monitors) (bare_stmt x.stmt)
monitors_well p mode keeps f x at here = go x.stmt (beyond_free p mode keeps x (in_flat_map sites_in (enumerate_from 0 p.functions) f x at here))
  where
    go : (s : Stmt) → is_beyond p s ≡ false → WithinMonitors (length p.monitors) (bare_stmt s)
    go (Take line monitor) e = below_len (length p.monitors) monitor e
    go (Give line monitor) e = below_len (length p.monitors) monitor e
    go (Wait line cond mutex takes) e = λ monitor among. below_len (length p.monitors) monitor (none_any (nat_le (length p.monitors)) takes e monitor (in_of takes monitor among))
    go s e = tt
