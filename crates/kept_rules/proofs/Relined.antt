-- A program that is well formed is so on other lines.
use Rattle.std.proofs.Common.{Bool, List, [], ap, arith, cond, false, inl, length, not, refl, subst, sym, true, ℕ, ◌++◌, ◌<◌, ◌==◌, ◌||◌, ◌∙◌, ◌∷◌, ◌≡◌, ◌≤◌}
use Rattle.std.specs.Prelude.{IsTrue, bytes_eq, filter, if◌then◌else◌, map, nat_lt}
use Rattle.std.specs.List.{enumerate_from, list_any}
use Rattle.c_tree.specs.declared.program.Mode.{Mode}
use Rattle.c_tree.specs.Bare as bare
use Rattle.c_tree.specs.Lined.{Function, Give, Program, Stmt, Take, bare_function, bare_program}
use Rattle.c_tree.specs.Numbering.{main_name}
use Rattle.c_tree.specs.declared.program.Mode.TheVariants as mode
use Rattle.c_rules.specs.declared.rule.Rule.TheVariants as rule
use Rattle.c_rules.specs.Sites.{Site, is_main, lines_where, sites}
use Rattle.c_rules.specs.Threads.{no_main}
use Rattle.c_rules.specs.Formed.{Formed, KeepsRules}
use Rattle.c_rules.specs.Names.{is_function_name, is_reserved}
use Rattle.c_rules.specs.Naming.{Inner, calls_monitor, capacity_lines, inner, is_taken_for, long_names, monitor_lines, reserved}
use Rattle.c_rules.specs.Declarations.{Declaration, of_function, outer}
use Rattle.c_rules.specs.Using.{capacity_count_lines, is_miscounted, wrong_counts}
use Rattle.c_rules.specs.declared.rule.Count.TheVariants as count
use Rattle.c_rules.specs.Objects.{empty_capacity_lines, is_beyond, out_of_range}
use Rattle.c_rules.proofs.Members.{Image, In, contains_of, from_map, image, in_append_left, in_filter, in_map, in_of}
use Rattle.rule_facts.proofs.Fixed.{of_functions}
use Rattle.rule_facts.proofs.Main.{has_main}
use Rattle.rule_facts.proofs.Places.{Placed, place_in}
use Rattle.rule_facts.proofs.Places.{placed}
use Rattle.rule_facts.proofs.Ranges.{given_lines, member_lines, object_lines, slot_lines, value_lines}
use Rattle.rule_facts.proofs.Tests.{NoLines, both, first_part, last_part, no_lines, none_listed, none_there, same_lines}
use Rattle.rule_facts.specs.Apart.{function_names}
use Rattle.kept_rules.proofs.Kept.{kept_formed}
use Rattle.kept_rules.proofs.Lines.{by_lines, put_on}
use Rattle.kept_rules.proofs.Origin.{Origin, origin}
use Rattle.kept_rules.proofs.Same.{are_edits, names_by, same_edit}
use Rattle.kept_rules.specs.Edit.{EditOf, PutTakes, puts}
use Rattle.kept_rules.specs.Programs.{KeepsOwn}
use Rattle.kept_rules.specs.Uses.{itself}

-- ---- calls of monitors, where none is put in

none_below : (k : ℕ) → k < 0 → ⊥
none_below k h = omega arith

none_less : (k : ℕ) → nat_lt k 0 ≡ true → ⊥
none_less k e = grind arith

never_put : (s : Stmt) → IsTrue (puts itself s) → calls_monitor s ≡ false
never_put (Take line monitor) is = absurd (none_less monitor is)
never_put (Give line monitor) is = absurd (none_less monitor is)
never_put s is = absurd (cc is)

monitor_on : (l m : ℕ) (b : bare.Stmt) → calls_monitor (put_on l b) ≡ calls_monitor (put_on m b)
monitor_on l m (bare.Declare name value) = refl
monitor_on l m b = refl

-- where nothing is put in, a wait takes the same
same_takes : (xs ys : List ℕ) → PutTakes 0 xs ys → xs ≡ ys
same_takes xs ys PutTakes.none = refl
same_takes xs ys (PutTakes.put k us vs less more) = absurd (none_below k less)
same_takes xs ys (PutTakes.keep k us vs more) = ap (λ zs. k ∷ zs) (same_takes us vs more)

monitor_same : (s t : Stmt) → EditOf itself s t → calls_monitor s ≡ calls_monitor t
monitor_same s t (EditOf.same u v a b e) = by_lines calls_monitor monitor_on s t a b e
monitor_same s t (EditOf.wait l m cond mutex takes others x) = ap (λ ks. nat_lt 0 (length ks)) (same_takes takes others x)
monitor_same s t e = refl

none_called : (p : Program) (x : Site) → ((y : Site) → In y (sites p) → calls_monitor y.stmt ≡ false) → Origin itself (λ k. k) p x → calls_monitor x.stmt ≡ false
none_called p x free (Origin.put is) = never_put x.stmt is
none_called p x free (Origin.like g f y among fe in_p like) = monitor_same x.stmt y.stmt like.stmt ∙ free y in_p

-- ---- capacities

-- lines of capacities, by these two tests
abbrev caps : Bool → Bool → ℕ → List ℕ
caps left out line = if left then (if out then line ∷ [] else []) else []

same_caps : (left out : Bool) (a b : ℕ) → NoLines (caps left out a) → NoLines (caps left out b)
same_caps true true a b free line at = free a (inl refl)
same_caps true false a b free line at = absurd at
same_caps false out a b free line at = absurd at

same_others : (left out : Bool) (a b : ℕ) → NoLines (if left then [] else (if out then a ∷ [] else [])) → NoLines (if left then [] else (if out then b ∷ [] else []))
same_others true out a b free line at = absurd at
same_others false true a b free line at = free a (inl refl)
same_others false false a b free line at = absurd at

abbrev has_caps : List ℕ → ℕ → Bool
has_caps monitors len = nat_lt 0 (length monitors) || nat_lt 0 len

abbrev is_empty : List ℕ → ℕ → Bool
is_empty monitors len = (len == 0) || list_any (λ capacity. capacity == 0) monitors

-- ---- what p has itself

any_main : (fs : List Function) → list_any is_main fs ≡ list_any (λ (b : bare.Function). bytes_eq b.name main_name) (map bare_function fs)
any_main [] = refl
any_main (f ∷ fs) = ap (λ b. is_main f || b) (any_main fs)

pub allowed_there : (p : Program) (mode : Mode) → KeepsRules p mode → (n : List ℕ) → Image (λ (f : Function). f.name) p.functions n → is_function_name mode n ≡ true
allowed_there p mode keeps n (image f at name) = subst (λ m. is_function_name mode m ≡ true) name (by (place_in 0 p.functions f at))
  where
    go : (j : ℕ) → In (j, f) (enumerate_from 0 p.functions) → (b : Bool) → is_function_name mode f.name ≡ b → is_function_name mode f.name ≡ true
    go j among true e = e
    go j among false e =
        let d = of_function (j, f) in
        absurd (keeps rule.Reserved d.line (contains_of (reserved mode p) d.line
        (in_append_left (map (λ (d : Declaration). d.line) (filter (λ (d : Declaration). is_taken_for mode d.name d.thing) (outer p)) ++ map (λ (l : Inner). l.line) (filter (λ (l : Inner). is_reserved l.name) (inner p))) (monitor_lines mode p) d.line
        (in_append_left (map (λ (d : Declaration). d.line) (filter (λ (d : Declaration). is_taken_for mode d.name d.thing) (outer p))) (map (λ (l : Inner). l.line) (filter (λ (l : Inner). is_reserved l.name) (inner p))) d.line
        (in_map (λ (d : Declaration). d.line) (filter (λ (d : Declaration). is_taken_for mode d.name d.thing) (outer p)) d
        (in_filter (λ (d : Declaration). is_taken_for mode d.name d.thing) (outer p) d (of_functions p (j, f) among) (ap not e)))))))

    by : Placed (enumerate_from 0 p.functions) f → is_function_name mode f.name ≡ true
    by (placed j among) = go j among (is_function_name mode f.name) refl

short_same : (m : Mode) (q p : Program) → map bare_function q.functions ≡ map bare_function p.functions → NoLines (long_names m p) → NoLines (long_names m q)
short_same mode.Any q p e free = λ line at. absurd at
short_same mode.Source q p e free =
    same_lines (λ (f : Function). f.line) (λ (f : Function). nat_lt 56 (length f.name)) bare_function (λ (b : bare.Function). nat_lt 56 (length b.name)) (λ f. refl) q.functions p.functions e free

monitors_same : (m : Mode) (q p : Program) → bare_program q ≡ bare_program p → NoLines (monitor_lines m p) → NoLines (monitor_lines m q)
monitors_same mode.Any q p e free = λ line at. absurd at
monitors_same mode.Source q p e free =
    let fs : map bare_function q.functions ≡ map bare_function p.functions = ap (λ (b : bare.Program). b.functions) e in
    let test_p = λ (site : Site). calls_monitor site.stmt in
    let none = none_there test_p p (λ l c. last_part (capacity_lines p) (lines_where test_p p) free l (in_of (lines_where test_p p) l c)) in
    both (capacity_lines q) (lines_where test_p q)
    (subst (λ b. NoLines (if b then q.cap_line ∷ [] else [])) (ap (λ (b : bare.Program). has_caps b.monitors b.cap_len) (sym e))
    (same_caps true (has_caps p.monitors p.cap_len) p.cap_line q.cap_line (first_part (capacity_lines p) (lines_where test_p p) free)))
    (no_lines (lines_where test_p q) (none_listed test_p q (λ x at. none_called p x none (origin itself (λ k. k) q p x (are_edits q p fs) at))))

pub own_same : (q p : Program) (mode : Mode) → bare_program q ≡ bare_program p → Formed p mode → KeepsOwn mode q
own_same q p mode e formed =
    let keeps = formed.keeps_rules in
    let fs : map bare_function q.functions ≡ map bare_function p.functions = ap (λ (b : bare.Program). b.functions) e in
    let ns : function_names q ≡ function_names p = names_by q.functions ∙ (ap (map (λ (b : bare.Function). b.name)) fs ∙ sym (names_by p.functions)) in
    let monitors : q.monitors ≡ p.monitors = ap (λ (b : bare.Program). b.monitors) e in
    let counts = no_lines (wrong_counts p) (keeps rule.WrongCount) in
    let count_sites = lines_where (λ site. is_miscounted p site site.stmt) p in
    let range = no_lines (out_of_range p) (keeps rule.IndexRange) in
    let range_sites = lines_where (λ site. is_beyond p site.stmt) p in
    record {
      allowed = λ g at. allowed_there p mode keeps g.name (from_map (λ (f : Function). f.name) p.functions g.name
          (subst (In g.name) ns (in_map (λ (f : Function). f.name) q.functions g (in_of q.functions g at))));
      short = λ line at. short_same mode q p fs (no_lines (long_names mode p) (keeps rule.LongName)) line (in_of (long_names mode q) line at);
      main = any_main q.functions ∙ (ap (list_any (λ (b : bare.Function). bytes_eq b.name main_name)) fs ∙ (sym (any_main p.functions) ∙ has_main p (no_lines (no_main p) (keeps rule.NoMain))));
      monitors = λ line at. monitors_same mode q p e (last_part (taken_lines p mode) (monitor_lines mode p) (no_lines (reserved mode p) (keeps rule.Reserved))) line (in_of (monitor_lines mode q) line at);
      counted = λ line at.
          subst (λ (b : bare.Program). NoLines (if b.cap_len == length b.monitors then [] else (if has_caps b.monitors b.cap_len then q.cap_line ∷ [] else []))) (sym e)
          (same_others (p.cap_len == length p.monitors) (has_caps p.monitors p.cap_len) p.cap_line q.cap_line
          (last_part (value_lines p ++ given_lines p) (capacity_count_lines p) (first_part (value_lines p ++ given_lines p ++ capacity_count_lines p) count_sites counts)))
          line (in_of (capacity_count_lines q) line at);
      filled = λ line at.
          subst (λ (b : bare.Program). NoLines (caps (is_empty b.monitors b.cap_len) (has_caps b.monitors b.cap_len) q.cap_line)) (sym e)
          (same_caps (is_empty p.monitors p.cap_len) (has_caps p.monitors p.cap_len) p.cap_line q.cap_line
          (last_part (member_lines p ++ object_lines p ++ slot_lines p) (empty_capacity_lines p) (first_part (member_lines p ++ object_lines p ++ slot_lines p ++ empty_capacity_lines p) range_sites range)))
          line (in_of (empty_capacity_lines q) line at);
      few = subst (λ ms. length ms ≤ 16) (sym monitors) (formed.within count.Monitors);
    }
  where
    taken_lines : (p : Program) → Mode → List ℕ
    taken_lines p mode = map (λ (d : Declaration). d.line) (filter (λ (d : Declaration). is_taken_for mode d.name d.thing) (outer p)) ++ map (λ (l : Inner). l.line) (filter (λ (l : Inner). is_reserved l.name) (inner p))

pub formed_on_other_lines : (q p : Program) (mode : Mode) → bare_program q ≡ bare_program p → Formed p mode → Formed q mode
formed_on_other_lines q p mode e formed = kept_formed itself (λ k. k) mode q p mode (same_edit q p mode e formed.keeps_rules) (own_same q p mode e formed) formed
