-- What create statements begin, and the threads that they create.
use Rattle.std.proofs.Common.{Bool, List, [], ap, false, inl, refl, subst, sym, true, ℕ, ℤ, ◌+◌, ◌∙◌, ◌∷◌, ◌≡◌, ◌≤◌}
use Rattle.std.specs.Prelude.{None, Some, if◌then◌else◌, is_none, option_map, position, slice_get, unwrap_or}
use Rattle.std.specs.List.{enumerate_from}
use Rattle.std.proofs.lemmas.Slice.Eq.{bytes_eq-Decides}
use Rattle.std.specs.declared.option.Option.{Option}
use Rattle.c_tree.specs.declared.program.Mode.{Mode}
use Rattle.c_tree.specs.Bare as bare
use Rattle.c_tree.specs.Lined.{Create, Function, Join, Program, Stmt, bare_program, bare_stmt, bare_stmts}
use Rattle.c_tree.specs.Expressions.{Expr, Place}
use Rattle.c_tree.specs.Numbering.{Creation, creations, creations_of, main_name, same_slot, thread_in}
use Rattle.c_tree.specs.declared.program.Kind.{Kind}
use Rattle.c_tree.specs.declared.program.Kind.TheVariants as kind
use Rattle.c_tree.specs.Values.{constant}
use Rattle.c_rules.specs.declared.rule.Rule.TheVariants as rule
use Rattle.c_rules.specs.Sites.{Site, is_main, sites, sites_in}
use Rattle.c_rules.specs.Threads.{has_name, has_open_argument, number_of}
use Rattle.c_rules.specs.Formed.{KeepsRules}
use Rattle.c_rules.specs.declared.role.Role.TheVariants.{OfThread, Start}
use Rattle.c_rules.specs.Declarations.{Thing, named}
use Rattle.c_rules.specs.Declarations as thing
use Rattle.c_rules.specs.Uses.{Use, fits, is_start, of_expr, of_place, plain, uses_of}
use Rattle.c_rules.specs.Meaning.{is_out_of_reach, meaning}
use Rattle.c_rules.proofs.Members.{In, contains_of, in_append_right, in_flat_map, in_of}
use Rattle.rule_facts.proofs.Creations.{CreationSite, Numbered, SlotsDiffer, nth_first, number_of_create, site_of_creation}
use Rattle.rule_facts.proofs.Everything.{site_of}
use Rattle.rule_facts.proofs.Fixing.{fixed_create, joined_main}
use Rattle.rule_facts.proofs.Main.{main_found, main_there, names_apart}
use Rattle.rule_facts.proofs.Meant.{function_meant, not_below, use_meant}
use Rattle.rule_facts.proofs.Places.{in_functions}
use Rattle.rule_facts.proofs.Tests.{none_there}
use Rattle.rule_facts.specs.Threading.{Created, Creates, Starts, StartsWell}

starts_thread : (k : Kind) → is_start k ≡ true → k ≡ kind.Thread
starts_thread kind.Thread e = refl
starts_thread kind.Main e = absurd (cc e)
starts_thread kind.Int e = absurd (cc e)
starts_thread kind.Void e = absurd (cc e)

some_of : (o : Option ℤ) → is_none o ≡ false → (z : ℤ) × (o ≡ Some z)
some_of None e = absurd (cc e)
some_of (Some z) e = (z, refl)

-- a number of an expression that has no names
unnamed : (e : Expr) (z : ℤ) → number_of e ≡ Some z → (has_name e ≡ false) × (constant e ≡ Some z)
unnamed e z is = go (has_name e) refl is
  where
    go : (b : Bool) → has_name e ≡ b → (if b then None else constant e) ≡ Some z → (has_name e ≡ false) × (constant e ≡ Some z)
    go true h k = absurd (cc k)
    go false h k = (h, k)

-- what a create statement begins, and that it stands no further below
pub record Begins (p : Program) (x : Site) (name : List ℕ) (arg : Expr) : Type 0 where
  pub starts : Starts p name arg
  pub above : starts.place ≤ x.place

pub begins : (p : Program) (mode : Mode) → KeepsRules p mode → (x : Site) → In x (sites p) → (line : ℕ) (slot : Place) (name : List ℕ) (arg : Expr) → x.stmt ≡ Create line slot name arg → Begins p x name arg
begins p mode keeps x at line slot name arg is =
    let open_arg : is_none (number_of arg) ≡ false = ap has_open_argument (sym is) ∙ none_there (λ y. has_open_argument y.stmt) p (keeps rule.ArgNotConstant) x at in
    let u : Use = plain Start name in
    let m = use_meant p (keeps rule.Unknown) (keeps rule.WrongKind) x u at (subst (λ s. In u (uses_of s)) (sym is) (in_append_right (of_place OfThread slot) (u ∷ of_expr arg) u (inl refl))) in
    by m.thing m.meant m.fit m.reached (some_of (number_of arg) open_arg)
  where
    by : (th : Thing) → meaning p x name ≡ Some th → fits th Start false ≡ true → is_out_of_reach x.place (Some th) ≡ false → (z : ℤ) × (number_of arg ≡ Some z) → Begins p x name arg
    by (thing.Function place g) e fit reach number =
        let k = function_meant p x name place g e in
        let a = unnamed arg number.0 number.1 in
        record {
          starts = record { place = place; function = g; listed = contains_of (enumerate_from 0 p.functions) (place, g) k.listed; named = k.named; kind = starts_thread g.kind fit; value = number.0; argument = a.1; no_names = a.0 };
          above = not_below x.place place reach;
        }
    by th e fit reach number = absurd (cc fit)

-- main's own list is that of the function named so
creations_are : (p : Program) (mode : Mode) → KeepsRules p mode → (f : ℕ × Function) → In f (enumerate_from 0 p.functions) → is_main f.1 ≡ true → creations (bare_program p) ≡ creations_of (bare_stmts f.1.body)
creations_are p mode keeps f at is =
    ap (λ o. creations_of (unwrap_or (option_map (λ (b : bare.Function). b.body) o) bare.Nil)) (main_found p.functions f.1 (names_apart p mode keeps) (in_functions 0 p.functions f at) is)

slots_differ : (p : Program) (mode : Mode) → KeepsRules p mode → (f : ℕ × Function) → In f (enumerate_from 0 p.functions) → SlotsDiffer f [] f.1.params f.1.body
slots_differ p mode keeps f at = λ x line slot name arg here is. fixed_create p mode keeps x (in_flat_map sites_in (enumerate_from 0 p.functions) f x at here) line slot name arg is

-- the slot of main's creation k means the thread k + 1
thread_at : (p : Program) (mode : Mode) → KeepsRules p mode → (f : ℕ × Function) → In f (enumerate_from 0 p.functions) → is_main f.1 ≡ true → (k : ℕ) (c : Creation) → slice_get (creations_of (bare_stmts f.1.body)) k ≡ Some c
    → thread_in (bare_program p) c.slot ≡ Some (k + 1)
thread_at p mode keeps f at is k c e =
    ap (λ cs. option_map (λ n. n + 1) (position (λ (d : Creation). same_slot d.slot c.slot) cs)) (creations_are p mode keeps f at is)
    ∙ ap (option_map (λ n. n + 1)) (nth_first f [] f.1.params f.1.body k c e (slots_differ p mode keeps f at))

created_well : (p : Program) (mode : Mode) → KeepsRules p mode → (f : ℕ × Function) (x : Site) → In f (enumerate_from 0 p.functions) → In x (sites_in f) → (line : ℕ) (slot : Place) (name : List ℕ) (arg : Expr)
    → x.stmt ≡ Create line slot name arg → (is_main f.1 ≡ true) × Creates p f.0 slot name arg
created_well p mode keeps f x at here line slot name arg is =
    let in_p = in_flat_map sites_in (enumerate_from 0 p.functions) f x at here in
    let stands = site_of f [] f.1.params f.1.body x here in
    let fixed_one = fixed_create p mode keeps x in_p line slot name arg is in
    let main : is_main f.1 ≡ true = ap is_main (sym stands.1) ∙ fixed_one.main in
    (main, by main (begins p mode keeps x in_p line slot name arg is) stands.0 (number_of_create f [] f.1.params f.1.body x line slot name arg here fixed_one.own is))
  where
    by : is_main f.1 ≡ true → Begins p x name arg → x.place ≡ f.0 → Numbered f.1.body (record { slot = slot; function = name; arg = arg }) → Creates p f.0 slot name arg
    by main b place (Numbered.numbered_as k e) = record {
      starts = b.starts;
      above = subst (λ h. b.starts.place ≤ h) place b.above;
      creation = k;
      created = ap (λ cs. slice_get cs k) (creations_are p mode keeps f at main) ∙ e;
      thread = thread_at p mode keeps f at main k (record { slot = slot; function = name; arg = arg }) e;
    }

pub starts_well : (p : Program) (mode : Mode) → KeepsRules p mode → (f : ℕ × Function) (x : Site) → In f (enumerate_from 0 p.functions) → In x (sites_in f) → StartsWell p f (bare_stmt x.stmt)
starts_well p mode keeps f x at here = go x.stmt refl
  where
    go : (s : Stmt) → x.stmt ≡ s → StartsWell p f (bare_stmt s)
    go (Create line slot name arg) is = created_well p mode keeps f x at here line slot name arg is
    go (Join line slot) is =
        ap is_main (sym (site_of f [] f.1.params f.1.body x here).1) ∙ (joined_main p mode keeps x (in_flat_map sites_in (enumerate_from 0 p.functions) f x at here) line slot is).0
    go s is = tt

pub created_at : (p : Program) (mode : Mode) → KeepsRules p mode → (k : ℕ) (c : Creation) → slice_get (creations (bare_program p)) k ≡ Some c → Created p k c
created_at p mode keeps k c e =
    let m = main_there p mode keeps in
    let f : ℕ × Function = (m.place, m.function) in
    let listed_f = in_of (enumerate_from 0 p.functions) f m.listed in
    let is : is_main m.function ≡ true = (bytes_eq-Decides m.function.name main_name).1 m.named in
    let own : slice_get (creations_of (bare_stmts m.function.body)) k ≡ Some c = ap (λ cs. slice_get cs k) (sym (creations_are p mode keeps f listed_f is)) ∙ e in
    by f listed_f (thread_at p mode keeps f listed_f is k c own) (site_of_creation f [] m.function.params m.function.body k c own)
  where
    by : (f : ℕ × Function) → In f (enumerate_from 0 p.functions) → thread_in (bare_program p) c.slot ≡ Some (k + 1) → CreationSite f [] f.1.params f.1.body c → Created p k c
    by f at thread (CreationSite.creation_site x line here own is) = record {
      starts = (begins p mode keeps x (in_flat_map sites_in (enumerate_from 0 p.functions) f x at here) line c.slot c.function c.arg is).starts;
      thread = thread;
    }
