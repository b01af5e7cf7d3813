-- A well-formed program with a tree as the grammar gives it is proper.
use Rattle.std.proofs.Common.{◌≡◌, ◌≢◌, ℕ, true, false, List, [], ◌∷◌, map, length, Some, inl, inr, ⊎_elim, refl, sym, ap, ◌∙◌, subst}
use Rattle.std.specs.Prelude.{Contains, All}
use Rattle.std.specs.List.{enumerate_from}
use Rattle.std.proofs.lemmas.Bool.{cases_Bool}
use Rattle.std.proofs.lemmas.Slice.Eq.{bytes_eq-Decides}
use Rattle.c_tree.specs.declared.program.Kind.{Kind}
use Rattle.c_tree.specs.declared.program.Kind.TheVariants as kind
use Rattle.c_tree.specs.declared.program.Mode.{Mode}
use Rattle.c_tree.specs.Expressions.{Place}
use Rattle.c_tree.specs.Bare as bare
use Rattle.c_tree.specs.Everywhere.{Everywhere}
use Rattle.c_tree.specs.Lined.{Function, Program, bare_object, bare_stmt, bare_stmts, bare_function, bare_program}
use Rattle.c_tree.specs.Numbering.{creations_of, creations, function_named, main_name}
use Rattle.c_rules.specs.Sites.{Site, sites_in, is_main}
use Rattle.c_rules.specs.Formed.{Formed}
use Rattle.c_rules.proofs.Members.{In, in_of, contains_of, in_map}
use Rattle.c_canonical.specs.Shaped.{ShapedStmts, ShapedFirst, ShapedStep}
use Rattle.c_canonical.specs.ShapedPrograms.{UsableFunction, ShapedHead, ShapedFunction, ShapedProgram}
use Rattle.rule_facts.specs.Apart.{Listed}
use Rattle.rule_facts.specs.Elements.{ElementsOf, ElementsOfValue, ElementsFit}
use Rattle.rule_facts.specs.Regular.{Regular}
use Rattle.rule_facts.specs.Statements.{CallsAbove, NamesObject, PlacesFit, WithinMonitors}
use Rattle.rule_facts.specs.Threading.{StartsWell}
use Rattle.rule_facts.proofs.Everything.{everywhere_from, each_from}
use Rattle.rule_facts.proofs.Main.{found_listed}
use Rattle.rule_facts.proofs.Places.{in_functions}
use Rattle.rule_facts.proofs.Ruled.{regular}
use Rattle.reached_states.specs.Creating.{CreatesNone, CreatesItself, NamesOthers, CreatesInMain}
use Rattle.undefined_steps.specs.Proper.{HasFunction, IsObject, BeginsFor, IsProper, IsProperProgram}
use Rattle.undefined_steps.specs.Laws.{FormedIsProper}
use Rattle.undefined_steps.proofs.Naming.{find_mutex, find_condition}
use Rattle.undefined_steps.proofs.Threading.{creates_itself, JoinsThread, main_joins}

-- ---- what the grammar gives besides the rules

-- main is of the kind main
main_kind : (k : Kind) (name : List ℕ) (params : List (List ℕ)) → ShapedHead k name params → name ≡ main_name → k ≡ kind.Main
main_kind kind.Main name params head same = refl
main_kind kind.Int name params head same = absurd (not_usable (subst UsableFunction same head.0))
  where
    not_usable : UsableFunction main_name → ⊥
    not_usable e = cc e
main_kind kind.Void name params head same = absurd (not_usable (subst UsableFunction same head.0))
  where
    not_usable : UsableFunction main_name → ⊥
    not_usable e = cc e
main_kind kind.Thread name (param ∷ []) head same = absurd (not_usable (subst UsableFunction same head.0))
  where
    not_usable : UsableFunction main_name → ⊥
    not_usable e = cc e
main_kind kind.Thread name [] head same = absurd head
main_kind kind.Thread name (a ∷ b ∷ params) head same = absurd head

-- what holds of a `for` but for its first part
abbrev ButFirst : bare.Program → bare.Stmt → Type 0
ButFirst p (bare.For first_part test step body) = ElementsOf p.arrays test
ButFirst p s = IsProper p s

begins_for : (p : bare.Program) (first_part : bare.Stmts) → ShapedFirst first_part → Everywhere (ButFirst p) first_part → BeginsFor p first_part
begins_for p bare.Nil shaped all = tt
begins_for p (bare.Cons (bare.Declare name (Some e)) bare.Nil) shaped all = all.0
begins_for p (bare.Cons (bare.Assign target e) bare.Nil) shaped all = all.0
begins_for p first_part shaped all = absurd shaped

first_whole : (p : bare.Program) (first_part : bare.Stmts) → ShapedFirst first_part → Everywhere (ButFirst p) first_part → Everywhere (IsProper p) first_part
first_whole p bare.Nil shaped all = tt
first_whole p (bare.Cons (bare.Declare name (Some e)) bare.Nil) shaped all = (all.0, tt, tt)
first_whole p (bare.Cons (bare.Assign target e) bare.Nil) shaped all = (all.0, tt, tt)
first_whole p first_part shaped all = absurd shaped

step_whole : (p : bare.Program) (step : bare.Stmts) → ShapedStep step → Everywhere (ButFirst p) step → Everywhere (IsProper p) step
step_whole p bare.Nil shaped all = tt
step_whole p (bare.Cons (bare.Assign target e) bare.Nil) shaped all = (all.0, tt, tt)
step_whole p step shaped all = absurd shaped

whole : (p : bare.Program) (k : Kind) (ss : bare.Stmts) → ShapedStmts k ss → Everywhere (ButFirst p) ss → Everywhere (IsProper p) ss
whole p k bare.Nil shaped all = tt
whole p k (bare.Cons (bare.For first_part test step body) rest) shaped all = (
  (begins_for p first_part shaped.0.0 all.1.0, all.0),
  (first_whole p first_part shaped.0.0 all.1.0, step_whole p step shaped.0.2 all.1.1, whole p k body shaped.0.3 all.1.2),
  whole p k rest shaped.1 all.2,
)
whole p k (bare.Cons (bare.If test a b) rest) shaped all = (all.0, (whole p k a shaped.0.1 all.1.0, whole p k b shaped.0.2 all.1.1), whole p k rest shaped.1 all.2)
whole p k (bare.Cons (bare.While test body) rest) shaped all = (all.0, whole p k body shaped.0.1 all.1, whole p k rest shaped.1 all.2)
whole p k (bare.Cons (bare.TryLock place a b) rest) shaped all = (all.0, (whole p k a shaped.0.1 all.1.0, whole p k b shaped.0.2 all.1.1), whole p k rest shaped.1 all.2)
whole p k (bare.Cons s rest) shaped all = (all.0, all.1, whole p k rest shaped.1 all.2)

all_of : {X : Type 0} (P : X → Type 0) (xs : List X) (x : X) → All P xs → Contains xs x → P x
all_of P xs x all at = subst P at.2 (all at.0 x at.1)

-- ---- what the rules give

module _ (p : Program) (mode : Mode) (formed : Formed p mode) (shaped : ShapedProgram (bare_program p)) where
  facts : Regular p
  facts = regular p mode formed

  abbrev IsOf : ℕ × Function → Type 0
  IsOf f = In f (enumerate_from 0 p.functions)

  listed : (f : ℕ × Function) → IsOf f → Listed p f
  listed f at = contains_of (enumerate_from 0 p.functions) f at

  of_listed : (f : ℕ × Function) → Listed p f → IsOf f
  of_listed f at = in_of (enumerate_from 0 p.functions) f at

  shape : (f : ℕ × Function) → IsOf f → ShapedFunction (bare_function f.1)
  shape f at = all_of ShapedFunction (map bare_function p.functions) (bare_function f.1) shaped.functions
      (contains_of (map bare_function p.functions) (bare_function f.1) (in_map bare_function p.functions f.1 (in_functions 0 p.functions f at)))

  kind_of_main : (f : ℕ × Function) → IsOf f → f.1.name ≡ main_name → f.1.kind ≡ kind.Main
  kind_of_main f at same = main_kind f.1.kind f.1.name f.1.params (shape f at).0 same

  has_function : (f : ℕ × Function) (name : List ℕ) → Listed p f → f.1.name ≡ name → HasFunction (bare_program p) name
  has_function f name at named = (bare_function f.1, subst (λ n. function_named (bare_program p) n ≡ Some (bare_function f.1)) named (facts.found f at))

  -- ---- each statement of a function

  module _ (f : ℕ × Function) (at : IsOf f) where
    everywhere : (P : bare.Stmt → Type 0) → ((x : Site) → In x (sites_in f) → P (bare_stmt x.stmt)) → Everywhere P (bare_stmts f.1.body)
    everywhere P all = everywhere_from P f [] f.1.params f.1.body all

    at_site : (P : bare.Stmt → Type 0) → Everywhere P (bare_stmts f.1.body) → (x : Site) → In x (sites_in f) → P (bare_stmt x.stmt)
    at_site P all x here = each_from P f [] f.1.params f.1.body all x here

    starts : (x : Site) → In x (sites_in f) → StartsWell p f (bare_stmt x.stmt)
    starts = at_site (StartsWell p f) (facts.starts f (listed f at))

    calls : (x : Site) → In x (sites_in f) → CallsAbove p f.0 (bare_stmt x.stmt)
    calls = at_site (CallsAbove p f.0) (facts.calls f (listed f at))

    names_others : (s : bare.Stmt) → CallsAbove p f.0 s → StartsWell p f s → NamesOthers s
    names_others (bare.Call target name args) callee start = λ same.
        let is_main_so = kind_of_main (callee.place, callee.function) (of_listed (callee.place, callee.function) callee.listed) (callee.named ∙ same) in
        elim callee.kind [
          | inl k ↦ let clash : kind.Int ≡ kind.Main = sym k ∙ is_main_so in cc clash
          | inr k ↦ let clash : kind.Void ≡ kind.Main = sym k.0 ∙ is_main_so in cc clash
        ]
    names_others (bare.Create slot name arg) callee start = λ same.
        let begins = start.1.starts in
        let is_main_so = kind_of_main (begins.place, begins.function) (of_listed (begins.place, begins.function) begins.listed) (begins.named ∙ same) in
        let clash : kind.Thread ≡ kind.Main = sym begins.kind ∙ is_main_so in cc clash
    names_others s callee start = tt

    all_names_others : Everywhere NamesOthers (bare_stmts f.1.body)
    all_names_others = everywhere NamesOthers (λ x here. names_others (bare_stmt x.stmt) (calls x here) (starts x here))

    -- another function creates nothing
    creates_none : (f.1.name ≢ main_name) → (s : bare.Stmt) → StartsWell p f s → CreatesNone s
    creates_none other (bare.Create slot name arg) start = other ((bytes_eq-Decides f.1.name main_name).0 start.0)
    creates_none other s start = tt

    all_create_none : (f.1.name ≢ main_name) → Everywhere CreatesNone (bare_stmts f.1.body)
    all_create_none other = everywhere CreatesNone (λ x here. creates_none other (bare_stmt x.stmt) (starts x here))

    -- main's own list is the one of the meaning
    body_of_main : is_main f.1 ≡ true → creations (bare_program p) ≡ creations_of (bare_stmts f.1.body)
    body_of_main is =
        let main = facts.main in
        let same = facts.names f.0 main.place f.1 main.function (listed f at) main.listed ((bytes_eq-Decides f.1.name main_name).0 is ∙ sym main.named) in
        ap creations_of (main.body ∙ ap (λ (g : Function). bare_stmts g.body) (sym same.1))

    other_joins : is_main f.1 ≡ false → (s : bare.Stmt) → StartsWell p f s → JoinsThread (bare_program p) s
    other_joins other (bare.Join slot) start = absurd (cc (other, start))
    other_joins other s start = tt

    joins : (x : Site) → In x (sites_in f) → JoinsThread (bare_program p) (bare_stmt x.stmt)
    joins x here = ⊎_elim
        (λ is. at_site (JoinsThread (bare_program p)) (main_joins (bare_program p) f.1.body (facts.own f (listed f at)) (facts.behind f (listed f at)) (body_of_main is)) x here)
        (λ other. other_joins other (bare_stmt x.stmt) (starts x here))
        (cases_Bool (is_main f.1))

    mutex : (place : Place) → NamesObject (bare_program p).mutexes place → ElementsOfValue (bare_program p).arrays place.index → IsObject (bare_program p) (bare_program p).mutexes place
    mutex place o reads = record {
      object = o.object;
      named = find_mutex p facts.apart o.object place.name (in_of (map bare_object p.mutexes) o.object o.listed) o.named;
      indexed = o.indexed;
      reads = reads;
    }

    condition : (place : Place) → NamesObject (bare_program p).conds place → ElementsOfValue (bare_program p).arrays place.index → IsObject (bare_program p) (bare_program p).conds place
    condition place o reads = record {
      object = o.object;
      named = find_condition p facts.apart o.object place.name (in_of (map bare_object p.conds) o.object o.listed) o.named;
      indexed = o.indexed;
      reads = reads;
    }

    but_first : (s : bare.Stmt) → ElementsFit (bare_program p).arrays s → CallsAbove p f.0 s → PlacesFit (bare_program p) s → WithinMonitors (length p.monitors) s
        → StartsWell p f s → JoinsThread (bare_program p) s → ButFirst (bare_program p) s
    but_first (bare.Declare name e) elements callee places within start join = elements
    but_first (bare.Assign target e) elements callee places within start join = elements
    but_first (bare.Call target name args) elements callee places within start join = (elements.0, has_function (callee.place, callee.function) name callee.listed callee.named, elements.1)
    but_first (bare.If test a b) elements callee places within start join = elements
    but_first (bare.While test body) elements callee places within start join = elements
    but_first (bare.For first_part test step body) elements callee places within start join = elements
    but_first (bare.Return e) elements callee places within start join = elements
    but_first (bare.Read target) elements callee places within start join = elements
    but_first (bare.Print format args) elements callee places within start join = elements
    but_first (bare.Create slot name arg) elements callee places within start join =
        let begins = start.1.starts in (has_function (begins.place, begins.function) name begins.listed begins.named, (begins.value, begins.argument))
    but_first (bare.Join slot) elements callee places within start join = join
    but_first (bare.InitMutex place) elements callee places within start join = mutex place places elements
    but_first (bare.InitCond place) elements callee places within start join = condition place places elements
    but_first (bare.Lock place) elements callee places within start join = mutex place places elements
    but_first (bare.TryLock place a b) elements callee places within start join = mutex place places elements
    but_first (bare.Unlock place) elements callee places within start join = mutex place places elements
    but_first (bare.Wait cond place takes) elements callee places within start join = (condition cond places.0 elements.0, mutex place places.1 elements.1, within)
    but_first (bare.Signal cond) elements callee places within start join = condition cond places elements
    but_first (bare.Broadcast cond) elements callee places within start join = condition cond places elements
    but_first (bare.Take monitor) elements callee places within start join = within
    but_first (bare.Give monitor) elements callee places within start join = within

    all_proper : Everywhere (IsProper (bare_program p)) (bare_stmts f.1.body)
    all_proper = whole (bare_program p) f.1.kind (bare_stmts f.1.body) (shape f at).1 (everywhere (ButFirst (bare_program p)) (λ x here. but_first (bare_stmt x.stmt)
        (at_site (ElementsFit (bare_program p).arrays) (facts.elements f (listed f at)) x here) (calls x here)
        (at_site (PlacesFit (bare_program p)) (facts.places f (listed f at)) x here) (at_site (WithinMonitors (length p.monitors)) (facts.monitors f (listed f at)) x here)
        (starts x here) (joins x here)))

  -- ---- all functions

  of_body : (P : bare.Stmt → Type 0) (name : List ℕ) (g : bare.Function) → function_named (bare_program p) name ≡ Some g
      → ((f : ℕ × Function) → IsOf f → f.1.name ≡ name → Everywhere P (bare_stmts f.1.body)) → Everywhere P g.body
  of_body P name g e all =
      let found = found_listed p name g e in
      let f : ℕ × Function = (found.place, found.function) in
      subst (λ (b : bare.Function). Everywhere P b.body) found.is (all f (of_listed f found.listed) found.named)

  creates_in_main : CreatesInMain (bare_program p)
  creates_in_main = record {
    own = let main = facts.main in subst CreatesItself (sym main.body) (creates_itself main.function.body (facts.own (main.place, main.function) main.listed));
    others = λ name g e other. of_body CreatesNone name g e (λ f at named. all_create_none f at (λ same. other (sym named ∙ same)));
    named = λ name g e. of_body NamesOthers name g e (λ f at named. all_names_others f at);
    slots = λ k c there. (facts.created k c there).thread;
  }

  is_proper : IsProperProgram (bare_program p)
  is_proper = record {
    statements = record { bodies = λ name g e. of_body (IsProper (bare_program p)) name g e (λ f at named. all_proper f at); loops = λ first_part step body test h. h.1 };
    creates = creates_in_main;
  }

pub formed_is_proper : FormedIsProper
formed_is_proper p mode formed shaped = is_proper p mode formed shaped
