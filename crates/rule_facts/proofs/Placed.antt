-- The places of each statement name objects of their kinds.
use Rattle.std.proofs.Common.{Bool, List, ap, cond, inl, refl, subst, sym, true, ℕ, ◌++◌, ◌∙◌, ◌∷◌, ◌≡◌}
use Rattle.std.specs.Prelude.{Some, is_some, map, unwrap_or}
use Rattle.std.specs.List.{enumerate_from, list_any}
use Rattle.std.specs.declared.option.Option.{Option}
use Rattle.c_tree.specs.declared.program.Mode.{Mode}
use Rattle.c_tree.specs.Lined.{Broadcast, Create, Function, InitCond, InitMutex, Join, Lock, Program, Signal, Stmt, TryLock, Unlock, Wait, bare_object, bare_program, bare_slot, bare_stmt}
use Rattle.c_tree.specs.Expressions.{Place}
use Rattle.c_rules.specs.declared.rule.Rule.TheVariants as rule
use Rattle.c_rules.specs.Sites.{Site, is_main, sites, sites_in}
use Rattle.c_rules.specs.Threads.{creates_in, is_fixed, is_fixed_index, joins_in, thread_len}
use Rattle.c_rules.specs.Formed.{KeepsRules}
use Rattle.c_rules.specs.declared.role.Role.{Role}
use Rattle.c_rules.specs.declared.role.Role.TheVariants.{OfCondition, OfMutex, OfThread, Start}
use Rattle.c_rules.specs.Declarations.{Thing, named}
use Rattle.c_rules.specs.Declarations as thing
use Rattle.c_rules.specs.Uses.{Use, fits, is_indexed_so, of_expr, of_place, of_value, plain, uses_of}
use Rattle.c_rules.specs.Meaning.{meaning}
use Rattle.c_rules.proofs.Members.{In, contains_of, in_append_right, in_flat_map}
use Rattle.rule_facts.proofs.Fixed.{taken}
use Rattle.rule_facts.proofs.Fixing.{and_parts, create_free, join_free, not_or, not_or_more}
use Rattle.rule_facts.proofs.Meant.{use_meant}
use Rattle.rule_facts.proofs.Objects.{condition_meant, mutex_meant, slot_meant}
use Rattle.rule_facts.specs.Statements.{NamesObject, NamesSlot, PlacesFit}

fits_mutex : (th : Thing) (indexed : Bool) → fits th OfMutex indexed ≡ true → (len : Option ℕ) × (th ≡ thing.Mutex len) × (is_indexed_so len indexed ≡ true)
fits_mutex (thing.Mutex len) indexed e = (len, refl, e)
fits_mutex th indexed e = absurd (cc e)

fits_condition : (th : Thing) (indexed : Bool) → fits th OfCondition indexed ≡ true → (len : Option ℕ) × (th ≡ thing.Condition len) × (is_indexed_so len indexed ≡ true)
fits_condition (thing.Condition len) indexed e = (len, refl, e)
fits_condition th indexed e = absurd (cc e)

fits_slot : (th : Thing) (indexed : Bool) → fits th OfThread indexed ≡ true → (len : Option ℕ) × (th ≡ thing.Thread len) × (is_indexed_so len indexed ≡ true)
fits_slot (thing.Thread len) indexed e = (len, refl, e)
fits_slot th indexed e = absurd (cc e)

abbrev place_use : Role → Place → Use
place_use role place = record { name = place.name; role = role; indexed = is_some place.index }

-- a place that is used as a mutex, a condition or a thread
as_mutex : (p : Program) (mode : Mode) → KeepsRules p mode → (x : Site) → In x (sites p) → (place : Place) → In (place_use OfMutex place) (uses_of x.stmt) → NamesObject (map bare_object p.mutexes) place
as_mutex p mode keeps x at place of =
    let m = use_meant p (keeps rule.Unknown) (keeps rule.WrongKind) x (place_use OfMutex place) at of in
    let th = fits_mutex m.thing (is_some place.index) m.fit in
    let o = mutex_meant p x place.name th.0 (m.meant ∙ ap (λ t. Some t) th.1) in
    record { object = o.object; listed = contains_of (map bare_object p.mutexes) o.object o.listed; named = o.named; indexed = ap (λ l. is_indexed_so l (is_some place.index)) o.long ∙ th.2 }

as_condition : (p : Program) (mode : Mode) → KeepsRules p mode → (x : Site) → In x (sites p) → (place : Place) → In (place_use OfCondition place) (uses_of x.stmt) → NamesObject (map bare_object p.conds) place
as_condition p mode keeps x at place of =
    let m = use_meant p (keeps rule.Unknown) (keeps rule.WrongKind) x (place_use OfCondition place) at of in
    let th = fits_condition m.thing (is_some place.index) m.fit in
    let o = condition_meant p x place.name th.0 (m.meant ∙ ap (λ t. Some t) th.1) in
    record { object = o.object; listed = contains_of (map bare_object p.conds) o.object o.listed; named = o.named; indexed = ap (λ l. is_indexed_so l (is_some place.index)) o.long ∙ th.2 }

as_slot : (p : Program) (mode : Mode) → KeepsRules p mode → (x : Site) → In x (sites p) → (place : Place) → In (place_use OfThread place) (uses_of x.stmt) → is_fixed p x place ≡ true → NamesSlot (map bare_slot p.threads) place
as_slot p mode keeps x at place of is =
    let m = use_meant p (keeps rule.Unknown) (keeps rule.WrongKind) x (place_use OfThread place) at of in
    let th = fits_slot m.thing (is_some place.index) m.fit in
    let meant : meaning p x place.name ≡ Some (thing.Thread th.0) = m.meant ∙ ap (λ t. Some t) th.1 in
    let o = slot_meant p x place.name th.0 meant in
    let index = (and_parts (is_main x.function) x.own (is_fixed_index (thread_len (meaning p x place.name)) place.index) is).2 in
    record {
      slot = o.slot;
      listed = contains_of (map bare_slot p.threads) o.slot o.listed;
      named = o.named;
      indexed = ap (λ l. is_indexed_so l (is_some place.index)) o.long ∙ th.2;
      fixed = ap (λ l. is_fixed_index (unwrap_or l 0) place.index) o.long ∙ (ap (λ t. is_fixed_index (thread_len t) place.index) (sym meant) ∙ index);
    }

first_of : (u : Use) (us : List Use) (s : Stmt) (x : Site) → x.stmt ≡ s → uses_of s ≡ u ∷ us → In u (uses_of x.stmt)
first_of u us s x is e = subst (λ t. In u (uses_of t)) (sym is) (subst (In u) (sym e) (inl refl))

pub places_well : (p : Program) (mode : Mode) → KeepsRules p mode → (f : ℕ × Function) (x : Site) → In f (enumerate_from 0 p.functions) → In x (sites_in f) → PlacesFit (bare_program p) (bare_stmt x.stmt)
places_well p mode keeps f x at here = go x.stmt refl
  where
    in_p : In x (sites p)
    in_p = in_flat_map sites_in (enumerate_from 0 p.functions) f x at here

    mutex : (s : Stmt) → x.stmt ≡ s → (place : Place) → uses_of s ≡ of_place OfMutex place → NamesObject (map bare_object p.mutexes) place
    mutex s is place e = as_mutex p mode keeps x in_p place (first_of (place_use OfMutex place) (of_value place.index) s x is e)

    condition : (s : Stmt) → x.stmt ≡ s → (place : Place) → uses_of s ≡ of_place OfCondition place → NamesObject (map bare_object p.conds) place
    condition s is place e = as_condition p mode keeps x in_p place (first_of (place_use OfCondition place) (of_value place.index) s x is e)

    go : (s : Stmt) → x.stmt ≡ s → PlacesFit (bare_program p) (bare_stmt s)
    go (Create line place name arg) is =
        as_slot p mode keeps x in_p place (first_of (place_use OfThread place) (of_value place.index ++ plain Start name ∷ of_expr arg) (Create line place name arg) x is refl)
        (not_or (is_fixed p x place) (list_any (creates_in place) x.before) (create_free p mode keeps x in_p line place name arg is)).0
    go (Join line place) is =
        as_slot p mode keeps x in_p place (first_of (place_use OfThread place) (of_value place.index) (Join line place) x is refl)
        (not_or_more (is_fixed p x place) (list_any (creates_in place) x.before) (list_any (joins_in place) x.before) (join_free p mode keeps x in_p line place is))
    go (InitMutex line place) is = mutex (InitMutex line place) is place refl
    go (InitCond line place) is = condition (InitCond line place) is place refl
    go (Lock line place) is = mutex (Lock line place) is place refl
    go (TryLock line place taken busy) is = mutex (TryLock line place taken busy) is place refl
    go (Unlock line place) is = mutex (Unlock line place) is place refl
    go (Wait line cond mutex takes) is = (
      as_condition p mode keeps x in_p cond (first_of (place_use OfCondition cond) (of_value cond.index ++ of_place OfMutex mutex) (Wait line cond mutex takes) x is refl),
      as_mutex p mode keeps x in_p mutex (subst (λ s. In (place_use OfMutex mutex) (uses_of s)) (sym is) (in_append_right (of_place OfCondition cond) (of_place OfMutex mutex) (place_use OfMutex mutex) (inl refl))),
    )
    go (Signal line cond) is = condition (Signal line cond) is cond refl
    go (Broadcast line cond) is = condition (Broadcast line cond) is cond refl
    go s is = tt
