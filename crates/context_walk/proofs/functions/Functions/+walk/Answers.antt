use Rattle.std.proofs.Common.{◌≡◌, ◌<◌, ◌≤◌, ◌∷◌, ◌++◌, ℕ, Bool, true, false, length, refl, sym, ap, subst, ◌∙◌, Some, arith}
use Rattle.std.specs.Prelude.{All, nat_lt, not, slice_get}
use denote.Ref.{Bor}
use Rattle.std.proofs.lemmas.List.Elements.{All-get_or}
use Rattle.std.proofs.lemmas.Option.{slice_get_read}
use Rattle.std.proofs.lemmas.Result.{on_ok_weaker, IfErr-weaker}
use Rattle.c_tree.specs.Expressions.{exprs_of, value_of}
use Rattle.c_tree.specs.Lined.{Function, Program, bare_program, function_of}
use Rattle.contexts.specs.Constants.{among}
use Rattle.contexts.specs.Resolved.{passed, writes_of}
use Rattle.contexts.proofs.Names.{in_first}
use Rattle.context_locals.specs.declared.names.ConstantNames.{ConstantNames}
use Rattle.context_locals.specs.Known.{known_of, outers_of}
use Rattle.context_walk.specs.declared.functions.Prepared.{Prepared}
use Rattle.context_walk.specs.declared.steps.Step.{Step}
use Rattle.context_walk.specs.declared.steps.Step.TheVariants as step
use Rattle.context_walk.specs.Found.{contexts_of, IsRefusal}
use Rattle.context_walk.specs.Places.{entered_at, items_of, scene_at, writes_at}
use Rattle.context_walk.specs.Prepared.{program_in, IsPrepared}
use Rattle.context_walk.specs.Steps.{declared_in, shown_step, shown_steps, IsStep, NamesFit}
use Rattle.context_walk.specs.Walking.{along, Continues}
use Rattle.context_walk.proofs.Preparing.{same_some}
use Rattle.context_walk.proofs.Walking.{begins, callee_above, declares, enters, found_later, mapped_here, not_entered, passes, refused_later, writes_here}
use Rattle.context_walk.proofs.functions.Functions.+walk.Goals as goal

-- ---- a function

pub enter-walk_steps-requires : goal.enter-walk_steps-requires
enter-walk_steps-requires t c =
    let p : Program = program_in c.args.self.now in
    let k : ℕ = c.args.k in
    let here : Prepared = c.index-here.result.now in
    let within : k < length c.args.self.now.functions.items = c.requires.within in
    let ready : IsPrepared p k here = c.requires.prepared.so_far.each k here (slice_get_read c.args.self.now.functions.items (length c.args.self.now.functions.items) k here refl within c.index-here.ensures) in
    let names : here.names ≡ c.in_ok-known.known.names.now = sym c.in_ok-known.ensures.names in
    let steps : here.steps.items ≡ c.as_slice-2.result.now = sym c.as_slice-2.ensures.value in
    let writes : writes_of (bare_program p) (function_of here.function.now) ≡ writes_at p k = sym (writes_here p k (function_of here.function.now) ready.function) in
    let fit : All (NamesFit (writes_at p k) here.names) (shown_steps here.steps.items) =
    subst (λ ws. All (NamesFit ws here.names) (shown_steps here.steps.items)) writes
    (subst (All (NamesFit (writes_of (bare_program p) (function_of here.function.now)) here.names)) (sym ready.items) ready.declares) in (
      omega arith,
      (
        c.requires.prepared,
        (
          c.requires.within,
          (
            subst (λ ns. All (IsStep p k ns) c.as_slice-2.result.now) names (subst (All (IsStep p k here.names)) steps ready.steps),
            (
              subst (λ ns. All (NamesFit (writes_at p k) ns) (shown_steps c.as_slice-2.result.now)) names (subst (λ ss. All (NamesFit (writes_at p k) here.names) (shown_steps ss)) steps fit),
              c.in_ok-known.ensures.kept,
            ),
          ),
        ),
      ),
    )

begun : (t : ℕ) (c : goal.enter-After-drop-known-2 t) (f : Function) → slice_get (program_in c.args.self.now).functions c.args.k ≡ Some f
    → Continues (entered_at (program_in c.args.self.now) c.args.k f c.args.args.now (contexts_of c.args.found.now))
    (along (program_in c.args.self.now) c.args.k c.in_ok-known.known (shown_steps c.as_slice-2.result.now) c.begin.new.self) c.args.found.now c.begin.new.self
begun t c f at =
    let p : Program = program_in c.args.self.now in
    let k : ℕ = c.args.k in
    let here : Prepared = c.index-here.result.now in
    let within : k < length c.args.self.now.functions.items = c.requires.within in
    let ready : IsPrepared p k here = c.requires.prepared.so_far.each k here (slice_get_read c.args.self.now.functions.items (length c.args.self.now.functions.items) k here refl within c.index-here.ensures) in
    let same : function_of here.function.now ≡ f = same_some (slice_get p.functions k) (function_of here.function.now) f ready.function at in
    let room : not (nat_lt (length (contexts_of c.args.found.now)) 256) ≡ false = sym c.is_full.ensures ∙ c.if-is_full.false in
    begins p k f at (known_of c.in_ok-known.known) (outers_of c.in_ok-known.known) (shown_steps c.as_slice-2.result.now) c.args.args.now c.args.found.now c.begin.new.self
    (open_again (nat_lt (length (contexts_of c.args.found.now)) 256) room)
    c.in_ok-begin.ensures.marks c.in_ok-begin.ensures.contexts
    (c.in_ok-known.ensures.known (writes_of (bare_program p) (function_of here.function.now)) (here.function.now.params ++ declared_in (items_of (function_of here.function.now))) ready.names
    (λ q e. in_first q here.function.now.params (declared_in (items_of (function_of here.function.now))) (ap (λ names. among names q) (sym c.as_slice.ensures) ∙ e))
    ∙ ap (λ names. passed (writes_of (bare_program p) (function_of here.function.now)) names c.args.args.now) c.as_slice.ensures
    ∙ ap (λ (g : Function). passed (writes_of (bare_program p) g) g.params c.args.args.now) same)
    c.in_ok-known.ensures.outer
    (ap shown_steps c.as_slice-2.ensures.value ∙ ready.items ∙ ap items_of same)
  where
    open_again : (b : Bool) → not b ≡ false → b ≡ true
    open_again true e = refl
    open_again false e = absurd (cc e)

pub enter-returns-clause-found : goal.enter-returns-clause-found
enter-returns-clause-found t c = on_ok_weaker c.walk_steps.result (λ finds f at.
    found_later (entered_at (program_in c.args.self.now) c.args.k f c.args.args.now (contexts_of c.args.found.now))
    (along (program_in c.args.self.now) c.args.k c.in_ok-known.known (shown_steps c.as_slice-2.result.now) c.begin.new.self)
    c.args.found.now c.begin.new.self c.walk_steps.new.found (begun t c f at) finds) c.walk_steps.ensures.found

pub enter-returns-clause-refused : goal.enter-returns-clause-refused
enter-returns-clause-refused t c = IfErr-weaker c.walk_steps.result
    (λ e. IsRefusal e (along (program_in c.args.self.now) c.args.k c.in_ok-known.known (shown_steps c.as_slice-2.result.now) c.begin.new.self))
    (λ e. (f : Function) → slice_get (program_in c.args.self.now).functions c.args.k ≡ Some f → IsRefusal e (entered_at (program_in c.args.self.now) c.args.k f c.args.args.now (contexts_of c.args.found.now)))
    (λ e refused f at.
    refused_later e (entered_at (program_in c.args.self.now) c.args.k f c.args.args.now (contexts_of c.args.found.now))
    (along (program_in c.args.self.now) c.args.k c.in_ok-known.known (shown_steps c.as_slice-2.result.now) c.begin.new.self)
    c.args.found.now c.begin.new.self (begun t c f at) refused) c.walk_steps.ensures.refused

-- ---- a step

pub walk_step-call-requires : goal.walk_step-call-requires
walk_step-call-requires t c =
    let p : Program = program_in c.args.self.now in
    let here : IsStep p c.args.k c.args.known.now.names.now (step.Calls c.in-Calls.name c.in-Calls.args c.in-Calls.callee) = subst (IsStep p c.args.k c.args.known.now.names.now) c.in-Calls.is c.requires.step in
    let within : c.args.k ≤ length p.functions = omega (arith, c.requires.within, c.requires.prepared.all) in
    let above : c.in-Some.callee < c.args.k = callee_above p c.args.k within c.in-Calls.name.now c.in-Some.callee (sym c.in-Some.is ∙ here.0) in
    (omega arith, (c.requires.prepared, (c.requires.within, (above, here.1))))

pub walk_step-returns-in_ok-declare-in-Declares-clause-found : goal.walk_step-returns-in_ok-declare-in-Declares-clause-found
walk_step-returns-in_ok-declare-in-Declares-clause-found t c = λ more.
    let p : Program = program_in c.args.self.now in
    let names : ConstantNames = c.args.known.now.names.now in
    let d : Step = step.Declares c.in-Declares.name c.in-Declares.value c.in-Declares.local c.in-Declares.operand in
    let here : IsStep p c.args.k names d = subst (IsStep p c.args.k names) c.in-Declares.is c.requires.step in
    let fit : NamesFit (writes_at p c.args.k) names (shown_step d) = subst (λ s. NamesFit (writes_at p c.args.k) names (shown_step s)) c.in-Declares.is c.requires.declares in
    subst (λ s. Continues (along p c.args.k c.args.known.now (shown_step s ∷ more) c.args.found.now) (along p c.args.k c.declare.new.known more c.args.found.now) c.args.found.now c.args.found.now)
    (sym c.in-Declares.is)
    (declares (scene_at p c.args.k) (known_of c.args.known.now) (known_of c.declare.new.known) (outers_of c.args.known.now) (outers_of c.declare.new.known) more c.args.found.now
    c.in-Declares.name.now (value_of c.in-Declares.value.now)
    (c.in_ok-declare-in-Declares.ensures.known (writes_at p c.args.k) c.in-Declares.name.now (value_of c.in-Declares.value.now) here.0 here.1 fit)
    c.in_ok-declare-in-Declares.ensures.outer)

pub walk_step-returns-in-Some-clause-found : goal.walk_step-returns-in-Some-clause-found
walk_step-returns-in-Some-clause-found t c = on_ok_weaker c.call.result (λ finds more.
    let p : Program = program_in c.args.self.now in
    let here : IsStep p c.args.k c.args.known.now.names.now (step.Calls c.in-Calls.name c.in-Calls.args c.in-Calls.callee) = subst (IsStep p c.args.k c.args.known.now.names.now) c.in-Calls.is c.requires.step in
    let within : c.args.k ≤ length p.functions = omega (arith, c.requires.within, c.requires.prepared.all) in
    subst (λ s. Continues (along p c.args.k c.args.known.now (shown_step s ∷ more) c.args.found.now) (along p c.args.k c.args.known.now more c.call.new.found) c.args.found.now c.call.new.found)
    (sym c.in-Calls.is)
    (enters p c.args.k within (known_of c.args.known.now) (outers_of c.args.known.now) more c.in-Calls.name.now (exprs_of c.in-Calls.args.now) c.in-Some.callee (sym c.in-Some.is ∙ here.0)
    c.args.found.now c.call.new.found finds)) c.call.ensures.found

pub walk_step-returns-in-Some-clause-refused : goal.walk_step-returns-in-Some-clause-refused
walk_step-returns-in-Some-clause-refused t c = IfErr-weaker c.call.result _ _ (λ e refused more.
    let p : Program = program_in c.args.self.now in
    let here : IsStep p c.args.k c.args.known.now.names.now (step.Calls c.in-Calls.name c.in-Calls.args c.in-Calls.callee) = subst (IsStep p c.args.k c.args.known.now.names.now) c.in-Calls.is c.requires.step in
    let within : c.args.k ≤ length p.functions = omega (arith, c.requires.within, c.requires.prepared.all) in
    subst (λ s. IsRefusal e (along p c.args.k c.args.known.now (shown_step s ∷ more) c.args.found.now)) (sym c.in-Calls.is)
    (not_entered p c.args.k within (known_of c.args.known.now) (outers_of c.args.known.now) more c.in-Calls.name.now (exprs_of c.in-Calls.args.now) c.in-Some.callee (sym c.in-Some.is ∙ here.0)
    e (contexts_of c.args.found.now) refused)) c.call.ensures.refused

pub walk_step-returns-in-None-clause-found : goal.walk_step-returns-in-None-clause-found
walk_step-returns-in-None-clause-found t c = λ more.
    let p : Program = program_in c.args.self.now in
    let here : IsStep p c.args.k c.args.known.now.names.now (step.Calls c.in-Calls.name c.in-Calls.args c.in-Calls.callee) = subst (IsStep p c.args.k c.args.known.now.names.now) c.in-Calls.is c.requires.step in
    subst (λ s. Continues (along p c.args.k c.args.known.now (shown_step s ∷ more) c.args.found.now) (along p c.args.k c.args.known.now more c.args.found.now) c.args.found.now c.args.found.now)
    (sym c.in-Calls.is)
    (passes p c.args.k (known_of c.args.known.now) (outers_of c.args.known.now) more c.in-Calls.name.now (exprs_of c.in-Calls.args.now) c.args.found.now (sym c.in-None.is ∙ here.0))

-- ---- steps

pub walk_steps-walk_step-requires : goal.walk_steps-walk_step-requires
walk_steps-walk_step-requires t c =
    let p : Program = program_in c.args.self.now in
    let names : c.args.known.now.names.now ≡ c.loop-step.known.names.now = sym (ap (λ (b : Bor ConstantNames). b.now) c.loop-step.invariant.names) in (
      omega arith,
      (
        c.requires.prepared,
        (
          c.requires.within,
          (
            subst (λ ns. IsStep p c.args.k ns c.step-item.result) names (subst (IsStep p c.args.k c.args.known.now.names.now) (sym c.step-item.is) (All-get_or (IsStep p c.args.k c.args.known.now.names.now) c.args.steps.now c.loop-step.step-index c.step-item.result c.loop-step-test.true c.requires.steps)),
            (
              subst (λ ns. NamesFit (writes_at p c.args.k) ns (shown_step c.step-item.result)) names
                  (mapped_here (NamesFit (writes_at p c.args.k) c.args.known.now.names.now) shown_step c.args.steps.now c.loop-step.step-index c.step-item.result c.loop-step-test.true c.step-item.is c.requires.declares),
              c.loop-step.invariant.kept,
            ),
          ),
        ),
      ),
    )
