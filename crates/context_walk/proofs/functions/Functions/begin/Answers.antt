use Rattle.std.proofs.Common.{◌≡◌, sym, ◌∙◌, subst}
use Rattle.std.proofs.lemmas.Result.{on_ok_weaker, IfErr-weaker}
use Rattle.std.specs.Prelude.{slice_get, Some}
use Rattle.c_tree.specs.Lined.{Function}
use Rattle.context_walk.specs.Found.{contexts_of, Finds, IsRefusal}
use Rattle.context_walk.specs.Places.{entered_at}
use Rattle.context_walk.specs.Prepared.{program_in}
use Rattle.context_walk.specs.Starts.{all_above}
use Rattle.context_walk.proofs.Beginning.{BeginsAt, begins_at, named_somewhere}
use Rattle.context_walk.proofs.Walking.{refused_same}
use Rattle.context_walk.proofs.functions.Functions.begin.Goals as goal

pub enter-requires : goal.enter-requires
enter-requires c = record {
  prepared = c.requires.prepared;
  within = (begins_at c.args.self.now c.requires.prepared c.args.name.now c.in-Some.k (sym c.place.ensures ∙ c.in-Some.is)).within;
}

pub returns-clause-found : goal.returns-clause-found
returns-clause-found c = on_ok_weaker c.enter.result (λ finds.
    let there : BeginsAt c.args.self.now c.args.name.now c.in-Some.k = begins_at c.args.self.now c.requires.prepared c.args.name.now c.in-Some.k (sym c.place.ensures ∙ c.in-Some.is) in
    subst (λ w. Finds w c.args.found.now c.enter.new.found) (sym (there.enters c.args.args.now (contexts_of c.args.found.now))) (finds there.f there.at)) c.enter.ensures.found

pub returns-clause-refused : goal.returns-clause-refused
returns-clause-refused c = IfErr-weaker c.enter.result
    (λ e. (f : Function) → slice_get (program_in c.args.self.now).functions c.in-Some.k ≡ Some f → IsRefusal e (entered_at (program_in c.args.self.now) c.in-Some.k f c.args.args.now (contexts_of c.args.found.now)))
    (λ e. IsRefusal e ((all_above (program_in c.args.self.now)).enter c.args.name.now c.args.args.now (contexts_of c.args.found.now)))
    (λ e refused.
    let there : BeginsAt c.args.self.now c.args.name.now c.in-Some.k = begins_at c.args.self.now c.requires.prepared c.args.name.now c.in-Some.k (sym c.place.ensures ∙ c.in-Some.is) in
    refused_same e ((all_above (program_in c.args.self.now)).enter c.args.name.now c.args.args.now (contexts_of c.args.found.now))
    (entered_at (program_in c.args.self.now) c.in-Some.k there.f c.args.args.now (contexts_of c.args.found.now))
    (there.enters c.args.args.now (contexts_of c.args.found.now)) (refused there.f there.at)) c.enter.ensures.refused

pub unreachable-requires : goal.unreachable-requires
unreachable-requires c = named_somewhere c.args.self.now c.requires.prepared c.args.name.now c.requires.named (sym c.place.ensures ∙ c.in-None.is)
