use Rattle.std.proofs.Common.{◌≡◌, ◌<◌, [], map, sym, subst, ap, ◌∙◌}
use Rattle.std.proofs.lemmas.Result.{IfOk-weaker, IfErr-weaker}
use Rattle.c_tree.specs.declared.program.Program as declared
use Rattle.c_tree.specs.Lined.{Program, bare_program, program_of}
use Rattle.c_tree.specs.Numbering.{mutex_count, resource_count}
use Rattle.outline_pieces.specs.Pieces.{threads_pieces}
use Rattle.outline_pieces.specs.Taken.{HasTaken}
use Rattle.context_walk.specs.declared.functions.Functions.{Functions}
use Rattle.context_walk.specs.Found.{contexts_of, shown_mark}
use Rattle.context_walk.specs.Prepared.{count_in, program_in, ArePrepared}
use Rattle.context_walk.proofs.Fitting.{resources_few}
use Rattle.rule_facts.specs.Regular.{Regular}
use Rattle.rule_facts.proofs.Ruled.{regular}
use Rattle.flow_graph.specs.Left.{left_in}
use Rattle.flow_graph.proofs.Finding.{taken_all}
use Rattle.flow_graph.proofs.flow.flow_of.Goals as goal
use Rattle.flow_graph.proofs.flow.flow_of.Goals.{After-drop-functions-6}

pub resource_count-resources-requires : goal.resource_count-resources-requires
resource_count-resources-requires c = resources_few c.args.p.now c.requires.formed

pub threads-requires-clause-ready : goal.threads-requires-clause-ready
threads-requires-clause-ready c =
    let same : c.in_ok-routes.routes.functions.now ≡ c.in_ok-functions.functions = c.in_ok-routes.ensures.functions in
    record {
      prepared = subst ArePrepared (sym same) c.in_ok-functions.ensures.prepared;
      routes = c.in_ok-routes.ensures.routes;
      all = c.in_ok-routes.ensures.count ∙ ap count_in (sym same);
      mutexes = c.in_ok-routes.ensures.mutexes ∙ ap (λ (q : Functions). mutex_count (bare_program (program_in q))) (sym same);
      few = subst (λ (q : Functions). resource_count (bare_program (program_in q)) < 256) (sym same)
          (subst (λ (p : declared.Program). resource_count (bare_program (program_of p)) < 256) (sym c.in_ok-functions.ensures.program) (resources_few c.args.p.now c.requires.formed));
    }

pub threads-requires-clause-regular : goal.threads-requires-clause-regular
threads-requires-clause-regular c =
    subst (λ (q : Functions). Regular (program_in q)) (sym c.in_ok-routes.ensures.functions)
    (subst (λ (p : declared.Program). Regular (program_of p)) (sym c.in_ok-functions.ensures.program) (regular (program_of c.args.p.now) c.requires.formed.0 c.requires.formed.1))

taken : (c : After-drop-functions-6) → HasTaken (mutex_count (bare_program (program_of c.args.p.now))) (resource_count (bare_program (program_of c.args.p.now))) c.threads.new.builder (threads_pieces c.requires.contexts.threads)
taken c =
    let p : Program = program_of c.args.p.now in
    let q : Program = program_in c.in_ok-routes.routes.functions.now in
    let same : q ≡ p = ap program_in c.in_ok-routes.ensures.functions ∙ ap program_of c.in_ok-functions.ensures.program in
    let mutexes : c.in_ok-routes.routes.mutexes ≡ mutex_count (bare_program p) = c.in_ok-routes.ensures.mutexes ∙ ap (λ r. mutex_count (bare_program r)) (ap program_of c.in_ok-functions.ensures.program) in
    taken_all q p (left_in c.new-marks.result) c.requires.contexts.threads (contexts_of c.args.contexts.now) (mutex_count (bare_program p)) (resource_count (bare_program p)) c.new-builder.result c.threads.new.builder same c.requires.contexts.found
    (ap (map shown_mark) (c.new-marks.ensures ∙ c.as_slice.ensures.value) ∙ c.requires.contexts.marks)
    (subst (λ m. HasTaken m (resource_count (bare_program p)) c.new-builder.result []) mutexes (subst (λ n. HasTaken c.in_ok-routes.routes.mutexes n c.new-builder.result []) c.resource_count-resources.ensures c.new-builder.ensures))
    c.in_ok-threads.ensures

pub returns-clause-found : goal.returns-clause-found
returns-clause-found c = IfOk-weaker c.finish.result _ _ (λ flow is. record {
  threads = c.requires.contexts.threads;
  places = contexts_of c.args.contexts.now;
  found = c.requires.contexts.found;
  parts = is (mutex_count (bare_program (program_of c.args.p.now))) (resource_count (bare_program (program_of c.args.p.now))) c.requires.contexts.threads (taken c);
}) c.finish.ensures.found

pub returns-clause-refused : goal.returns-clause-refused
returns-clause-refused c = IfErr-weaker c.finish.result _ _ (λ e is. record {
  threads = c.requires.contexts.threads;
  places = contexts_of c.args.contexts.now;
  found = c.requires.contexts.found;
  error = is (mutex_count (bare_program (program_of c.args.p.now))) (resource_count (bare_program (program_of c.args.p.now))) c.requires.contexts.threads (taken c);
}) c.finish.ensures.refused
