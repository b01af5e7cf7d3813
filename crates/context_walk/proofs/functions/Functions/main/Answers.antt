use Rattle.std.proofs.Common.{◌<◌, length, refl, sym, ◌∙◌, arith}
use Rattle.std.proofs.lemmas.Option.{slice_get_read}
use Rattle.c_tree.specs.Lined.{function_of}
use Rattle.c_tree.specs.Numbering.{main_name}
use Rattle.rule_facts.proofs.Behind.{regular_names}
use Rattle.context_walk.specs.Prepared.{count_in, program_in, IsPrepared}
use Rattle.context_walk.proofs.Beginning.{begins_at, body_small, main_at, named_somewhere}
use Rattle.context_walk.proofs.functions.Functions.main.Goals as goal

pub index-requires : goal.index-requires
index-requires c =
    let within : c.in-Some.k < count_in c.args.self.now = (begins_at c.args.self.now c.requires.prepared main_name c.in-Some.k (sym c.place.ensures ∙ c.in-Some.is)).within in
    omega arith

pub unreachable-requires : goal.unreachable-requires
unreachable-requires c =
    named_somewhere c.args.self.now c.requires.prepared main_name (regular_names (program_in c.args.self.now) c.requires.regular).main (sym c.place.ensures ∙ c.in-None.is)

prepared_main : (c : goal.After-index) → IsPrepared (program_in c.args.self.now) c.in-Some.k c.index.result.now
prepared_main c =
    let within : c.in-Some.k < count_in c.args.self.now = (begins_at c.args.self.now c.requires.prepared main_name c.in-Some.k (sym c.place.ensures ∙ c.in-Some.is)).within in
    c.requires.prepared.so_far.each c.in-Some.k c.index.result.now
    (slice_get_read c.args.self.now.functions.items (length c.args.self.now.functions.items) c.in-Some.k c.index.result.now refl within c.index.ensures)

pub returns-clause-body : goal.returns-clause-body
returns-clause-body c =
    main_at c.args.self.now c.requires.prepared c.requires.regular c.in-Some.k (function_of c.index.result.now.function.now) (sym c.place.ensures ∙ c.in-Some.is) (prepared_main c).function

pub returns-clause-small : goal.returns-clause-small
returns-clause-small c =
    body_small c.args.self.now.program.now.functions c.requires.small c.in-Some.k (function_of c.index.result.now.function.now) (prepared_main c).function
