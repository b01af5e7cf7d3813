use Rattle.std.proofs.Common.{◌≡◌, ℕ, List, [], sym, subst, ap, ◌∙◌, rules}
use Rattle.c_tree.specs.declared.program.Program as declared
use Rattle.c_tree.specs.Lined.{Program, program_of}
use Rattle.contexts.specs.Outlines.{outlines, starts}
use Rattle.rule_facts.specs.Regular.{Regular}
use Rattle.rule_facts.proofs.Ruled.{regular}
use Rattle.contexts.specs.Walk.{Found, then_walk}
use Rattle.context_items.specs.Flat.{flat_starts}
use Rattle.context_items.specs.Marks.{marks_of}
use Rattle.context_items.specs.Unshadowed.{IsUnshadowed}
use Rattle.context_items.proofs.FlatProgram.{marks_flat}
use Rattle.context_items.proofs.Scoped.{formed_unshadowed}
use Rattle.context_walk.specs.Found.{contexts_of, IsRefusal}
use Rattle.context_walk.specs.Prepared.{program_in}
use Rattle.context_walk.specs.Starts.{all_above, begins}
use Rattle.context_walk.proofs.Beginning.{not_outlined, outlined}
use Rattle.context_walk.proofs.starts.resolve.Goals as goal

pub begin_all-requires-clause-regular : goal.begin_all-requires-clause-regular
begin_all-requires-clause-regular c =
    subst (λ (p : declared.Program). Regular (program_of p)) (sym c.in_ok-functions.ensures.program) (regular (program_of c.args.p.now) c.requires.formed.0 c.requires.formed.1)

-- the walk along items finds what outlines do
along_items : (p q : Program) (n : List ℕ) → q ≡ p → n ≡ [] → IsUnshadowed p → flat_starts (all_above q) (starts q) n ≡ then_walk (outlines p) (λ es m. Found (marks_of es) m)
along_items p q n same none fit = ap (λ (r : Program). flat_starts (all_above r) (starts r) n) same ∙ ap (flat_starts (all_above p) (starts p)) none ∙ marks_flat p fit

pub returns-in_err-begin_all-clause-refused : goal.returns-in_err-begin_all-clause-refused
returns-in_err-begin_all-clause-refused c =
    let p : Program = program_of c.args.p.now in
    let q : Program = program_in c.in_ok-functions.functions in
    let refused : IsRefusal c.in_err-begin_all.field-0.0 (outlines p) =
    not_outlined c.in_err-begin_all.field-0.0 (outlines p) (begins q (starts q) c.new-found.result)
    (along_items p q (contexts_of c.new-found.result) (ap program_of c.in_ok-functions.ensures.program) c.new-found.ensures.contexts (formed_unshadowed p c.requires.formed.0 c.requires.formed.1 c.requires.shaped))
    c.in_err-begin_all.ensures.refused in
    search rules

pub returns-clause-found : goal.returns-clause-found
returns-clause-found c =
    let p : Program = program_of c.args.p.now in
    let q : Program = program_in c.in_ok-functions.functions in
    outlined (outlines p) (begins q (starts q) c.new-found.result) c.new-found.result c.begin_all.new.found
    (along_items p q (contexts_of c.new-found.result) (ap program_of c.in_ok-functions.ensures.program) c.new-found.ensures.contexts (formed_unshadowed p c.requires.formed.0 c.requires.formed.1 c.requires.shaped))
    c.new-found.ensures.marks c.in_ok-begin_all.ensures.found
