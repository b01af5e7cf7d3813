use Rattle.command_words.specs.Tasks.{texts}
use Rattle.top_call.proofs.Ended.{where_told, explained}
use Rattle.top_call.proofs.One.{exact, complete, headline, one_answer}
use Rattle.top_call.proofs.top.gadara.Goals as goal

pub returns-clause-headline : goal.returns-clause-headline
returns-clause-headline g c = headline c.accepted_programs_are_safe.ensures _ _ _ _ (rw c.deref.ensures.value at c.perform.ensures.ends)

pub returns-clause-ends : goal.returns-clause-ends
returns-clause-ends g c = rw c.deref.ensures.value at c.perform.ensures.ends

pub returns-clause-causes : goal.returns-clause-causes
returns-clause-causes g c = explained _ _ _ _ (rw c.deref.ensures.value at c.perform.ensures.ends)

pub returns-clause-exact : goal.returns-clause-exact
returns-clause-exact g c = where_told _ _ (λ files told. exact c.one_answer.ensures.one _ _ _ files told _ (rw c.deref.ensures.value at c.perform.ensures.ends))

pub returns-clause-complete : goal.returns-clause-complete
returns-clause-complete g c = λ none. where_told _ _ (λ files told. complete c.one_answer.ensures.written _ _ _ files told none _ (rw c.deref.ensures.value at c.perform.ensures.ends))

pub returns-clause-one : goal.returns-clause-one
returns-clause-one g c = λ files. one_answer c.one_answer.ensures.some c.one_answer.ensures.one (texts c.args.words.now.items) files
