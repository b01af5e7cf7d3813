use Rattle.std.proofs.Common.{subst, List, ℕ}
use Rattle.c_tokens.specs.Sees.{SeesDefinition}
use Rattle.c_tokens.proofs.Seen.{sees_name, sees_text, sees_definition, sees_answer}
use Rattle.c_tokens.proofs.mark.what.Goals as goal

pub returns-in-Name : goal.returns-in-Name
returns-in-Name c = rw c.in-Name.is (sees_name c.args.text.now c.args.known.now c.args.span c.requires.some c.requires.within c.name.result c.name.ensures)

pub returns-in-Text : goal.returns-in-Text
returns-in-Text c = rw c.in-Text.is (sees_text c.args.text.now c.args.known.now c.args.span c.requires.some c.requires.within)

pub returns-in-Define : goal.returns-in-Define
returns-in-Define c = rw c.in-Define.is
    (sees_answer c.args.text.now c.args.known.now c.definition.new.known c.args.span _ c.definition.result _
    (λ what s. sees_definition c.args.text.now c.args.known.now c.args.span c.requires.some c.requires.within c.definition.new.known c.in-Define.name c.in-Define.value what
    (subst (λ (b : List ℕ). SeesDefinition c.args.known.now c.definition.new.known b c.in-Define.value what) c.piece.ensures s)) c.definition.ensures)
