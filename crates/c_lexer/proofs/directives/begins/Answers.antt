use Rattle.std.proofs.Common.{refl, ◌∙◌}
use Rattle.c_lexer.proofs.DirectivePieces.{bytes_read}
use Rattle.c_lexer.proofs.directives.begins.Goals as goal

pub returns-clause-yes : goal.returns-clause-yes
returns-clause-yes c = λ yes. record {
  within = c.starts_with.ensures.bound yes;
  reads = bytes_read c.args.bytes.now c.args.text.now ∙ rw (← c.starts_with.ensures.value, yes) refl;
}

pub returns-clause-no : goal.returns-clause-no
returns-clause-no c = λ no. bytes_read c.args.bytes.now c.args.text.now ∙ rw (← c.starts_with.ensures.value, no) refl
