use Rattle.std.proofs.Common.{refl, subst, arith, List, ℕ, length, take, drop, Option, Ok}
use Rattle.c_lexer.specs.declared.token.Token.{Token}
use Rattle.c_lexer.specs.declared.token.Span.{Span}
use Rattle.c_lexer.specs.Tokens.{Next}
use Rattle.c_lexer.specs.Laws.{IsInside, SpanIn}
use Rattle.c_tokens.specs.Reader.{Stands}
use Rattle.c_tokens.proofs.Walk.{stands_first, stands_there, read_whole, read_refused, read_most}
use Rattle.c_tokens.proofs.reader.read_tokens.Goals as goal

pub loop-token-init : goal.loop-token-init
loop-token-init c = (stands_first c.args.text.now _ refl refl refl c.in_ok-known_words.ensures c.new.ensures.items, rw c.new.ensures.items (omega arith))

pub next_token-requires-clause-within : goal.next_token-requires-clause-within
next_token-requires-clause-within c = c.loop-token.invariant.0.within

pub step-requires-clause-fits : goal.step-requires-clause-fits
step-requires-clause-fits c = rw c.loop-token.invariant.0.same c.requires

pub step-requires-clause-stands : goal.step-requires-clause-stands
step-requires-clause-stands c = stands_there c.args.text.now c.loop-token.reader c.loop-token.invariant.0

-- what was found, as the match has it
pub step-requires-clause-next : goal.step-requires-clause-next
step-requires-clause-next c = rw c.loop-token.invariant.0.same (subst (λ (x : Option (Token × Span)). Next (take c.loop-token.reader.at c.args.text.now) (drop c.loop-token.reader.at c.args.text.now) (Ok x)) c.in-Ok-Some.field-0-is c.in-Ok-Some.ensures.found)

pub step-requires-clause-inside : goal.step-requires-clause-inside
step-requires-clause-inside c = rw c.loop-token.invariant.0.same (subst (λ (x : Option (Token × Span)). IsInside c.loop-token.reader.at (length c.args.text.now) (Ok x)) c.in-Ok-Some.field-0-is c.in-Ok-Some.ensures.inside)

pub loop-token-smaller : goal.loop-token-smaller
loop-token-smaller c =
    let inside : SpanIn c.loop-token.reader.at (length c.args.text.now) c.in-Ok-Some.span = (subst (λ (x : Option (Token × Span)). IsInside c.loop-token.reader.at (length c.args.text.now) (Ok x)) c.in-Ok-Some.field-0-is c.in-Ok-Some.ensures.inside).0 in
    omega (arith, inside.after, inside.some, inside.within, c.in_ok-step-in-Ok-Some.ensures.place)

pub loop-token-preserved : goal.loop-token-preserved
loop-token-preserved c = (
  subst (λ (t : List ℕ). Stands t c.step.new.reader) c.loop-token.invariant.0.same c.in_ok-step-in-Ok-Some.ensures.stands,
  omega (arith, c.in_ok-step-in-Ok-Some.ensures.more, c.loop-token-test.true, c.len.ensures),
)

pub returns-in-Ok-None : goal.returns-in-Ok-None
returns-in-Ok-None c = read_whole c.args.text.now c.loop-token.reader c.loop-token.invariant.0 c.loop-token.invariant.1 (subst (λ (x : Option (Token × Span)). Next (take c.loop-token.reader.at c.args.text.now) (drop c.loop-token.reader.at c.args.text.now) (Ok x)) c.in-Ok-None.field-0-is c.in-Ok-None.ensures.found)

pub returns-in-Err : goal.returns-in-Err
returns-in-Err c = read_refused c.args.text.now c.loop-token.reader c.loop-token.invariant.0 c.loop-token.invariant.1 c.in-Err.error c.in-Err.ensures.found

pub next_token-requires-2-clause-within : goal.next_token-requires-2-clause-within
next_token-requires-2-clause-within c = c.loop-token.invariant.0.within

pub returns : goal.returns
returns c = rw c.end_of-end.ensures (read_most c.args.text.now c.loop-token.reader c.loop-token.invariant.0 c.loop-token.invariant.1 (omega (arith, c.loop-token-test.false, c.len.ensures)) _ c.next_token-2.ensures.found)
