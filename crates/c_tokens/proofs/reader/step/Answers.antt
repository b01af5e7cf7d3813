use Rattle.std.proofs.Common.{refl, arith}
use Rattle.c_tokens.proofs.Walk.{stands_next, few_lines, lines_to}
use Rattle.c_tokens.proofs.reader.step.Goals as goal

pub overflow_add-reader : goal.overflow_add-reader
overflow_add-reader c = omega (arith, c.requires.stands.line, few_lines c.args.reader.now.text.now c.args.reader.now.at, c.requires.inside.0.after, c.requires.inside.0.some, c.requires.inside.0.within, c.newlines.ensures.few, c.requires.fits)

pub overflow_add-reader-2 : goal.overflow_add-reader-2
overflow_add-reader-2 c =
    omega (
      arith,
      c.requires.stands.line,
      lines_to c.args.reader.now.text.now c.args.reader.now.at c.args.span.start c.newlines.result c.requires.inside.0.after c.newlines.ensures.count,
      few_lines c.args.reader.now.text.now c.args.span.start,
      c.requires.inside.0.some,
      c.requires.inside.0.within,
      c.newlines-2.ensures.few,
      c.requires.fits,
    )

pub returns-clause-stands : goal.returns-clause-stands
returns-clause-stands c =
    stands_next c.args.reader.now.text.now c.args.reader.now _ c.args.token c.args.span c.in_ok-what.what c.newlines.result c.newlines-2.result c.requires.stands c.requires.next c.requires.inside.0
    c.newlines.ensures.count c.newlines-2.ensures.count c.in_ok-what.ensures refl refl refl c.in_ok-push.ensures.items
