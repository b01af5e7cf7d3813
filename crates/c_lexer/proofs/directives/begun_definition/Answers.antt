use Rattle.std.proofs.Common.{◌≡◌, ◌+◌, ◌-◌, ◌∙◌, drop, refl, ap, arith, length-drop}
use Rattle.std.specs.List.{prefix_len}
use Rattle.std.proofs.lemmas.List.{drop-drop}
use Rattle.c_lexer.specs.Classes.{is_space}
use Rattle.c_lexer.proofs.DirectivePieces.{definition_read}
use Rattle.c_lexer.proofs.directives.begun_definition.Goals as goal

pub returns : goal.returns
returns c =
    let text = c.args.text.now in
    let n = c.in-Some.gap in
    let d = c.in-Some-defined_name.naming in
    let begins = c.if-not-begins.ensures.yes refl in
    let gap = rw c.from.ensures at c.in-Some.ensures.0 in
    let spaces : n ≡ prefix_len is_space (drop 6 text) = rw c.from.ensures at c.in-Some.ensures.1 in
    let naming = rw c.from-2.ensures at c.in-Some-defined_name.ensures in
    let size : 6 + n + d.name_len - (6 + n) ≡ d.name_len = omega arith in
    record {
      is = definition_read text n _ begins.reads gap.reads naming.is ∙ rw (size, drop-drop d.len (6 + n) text) refl;
      placed = record {
        start = ap (λ x. 6 + x) spaces;
        order = omega arith;
        inside = omega (arith, naming.order);
        within = omega (arith, begins.within, gap.within, length-drop 6 text, naming.within, length-drop (6 + n) text);
      };
    }
