use Rattle.std.proofs.Common.{◌≡◌, ◌+◌, ◌∙◌, ◌≤◌, length, drop, refl, ap, arith, length-drop, Some}
use Rattle.std.specs.List.{prefix_len}
use Rattle.std.proofs.lemmas.List.{drop-drop}
use Rattle.c_lexer.specs.Classes.{is_space}
use Rattle.c_lexer.proofs.DirectivePieces.{include_read}
use Rattle.c_lexer.proofs.directives.include_len.Goals as goal

pub returns-in-Some : goal.returns-in-Some
returns-in-Some c =
    let text = c.args.text.now in
    let n = c.spaces_len-header.result in
    let begins = c.if-not-begins.ensures.yes refl in
    let spaces : n ≡ prefix_len is_space (drop 7 text) = rw c.from.ensures at c.spaces_len-header.ensures.value in
    let within : n ≤ length (drop 7 text) = rw c.from.ensures at c.spaces_len-header.ensures.within in
    let header = rw c.from-2.ensures at c.in-Some.ensures in
    record {
      within = omega (arith, begins.within, within, length-drop 7 text, header.within, length-drop (7 + n) text);
      reads = include_read text n _ begins.reads spaces header.reads ∙ ap (λ x. Some x) (drop-drop c.in-Some.len (7 + n) text);
    }

pub returns-in-None : goal.returns-in-None
returns-in-None c =
    let text = c.args.text.now in
    let n = c.spaces_len-header.result in
    let begins = c.if-not-begins.ensures.yes refl in
    let spaces : n ≡ prefix_len is_space (drop 7 text) = rw c.from.ensures at c.spaces_len-header.ensures.value in
    include_read text n _ begins.reads spaces (rw c.from-2.ensures at c.in-None.ensures)
