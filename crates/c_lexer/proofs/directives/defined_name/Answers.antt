use Rattle.std.proofs.Common.{◌≡◌, ◌+◌, ◌∙◌, ◌≤◌, length, take, drop, refl, ap, arith, length-drop, Some, None, true, false}
use Rattle.std.specs.List.{prefix_len}
use Rattle.std.proofs.lemmas.List.{drop-drop}
use Rattle.c_lexer.specs.Classes.{is_word}
use Rattle.c_lexer.specs.Words.{decimal}
use Rattle.c_lexer.specs.Directives.{is_number}
use Rattle.c_lexer.proofs.DirectivePieces.{naming_stops, naming_read, number_read, number_stops}
use Rattle.c_lexer.proofs.directives.defined_name.Goals as goal

pub returns-in_default : goal.returns-in_default
returns-in_default c = naming_stops c.args.text.now c.in_default.ensures

pub returns-in_default-gap_len : goal.returns-in_default-gap_len
returns-in_default-gap_len c =
    let name = c.in-Some.ensures in
    naming_read c.args.text.now c.in-Some.name_len None name.0 name.1 (rw c.from.ensures at c.in_default-gap_len.ensures)

pub returns-in_default-number_value : goal.returns-in_default-number_value
returns-in_default-number_value c =
    let text = c.args.text.now in
    let n = c.in-Some.name_len in
    let m = c.in-Some-gap_len.gap in
    let k = c.word_len-number_len.result in
    let name = c.in-Some.ensures in
    let gap = rw c.from.ensures at c.in-Some-gap_len.ensures.0 in
    let size : k ≡ prefix_len is_word (drop (n + m) text) = rw c.from-rest.ensures at c.word_len-number_len.ensures.value in
    let number : is_number (take k (drop (n + m) text)) ≡ false = rw c.from-rest.ensures at c.in_default-number_value.ensures in
    naming_read text n _ name.0 name.1 (gap.reads ∙ ap (λ x. Some x) (drop-drop m n text)) ∙ number_stops (take n text) (drop (n + m) text) k size number

pub returns : goal.returns
returns c =
    let text = c.args.text.now in
    let n = c.in-Some.name_len in
    let m = c.in-Some-gap_len.gap in
    let k = c.word_len-number_len.result in
    let name = c.in-Some.ensures in
    let gap = rw c.from.ensures at c.in-Some-gap_len.ensures.0 in
    let size : k ≡ prefix_len is_word (drop (n + m) text) = rw c.from-rest.ensures at c.word_len-number_len.ensures.value in
    let room : k ≤ length (drop (n + m) text) = rw c.from-rest.ensures at c.word_len-number_len.ensures.within in
    let number : is_number (take k (drop (n + m) text)) ≡ true = rw c.from-rest.ensures at c.in-Some-number_value.ensures.0 in
    let value : c.in-Some-number_value.value ≡ decimal (take k (drop (n + m) text)) = rw c.from-rest.ensures at c.in-Some-number_value.ensures.1 in
    record {
      is = naming_read text n _ name.0 name.1 (gap.reads ∙ ap (λ x. Some x) (drop-drop m n text))
          ∙ number_read (take n text) (drop (n + m) text) k c.in-Some-number_value.value size number value ∙ rw (drop-drop k (n + m) text) refl;
      order = omega arith;
      within = omega (arith, name.2, gap.within, length-drop n text, room, length-drop (n + m) text);
    }
