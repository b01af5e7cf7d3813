-- Each text has an answer.
use Rattle.std.proofs.Common.{◌≡◌, ◌⊎◌, ℕ, ◌<◌, ◌≤◌, List, [], ◌∷◌, ◌++◌, length, take, drop, take-append-drop, length-append, append_assoc, Option, Some, None, sym, ap, subst, inl, inr, arith}
use Rattle.std.proofs.lemmas.List.{length-take-le}
use Rattle.std.proofs.lemmas.Bool.{cases_lt}
use Rattle.c_lexer.specs.declared.token.LexError.{LexError}
use Rattle.c_lexer.specs.Tokens.{Word, Scan, line}
use Rattle.c_scans.proofs.Scanned.{scanned}
use Rattle.parse_laws.proofs.Exact.{whole_is_exact}
use Rattle.c_programs.specs.Parsers.{program}
use Rattle.c_programs.specs.Lexed.{word_views}
use Rattle.c_programs.proofs.WordExact.{words_spelled}
use Rattle.c_tokens.specs.declared.reader.End.{End}
use Rattle.c_tokens.specs.declared.reader.End.TheVariants as end
use Rattle.c_tokens.specs.Reading.{BeginsWith, Stops, most}
use Rattle.c_tokens.proofs.Leads.{scan_leads}
use Rattle.c_parser.specs.Parsed.{HasAnswer, EachTextHasAnswer}
use Rattle.c_parser.proofs.Causes.{begins_first, answered_by}

-- a text whose words are read so far
read_so_far : (text : List ℕ) (words : List Word) → BeginsWith text words → length words ≤ most → (e : End) → Stops text words e → HasAnswer text
read_so_far text words begins few e stops =
    answered_by text words begins few e stops (program word_views 64 (line text) words) (whole_is_exact (words_spelled (line text)) 63 words)

-- all of a text's words are few enough
within : (text : List ℕ) (words : List Word) (stop : Option LexError) → Scan [] text words stop → length words ≤ most → HasAnswer text
within text words None scan few = read_so_far text words (scan_leads scan) few end.Text scan
within text words (Some error) scan few = read_so_far text words (scan_leads scan) few (end.Refused error) scan

-- they go on behind the most of them
beyond : (text : List ℕ) (front rest : List Word) (word : Word) → BeginsWith text (front ++ word ∷ rest) → length front ≡ most → HasAnswer text
beyond text front rest word begins count =
    let longer : BeginsWith text (front ++ word ∷ []) = begins_first text (front ++ word ∷ []) rest (subst (BeginsWith text) (sym (append_assoc front (word ∷ []) rest)) begins) in
    read_so_far text front (begins_first text front (word ∷ []) longer) (omega (arith, count)) end.Longer (count, (word, longer))

-- the words at their end, where there are more
cut : (text : List ℕ) (words front behind : List Word) → BeginsWith text words → words ≡ front ++ behind → length front ≡ most → most < length words → HasAnswer text
cut text words front [] begins parts count more = absurd (omega (arith, count, more, ap length parts, length-append front []))
cut text words front (word ∷ rest) begins parts count more = beyond text front rest word (subst (BeginsWith text) parts begins) count

pub each_text : EachTextHasAnswer
each_text text =
    let s = scanned text in
    by s.words s.end s.scan (cases_lt most (length s.words))
  where
    by : (words : List Word) (stop : Option LexError) → Scan [] text words stop → (most < length words) ⊎ (length words ≤ most) → HasAnswer text
    by words stop scan (inl more) =
        cut text words (take most words) (drop most words) (scan_leads scan) (sym (take-append-drop most words)) (length-take-le most words (omega (arith, more))) more
    by words stop scan (inr few) = within text words stop scan few
