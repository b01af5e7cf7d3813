use Rattle.std.proofs.Common.{◌≡◌, ℕ, List, [], ◌∷◌, refl, sym, ap, ◌∙◌, ⊎_elim, true, Option, String}
use Rattle.std.specs.declared.alloc.Global.{Global}
use Rattle.std.proofs.lemmas.Bool.{both_ways}
use Rattle.std.proofs.lemmas.Str.{IsUtf8-string_bytes}
use Rattle.clap.specs.Kinds.{Kinds, IsAmong}
use Rattle.clap.specs.Words.{App, Row, app_of, fault_of, found_of, is_simple, is_simple_and_free, matches_of, rows_of}
use Rattle.clap.specs.declared.error.kind.ErrorKind.{ErrorKind}
use Rattle.command_words.specs.Behind.{app}
use Rattle.command_words.specs.Tasks.{texts}
use Rattle.command_words.specs.Words.{Given, Next, command_given}
use Rattle.command_words.proofs.ClapWalks.{AreUtf8}
use Rattle.command_words.proofs.ClapEnd.{accepted, refused, read_from}
use Rattle.command_words.proofs.given.given_of.Goals as goal

-- strings are text
are_text : (words : List (String Global)) → AreUtf8 (texts words)
are_text [] = tt
are_text (word ∷ words) = (IsUtf8-string_bytes word, are_text words)

is_simple_app : is_simple app ≡ true
is_simple_app = refl

is_free_app : is_simple_and_free app ≡ true
is_free_app = refl

some_kind : (k : ErrorKind) (kinds : Kinds) → IsAmong k kinds → kinds ≡ [] → ⊥
some_kind k [] among none = among
some_kind k (x ∷ xs) among none = absurd (cc none)

-- what is given by its parts
made : (g : Given) (rows : List Row) → g.files ≡ (read_from rows).files → g.siphons ≡ (read_from rows).siphons → g.monitors ≡ (read_from rows).monitors → g.next ≡ (read_from rows).next → g ≡ read_from rows
made g rows files siphons monitors next =
    let r = read_from rows in
    ap (λ (x : List (List ℕ)). record { files = x; siphons = g.siphons; monitors = g.monitors; next = g.next }) files
    ∙ ap (λ (x : Option (List ℕ)). record { files = r.files; siphons = x; monitors = g.monitors; next = g.next }) siphons
    ∙ ap (λ (x : Option (List ℕ)). record { files = r.files; siphons = r.siphons; monitors = x; next = g.next }) monitors
    ∙ ap (λ (x : Next). record { files = r.files; siphons = r.siphons; monitors = r.monitors; next = x }) next

pub returns-in_ok-given_in-in-Ok : goal.returns-in_ok-given_in-in-Ok
returns-in_ok-given_in-in-Ok c command =
    let words = texts c.args.words.now in
    let same : app_of c.in_ok-behind.field-0 ≡ app = c.in_ok-behind.ensures in
    let rows = rows_of (found_of c.in-Ok.found) in
    let matches : rows ≡ matches_of app words = (c.in-Ok.ensures.matches (ap is_simple same ∙ is_simple_app)).0 ∙ ap (λ (a : App). matches_of a words) same in
    let fault : fault_of app words ≡ [] = sym (ap (λ (a : App). fault_of a words) same) ∙ c.in-Ok.ensures.kinds (ap is_simple_and_free same ∙ is_free_app) in
    let told = c.in_ok-given_in-in-Ok.ensures in
    let given = made c.in_ok-given_in-in-Ok.field-0 rows told.files told.siphons told.monitors told.next in
    ap (command_given command) (given ∙ ap read_from matches) ∙ accepted words (are_text c.args.words.now) fault command

pub returns-in-Err-2 : goal.returns-in-Err-2
returns-in-Err-2 c =
    let words = texts c.args.words.now in
    let same : app_of c.in_ok-behind.field-0 ≡ app = c.in_ok-behind.ensures in
    let kinds = c.in-Err.ensures.kinds (ap is_simple_and_free same ∙ is_free_app) in
    let fails : fault_of app words ≡ [] → ⊥ = λ none.
    ⊎_elim
    (λ memory. absurd (both_ways _ c.if-is_want_of_memory.false (c.is_want_of_memory.ensures.1 memory)))
    (λ among. some_kind _ _ among (ap (λ (a : App). fault_of a words) same ∙ none))
    kinds in
    refused words (are_text c.args.words.now) fails
