-- Each text is tokens up to its end, or up to what is refused.
use Rattle.std.proofs.Common.{ℕ, zero, suc, ◌≤◌, List, [], ◌∷◌, ◌++◌, length, Some, None, arith}
use Rattle.c_lexer.specs.declared.piece.Fault.{Fault}
use Rattle.c_lexer.specs.Pieces.{Kind, Piece}
use Rattle.c_lexer.specs.Lexeme.{Longest}
use Rattle.c_lexer.specs.Tokens.{is_first, line, error_of, Scan, ended, refused, skip, word}
use Rattle.c_scans.specs.Scans.{IsScanned, EachIsScanned}
use Rattle.c_scans.proofs.Longest.{HasLongest, has_longest}

-- shorter rests are scanned
abbrev AreScanned : ℕ → Type 0
AreScanned n = (before all : List ℕ) → length all ≤ n → IsScanned before all

by_piece : (n b : ℕ) (before text : List ℕ) (x : HasLongest (is_first before) (b ∷ text)) → AreScanned n → length text ≤ n
    → (piece : Piece) → Longest (is_first before) x.front x.rest piece → IsScanned before (b ∷ text)
by_piece n b before text x more le (Piece.refused fault) longest = record { words = []; end = Some (error_of fault (line before)); scan = refused x.splits longest }
by_piece n b before text x more le Piece.skip longest =
    let some = x.some in
    let behind = more (before ++ x.front) x.rest (omega (arith, some, le)) in
    record { words = behind.words; end = behind.end; scan = skip x.splits longest behind.scan }
by_piece n b before text x more le (Piece.token kind) longest =
    let some = x.some in
    let behind = more (before ++ x.front) x.rest (omega (arith, some, le)) in
    record { words = record { kind = kind; bytes = x.front; line = line before } ∷ behind.words; end = behind.end; scan = word x.splits longest behind.scan }

all_scanned : (n : ℕ) → AreScanned n
all_scanned n before [] le = record { words = []; end = None; scan = ended }
all_scanned zero before (b ∷ text) le = absurd (omega (arith, le))
all_scanned (suc n) before (b ∷ text) le =
    let x = has_longest (is_first before) b text in
    by_piece n b before text x (all_scanned n) (omega (arith, le)) x.piece x.longest

pub scanned : EachIsScanned
scanned text = all_scanned (length text) [] text (omega arith)
