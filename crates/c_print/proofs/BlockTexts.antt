-- The texts of statements of several lines, part by part.
use Rattle.std.proofs.Common.{◌≡◌, ℕ, ◌<◌, true, false, List, [], ◌∷◌, ◌++◌, length, get_or, drop, ◌+◌, codes, refl, sym, ◌∙◌, ap, arith, append_assoc}
use Rattle.std.specs.Prelude.{if◌then◌else◌}
use Rattle.c_lexer.specs.declared.token.Sign.TheVariants as s
use Rattle.c_layout.specs.Layout.{Item, text, gap, sign, newline}
use Rattle.c_layout.proofs.Readings.{text_append}
use Rattle.c_tree.specs.declared.program.Kind.{Kind}
use Rattle.c_tree.specs.declared.stmt.Stmt as declared
use Rattle.c_tree.specs.Expressions.{Expr, Place}
use Rattle.c_tree.specs.Bare.{Stmt, Stmts, If, TryLock, While, For}
use Rattle.c_tree.specs.Lined.{stmt_of, stmts_of, bare_stmt, bare_stmts}
use Rattle.c_canonical.specs.Expressions.{expression}
use Rattle.c_canonical.specs.Statements.{tried, headed, block, deeper, is_chain, statement, statements, otherwise}
use Rattle.c_print.proofs.Chains.{chain2, chain3, chain4}
use Rattle.c_print.proofs.Loops.{turn}
use Rattle.c_print.proofs.ActTexts.{for_parts}

-- ---- blocks

pub block_text : (old first second third fourth margin : List ℕ) (inside : List Item)
    → first ≡ old ++ codes "{\n" → second ≡ first ++ text inside → third ≡ second ++ margin → fourth ≡ third ++ codes "}" → fourth ≡ old ++ text (block margin inside)
block_text old first second third fourth margin inside p0 p1 p2 p3 =
    chain4 old first second third fourth (codes "{\n") (text inside) margin (codes "}") (text (block margin inside)) p0 p1 p2 p3
    (ap (λ x. codes "{\n" ++ x) (text_append inside (gap margin ∷ sign s.RightBrace ∷ [])))

-- ---- the statements with blocks

pub if_text : (old first second third margin : List ℕ) (kind : Kind) (given : Stmt) (test : Expr) (then_arm else_arm : Stmts) → given ≡ If test then_arm else_arm
    → first ≡ old ++ text (headed (codes "if") (expression test)) → second ≡ first ++ text (block margin (statements kind (deeper margin) then_arm))
    → third ≡ second ++ text (otherwise kind margin else_arm) → third ≡ old ++ text (statement kind margin given)
if_text old first second third margin kind given test then_arm else_arm is p0 p1 p2 =
    let head = headed (codes "if") (expression test) in
    let arm = block margin (statements kind (deeper margin) then_arm) in
    let other = otherwise kind margin else_arm in
    chain3 old first second third (text head) (text arm) (text other) (text (statement kind margin given)) p0 p1 p2
    (ap (λ x. text (statement kind margin x)) is ∙ text_append head (arm ++ other) ∙ ap (λ x. text head ++ x) (text_append arm other))

pub try_lock_text : (old first second third margin : List ℕ) (kind : Kind) (given : Stmt) (place : Place) (taken busy : Stmts) → given ≡ TryLock place taken busy
    → first ≡ old ++ text (headed (codes "if") (tried place)) → second ≡ first ++ text (block margin (statements kind (deeper margin) taken))
    → third ≡ second ++ text (otherwise kind margin busy) → third ≡ old ++ text (statement kind margin given)
try_lock_text old first second third margin kind given place taken busy is p0 p1 p2 =
    let head = headed (codes "if") (tried place) in
    let arm = block margin (statements kind (deeper margin) taken) in
    let other = otherwise kind margin busy in
    chain3 old first second third (text head) (text arm) (text other) (text (statement kind margin given)) p0 p1 p2
    (ap (λ x. text (statement kind margin x)) is ∙ text_append head (arm ++ other) ∙ ap (λ x. text head ++ x) (text_append arm other))

pub while_text : (old first second margin : List ℕ) (kind : Kind) (given : Stmt) (test : Expr) (body : Stmts) → given ≡ While test body
    → first ≡ old ++ text (headed (codes "while") (expression test)) → second ≡ first ++ text (block margin (statements kind (deeper margin) body))
    → second ≡ old ++ text (statement kind margin given)
while_text old first second margin kind given test body is p0 p1 =
    let head = headed (codes "while") (expression test) in
    let inside = block margin (statements kind (deeper margin) body) in
    chain2 old first second (text head) (text inside) (text (statement kind margin given)) p0 p1
    (ap (λ x. text (statement kind margin x)) is ∙ text_append head inside)

pub for_text : (old first second margin : List ℕ) (kind : Kind) (given : Stmt) (first_part : Stmts) (test : Expr) (step body : Stmts) → given ≡ For first_part test step body
    → first ≡ old ++ text (headed (codes "for") (for_parts kind first_part test step)) → second ≡ first ++ text (block margin (statements kind (deeper margin) body))
    → second ≡ old ++ text (statement kind margin given)
for_text old first second margin kind given first_part test step body is p0 p1 =
    let head = headed (codes "for") (for_parts kind first_part test step) in
    let inside = block margin (statements kind (deeper margin) body) in
    chain2 old first second (text head) (text inside) (text (statement kind margin given)) p0 p1
    (ap (λ x. text (statement kind margin x)) is ∙ text_append head inside)

-- ---- the arm of an `else`

pub chained : (kind : Kind) (margin : List ℕ) (x : declared.Stmt) (ss : List declared.Stmt) → 0 < length ss → x ≡ get_or ss 0 x → is_chain (bare_stmts (stmts_of ss)) ≡ true
    → text (otherwise kind margin (bare_stmts (stmts_of ss))) ≡ codes " else " ++ text (statement kind margin (bare_stmt (stmt_of x)))
chained kind margin x [] some is h = absurd (omega arith)
chained kind margin x (y ∷ ss) some is h =
    let plain = statement kind margin (bare_stmt (stmt_of y)) in
    let braced = block margin (statements kind (deeper margin) (bare_stmts (stmts_of (y ∷ ss)))) in
    ap (λ b. codes " else " ++ text (if b then plain else braced)) h ∙ ap (λ z. codes " else " ++ text (statement kind margin (bare_stmt (stmt_of z)))) (sym is)

pub braced : (kind : Kind) (margin : List ℕ) (ss : List declared.Stmt) → 0 < length ss → is_chain (bare_stmts (stmts_of ss)) ≡ false
    → text (otherwise kind margin (bare_stmts (stmts_of ss))) ≡ codes " else " ++ text (block margin (statements kind (deeper margin) (bare_stmts (stmts_of ss))))
braced kind margin [] some h = absurd (omega arith)
braced kind margin (y ∷ ss) some h =
    let plain = statement kind margin (bare_stmt (stmt_of y)) in
    let inside = block margin (statements kind (deeper margin) (bare_stmts (stmts_of (y ∷ ss)))) in
    ap (λ b. codes " else " ++ text (if b then plain else inside)) h

-- ---- lines

-- the lines of these statements
abbrev pub lines_of : Kind → List ℕ → List declared.Stmt → List ℕ
lines_of kind margin ss = text (statements kind margin (bare_stmts (stmts_of ss)))

pub line_text : (kind : Kind) (margin : List ℕ) (ss : List declared.Stmt) (i : ℕ) (x : declared.Stmt) (old now first second third : List ℕ) → i < length ss → x ≡ get_or ss i x
    → first ≡ now ++ margin → second ≡ first ++ text (statement kind margin (bare_stmt (stmt_of x))) → third ≡ second ++ codes "\n"
    → now ++ lines_of kind margin (drop i ss) ≡ old → third ++ lines_of kind margin (drop (i + 1) ss) ≡ old
line_text kind margin ss i x old now first second third within is p0 p1 p2 h =
    let body = statement kind margin (bare_stmt (stmt_of x)) in
    let piece = margin ++ (text body ++ codes "\n") in
    turn (lines_of kind margin) ss i x piece old now third within is
    (λ more. ap (λ y. margin ++ y) (text_append body (newline ∷ statements kind margin (bare_stmts (stmts_of more))))
    ∙ sym (append_assoc margin (text body ++ codes "\n") (lines_of kind margin more) ∙ ap (λ y. margin ++ y) (append_assoc (text body) (codes "\n") (lines_of kind margin more))))
    (chain3 now first second third margin (text body) (codes "\n") piece p0 p1 p2 refl) h
