use Rattle.std.proofs.Common.{[], ◌∷◌, ◌++◌, codes}
use Rattle.c_lexer.specs.declared.token.Sign.TheVariants as signs
use Rattle.c_layout.specs.Layout.{text, sign}
use Rattle.c_layout.proofs.Readings.{text_append}
use Rattle.c_tree.specs.Lined.{stmt_of, bare_stmt}
use Rattle.c_canonical.specs.Statements.{simple}
use Rattle.c_print.proofs.Chains.{chain2}
use Rattle.c_print.proofs.statements.one_line.Goals as goal

pub returns : goal.returns
returns c =
    let items = simple c.args.kind (bare_stmt (stmt_of c.args.s.now)) in
    chain2 c.args.out.now.items c.simple.new.out.items c.put.new.out.items (text items) (codes ";") (text (items ++ sign signs.Semicolon ∷ []))
    c.in_ok-simple.ensures c.in_ok-put.ensures (text_append items (sign signs.Semicolon ∷ []))
