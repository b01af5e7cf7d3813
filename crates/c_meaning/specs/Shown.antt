-- The declared tree without its lines.
use Rattle.std.specs.Prelude.{List}
use Rattle.c_tree.specs.declared.stmt.Stmt as declared
use Rattle.c_tree.specs.declared.program.Program as declared_program
use Rattle.c_tree.specs.Lined.{stmt_of, stmts_of, program_of, bare_stmt, bare_stmts, bare_program}
use Rattle.c_tree.specs.Bare.{Stmt, Stmts, Program}

abbrev pub shown_stmt : declared.Stmt → Stmt
shown_stmt s = bare_stmt (stmt_of s)

abbrev pub shown_body : List declared.Stmt → Stmts
shown_body ss = bare_stmts (stmts_of ss)

abbrev pub shown : declared_program.Program → Program
shown p = bare_program (program_of p)
