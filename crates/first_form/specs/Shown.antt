-- How the declared tree is seen: as plain data without lines.
use Rattle.std.specs.Prelude.{List}
use Rattle.c_tree.specs.declared.program.Program as declared_program
use Rattle.c_tree.specs.declared.stmt.Stmt as declared
use Rattle.c_tree.specs.Lined.{program_of, stmt_of, stmts_of, bare_program, bare_stmt, bare_stmts}
use Rattle.c_tree.specs.Bare.{Program, Stmt, Stmts}

-- a program without its lines
abbrev pub shown : declared_program.Program → Program
shown p = bare_program (program_of p)

-- a statement without its lines
abbrev pub shown_stmt : declared.Stmt → Stmt
shown_stmt s = bare_stmt (stmt_of s)

-- statements without their lines
abbrev pub shown_body : List declared.Stmt → Stmts
shown_body ss = bare_stmts (stmts_of ss)
