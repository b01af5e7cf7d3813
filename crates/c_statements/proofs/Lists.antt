-- Lists of statements as plain data.
use Rattle.std.proofs.Common.{◌≡◌, List, ◌++◌}
use Rattle.std.proofs.lemmas.List.{map-append}
use Rattle.c_tree.specs.declared.stmt.Stmt as declared
use Rattle.c_tree.specs.Lined.{stmt_of}
use Rattle.c_simple.specs.Gives.{statements_of}

-- others at the end
pub statements_grow : (all more : List declared.Stmt) → statements_of (all ++ more) ≡ statements_of all ++ statements_of more
statements_grow all more = map-append stmt_of all more
