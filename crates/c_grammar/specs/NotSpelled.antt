-- Samples that are not spelled as what they would have to be.
use Rattle.std.specs.Prelude.{◌≡◌, ℕ, Bool, List, [], ◌∷◌, codes}
use Rattle.c_tree.specs.declared.expr.Op.TheVariants as op
use Rattle.c_tree.specs.declared.program.Kind.{Kind}
use Rattle.c_tree.specs.declared.program.Kind.TheVariants as kind
use Rattle.c_tree.specs.Expressions as tree
use Rattle.c_tree.specs.Expressions.{Expr}
use Rattle.c_tree.specs.Lined.{Stmt, Program}
use Rattle.c_grammar.specs.Items.{Item}
use Rattle.c_grammar.specs.Levels.{Tall}
use Rattle.c_grammar.specs.Expressions.{SpellsWhole, SpellsArgument}
use Rattle.c_grammar.specs.Statements.{SpellsStatement}
use Rattle.c_grammar.specs.Declarations.{Declared, SpellsCells, Head, SpellsHead}
use Rattle.c_grammar.specs.Programs.{Spells}
use Rattle.c_grammar.specs.Samples.{words_of, items_of}

-- No statement of a function of this kind stands at the front of this line, whatever follows it there.
abbrev pub NoStatement : Kind → List ℕ → Type 0
NoStatement k text = (b : Bool) (rest : List Item) (x : Tall (List Stmt)) → SpellsStatement k b (items_of (text ∷ [])) rest x → ⊥

-- None in any function.
abbrev pub Never : List ℕ → Type 0
Never text = (k : Kind) → NoStatement k text

-- Statements of C that are none here, and parts that are none by themselves.
abbrev pub OtherStatements : Type 0
OtherStatements =
    Never (codes "break ;") × Never (codes "continue ;") × Never (codes "goto out ;") × Never (codes "do x ++ ; while ( x ) ;")
    × Never (codes "switch ( x ) { }") × Never (codes "else x = 1 ;") × Never (codes "{ x = 1 ; }") × Never (codes "static int x ;")
    × Never (codes "#define\tA\t1") × Never (codes "3 ;") × Never (codes "* p = 1 ;") × Never (codes "( x ) = 1 ;")

-- A call is no operand, and neither is what holds one.
abbrev pub CallsInside : Type 0
CallsInside = Never (codes "x = 1 + f ( ) ;") × Never (codes "x = f ( ) + 1 ;") × Never (codes "x = ( f ( ) ) ;") × Never (codes "return f ( ) ;")

-- An expression is no statement, and a text without its `;` is none.
abbrev pub Unfinished : Type 0
Unfinished = Never (codes "x ;") × Never (codes "x + 1 ;") × Never (codes "x = 1") × Never (codes "x ++") × Never (codes "int 3 ;")

-- What stands after `return` goes by the kind of the function.
abbrev pub OtherReturns : Type 0
OtherReturns =
    NoStatement kind.Void (codes "return 1 ;") × NoStatement kind.Int (codes "return ;") × NoStatement kind.Main (codes "return ;")
    × NoStatement kind.Thread (codes "return 1 ;") × NoStatement kind.Thread (codes "return ;")

-- The words that the grammar spells out are not called otherwise than it says.
abbrev pub OtherCalls : Type 0
OtherCalls =
    Never (codes "printf ( x ) ;") × Never (codes "scanf ( \"%d%d\" , & x ) ;") × Never (codes "pthread_mutex_lock ( m ) ;")
    × Never (codes "pthread_join ( t , 0 ) ;") × Never (codes "pthread_create ( & t , 0 , f , NULL ) ;") × Never (codes "gd_take ( x ) ;")
    × Never (codes "NULL ( ) ;") × Never (codes "gd_cond_wait ( & c , & m , - 1 ) ;")

-- A trylock stands in the test of an `if` alone, and is compared with 0 alone.
abbrev pub OtherTrylocks : Type 0
OtherTrylocks =
    Never (codes "pthread_mutex_trylock ( & a ) ;") × Never (codes "x = pthread_mutex_trylock ( & a ) ;") × Never (codes "if ( pthread_mutex_trylock ( & a ) == 1 ) ;")

-- Operators of one looseness group to the left: the other tree isn't spelled without parentheses.
abbrev pub GroupsLeft : Type 0
GroupsLeft = (rest : List Item) (e : Tall Expr) → SpellsWhole (items_of (codes "a - b - c" ∷ [])) rest e
    → e.tree ≡ tree.Binary op.Sub (tree.Name (codes "a")) (tree.Binary op.Sub (tree.Name (codes "b")) (tree.Name (codes "c"))) → ⊥

-- A name is defined once.
abbrev pub DefinedTwice : Type 0
DefinedTwice = (end : ℕ) (p : Tall Program) → Spells end (words_of (codes "#define\tA\t1" ∷ codes "#define\tA\t1" ∷ [])) p → ⊥

-- A cast directly after `( void * )` is that of the argument, so it makes no argument of a thread of the name behind it.
abbrev pub CastOfArgument : Type 0
CastOfArgument = (rest : List Item) (e : Tall Expr) → SpellsArgument (items_of (codes "( void * ) ( long ) x" ∷ [])) rest e → e.tree ≡ tree.Name (codes "x")

-- `gd_cap` is no cell, also behind `static`, and `main` gives an `int`.
abbrev pub KeptNames : Type 0
KeptNames =
    ((rest : List Item) (all : List Declared) → SpellsCells (items_of (codes "int gd_cap ;" ∷ [])) rest all → ⊥)
    × ((rest : List Item) (all : List Declared) → SpellsCells (items_of (codes "static int gd_cap [ 1 ] ;" ∷ [])) rest all → ⊥)
    × ((rest : List Item) (h : Head) → SpellsHead (items_of (codes "void main ( )" ∷ [])) rest h → ⊥)
    × ((rest : List Item) (h : Head) → SpellsHead (items_of (codes "int main ( int x )" ∷ [])) rest h → ⊥)
