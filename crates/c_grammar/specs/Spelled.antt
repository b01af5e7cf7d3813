-- Samples that are spelled, each with the whole tree.
use Rattle.std.specs.Prelude.{ℕ, pos, neg_ℤ, true, false, List, [], ◌∷◌, codes, Some, None}
use Rattle.c_tree.specs.declared.expr.Op.TheVariants as op
use Rattle.c_tree.specs.declared.program.Kind.TheVariants as kind
use Rattle.c_tree.specs.Expressions as tree
use Rattle.c_tree.specs.Lined as lined
use Rattle.c_grammar.specs.Levels.{tall}
use Rattle.c_grammar.specs.Statements.{SpellsList}
use Rattle.c_grammar.specs.Programs.{Spells}
use Rattle.c_grammar.specs.Samples.{words_of, items_of, scalar, member}

-- ---- programs

abbrev pub declarations_text : List (List ℕ)
declarations_text =
    codes "#define\tSIZE\t3"
    ∷ codes "static int x , y = 5 , q [ SIZE ] , r [ 2 ] = { 1 , - SIZE } ;"
    ∷ codes "pthread_mutex_t a = PTHREAD_MUTEX_INITIALIZER , m [ 2 ] = { PTHREAD_MUTEX_INITIALIZER , PTHREAD_MUTEX_INITIALIZER } ;"
    ∷ codes "static pthread_cond_t c = PTHREAD_COND_INITIALIZER , d [ 2 ] ;"
    ∷ codes "pthread_mutex_t late ;"
    ∷ codes "static pthread_t t , u [ SIZE ] ;"
    ∷ []

-- Scalars, arrays, mutexes, conditions and threads, with and without values, `static`, and a name that is defined as a number.
abbrev pub Declarations : Type 0
Declarations = Spells 7 (words_of declarations_text) (tall (record {
  ints =
      record { name = codes "x"; value = pos 0; line = 2 }
      ∷ record { name = codes "y"; value = pos 5; line = 2 }
      ∷ [];
  arrays =
      record { name = codes "q"; len = 3; values = []; line = 2 }
      ∷ record { name = codes "r"; len = 2; values = pos 1 ∷ neg_ℤ (pos 3) ∷ []; line = 2 }
      ∷ [];
  mutexes =
      record { name = codes "a"; len = None; ready = true; given = 1; line = 3 }
      ∷ record { name = codes "m"; len = Some 2; ready = true; given = 2; line = 3 }
      ∷ record { name = codes "late"; len = None; ready = false; given = 0; line = 5 }
      ∷ [];
  conds =
      record { name = codes "c"; len = None; ready = true; given = 1; line = 4 }
      ∷ record { name = codes "d"; len = Some 2; ready = false; given = 0; line = 4 }
      ∷ [];
  threads =
      record { name = codes "t"; len = None; line = 6 }
      ∷ record { name = codes "u"; len = Some 3; line = 6 }
      ∷ [];
  monitors = [];
  functions = [];
  cap_len = 0;
  cap_line = 0;
  end_line = 7;
}) 0)

abbrev pub monitor_calls_text : List (List ℕ)
monitor_calls_text =
    codes "int gd_cap [ 2 ] = { 1 , 3 } ;"
    ∷ codes "void gd_take ( int k ) ;"
    ∷ codes "void gd_give ( int k ) ;"
    ∷ codes "void gd_cond_wait ( pthread_cond_t * c , pthread_mutex_t * m , ... ) ;"
    ∷ codes "void * f ( void * arg ) {"
    ∷ codes "gd_take ( 0 ) ;"
    ∷ codes "gd_give ( 1 ) ;"
    ∷ codes "gd_cond_wait ( & c , & m , 0 , 1 , - 1 ) ;"
    ∷ codes "return NULL ; }"
    ∷ []

-- Capacities with their declarations, calls that take and give, and a wait that takes afterwards.
abbrev pub MonitorCalls : Type 0
MonitorCalls = Spells 10 (words_of monitor_calls_text) (tall (record {
  ints = [];
  arrays = [];
  mutexes = [];
  conds = [];
  threads = [];
  monitors = 1 ∷ 3 ∷ [];
  functions = record { name = codes "f"; kind = kind.Thread; params = codes "arg" ∷ []; body = lined.listed (lined.Take 6 0 ∷ lined.Give 7 1 ∷ lined.Wait 8 (scalar (codes "c")) (scalar (codes "m")) (0 ∷ 1 ∷ []) ∷ lined.Return 9 None ∷ []); line = 5; end_line = 9 } ∷ [];
  cap_len = 2;
  cap_line = 1;
  end_line = 10;
}) 1)

abbrev pub functions_text : List (List ℕ)
functions_text =
    codes "int add ( int a , int b ) {"
    ∷ codes "return a + b ; }"
    ∷ codes "static"
    ∷ codes "void none ( ) { return ; }"
    ∷ codes "void also ( void ) { ; }"
    ∷ codes "void * start ( void * p ) { return 0 ; }"
    ∷ codes "int"
    ∷ codes "main ( ) {"
    ∷ codes "return 0 ;"
    ∷ codes "}"
    ∷ []

-- Functions of each kind with what they return. Each has the line of its first token behind `static`.
abbrev pub Functions : Type 0
Functions = Spells 11 (words_of functions_text) (tall (record {
  ints = [];
  arrays = [];
  mutexes = [];
  conds = [];
  threads = [];
  monitors = [];
  functions =
      record { name = codes "add"; kind = kind.Int; params = codes "a" ∷ codes "b" ∷ []; body = lined.listed (lined.Return 2 (Some (tree.Binary op.Add (tree.Name (codes "a")) (tree.Name (codes "b")))) ∷ []); line = 1; end_line = 2 }
      ∷ record { name = codes "none"; kind = kind.Void; params = []; body = lined.listed (lined.Return 4 None ∷ []); line = 4; end_line = 4 }
      ∷ record { name = codes "also"; kind = kind.Void; params = []; body = lined.Nil; line = 5; end_line = 5 }
      ∷ record { name = codes "start"; kind = kind.Thread; params = codes "p" ∷ []; body = lined.listed (lined.Return 6 None ∷ []); line = 6; end_line = 6 }
      ∷ record { name = codes "main"; kind = kind.Main; params = []; body = lined.listed (lined.Return 9 (Some (tree.Number 0)) ∷ []); line = 7; end_line = 10 }
      ∷ [];
  cap_len = 0;
  cap_line = 0;
  end_line = 11;
}) 3)

abbrev pub threads_text : List (List ℕ)
threads_text =
    codes "int main ( void ) {"
    ∷ codes "static pthread_t t ;"
    ∷ codes "pthread_create ( & t , NULL , f , NULL ) ;"
    ∷ codes "pthread_create ( & u [ 0 ] , NULL , f , ( void * ) 1 ) ;"
    ∷ codes "pthread_create ( & u [ 1 ] , NULL , f , ( void * ) ( long ) n ) ;"
    ∷ codes "pthread_create ( & u [ 2 ] , NULL , f , ( void * ) ( intptr_t ) - 3 ) ;"
    ∷ codes "pthread_t u [ 3 ] , v ;"
    ∷ codes "pthread_join ( u [ 0 ] , NULL ) ;"
    ∷ codes "}"
    ∷ []

-- Threads that main declares, creates and joins. The threads stand outside functions in the program.
abbrev pub Threads : Type 0
Threads = Spells 10 (words_of threads_text) (tall (record {
  ints = [];
  arrays = [];
  mutexes = [];
  conds = [];
  threads =
      record { name = codes "t"; len = None; line = 2 }
      ∷ record { name = codes "u"; len = Some 3; line = 7 }
      ∷ record { name = codes "v"; len = None; line = 7 }
      ∷ [];
  monitors = [];
  functions = record {
    name = codes "main";
    kind = kind.Main;
    params = [];
    body = lined.listed (
        lined.Create 3 (scalar (codes "t")) (codes "f") (tree.Number 0)
        ∷ lined.Create 4 (member (codes "u") (tree.Number 0)) (codes "f") (tree.Number 1)
        ∷ lined.Create 5 (member (codes "u") (tree.Number 1)) (codes "f") (tree.Name (codes "n"))
        ∷ lined.Create 6 (member (codes "u") (tree.Number 2)) (codes "f") (tree.Minus (tree.Number 3))
        ∷ lined.Join 8 (member (codes "u") (tree.Number 0))
        ∷ []);
    line = 1;
    end_line = 9;
  } ∷ [];
  cap_len = 0;
  cap_line = 0;
  end_line = 10;
}) 3)

abbrev pub philosophers_text : List (List ℕ)
philosophers_text =
    codes ""
    ∷ codes "pthread_mutex_t forks [ 3 ] ;"
    ∷ codes "int meals ;"
    ∷ codes "void * phil ( void * arg ) {"
    ∷ codes "int i = ( int ) ( long ) arg ;"
    ∷ codes "pthread_mutex_lock ( & forks [ i ] ) ;"
    ∷ codes "pthread_mutex_lock ( & forks [ ( i + 1 ) % 3 ] ) ;"
    ∷ codes "meals ++ ;"
    ∷ codes "pthread_mutex_unlock ( & forks [ ( i + 1 ) % 3 ] ) ;"
    ∷ codes "pthread_mutex_unlock ( & forks [ i ] ) ;"
    ∷ codes "return NULL ;"
    ∷ codes "}"
    ∷ codes "int main ( void ) {"
    ∷ codes "pthread_t t [ 3 ] ;"
    ∷ codes "for ( int k = 0 ; k < 3 ; k ++ ) pthread_mutex_init ( & forks [ k ] , NULL ) ;"
    ∷ codes "pthread_create ( & t [ 0 ] , NULL , phil , ( void * ) 0 ) ;"
    ∷ codes "pthread_create ( & t [ 1 ] , NULL , phil , ( void * ) 1 ) ;"
    ∷ codes "pthread_create ( & t [ 2 ] , NULL , phil , ( void * ) 2 ) ;"
    ∷ codes "pthread_join ( t [ 0 ] , NULL ) ;"
    ∷ codes "pthread_join ( t [ 1 ] , NULL ) ;"
    ∷ codes "pthread_join ( t [ 2 ] , NULL ) ;"
    ∷ codes "return 0 ;"
    ∷ codes "}"
    ∷ []

-- Three philosophers, each with the fork on the left and the fork on the right: a whole program.
abbrev pub Philosophers : Type 0
Philosophers = Spells 24 (words_of philosophers_text) (tall (record {
  ints = record { name = codes "meals"; value = pos 0; line = 3 } ∷ [];
  arrays = [];
  mutexes = record { name = codes "forks"; len = Some 3; ready = false; given = 0; line = 2 } ∷ [];
  conds = [];
  threads = record { name = codes "t"; len = Some 3; line = 14 } ∷ [];
  monitors = [];
  functions =
      record {
        name = codes "phil";
        kind = kind.Thread;
        params = codes "arg" ∷ [];
        body = lined.listed (
            lined.Declare 5 (codes "i") (Some (tree.Arg (codes "arg")))
            ∷ lined.Lock 6 (member (codes "forks") (tree.Name (codes "i")))
            ∷ lined.Lock 7 (member (codes "forks") (tree.Binary op.Rem (tree.Binary op.Add (tree.Name (codes "i")) (tree.Number 1)) (tree.Number 3)))
            ∷ lined.Assign 8 (scalar (codes "meals")) (tree.Binary op.Add (tree.Name (codes "meals")) (tree.Number 1))
            ∷ lined.Unlock 9 (member (codes "forks") (tree.Binary op.Rem (tree.Binary op.Add (tree.Name (codes "i")) (tree.Number 1)) (tree.Number 3)))
            ∷ lined.Unlock 10 (member (codes "forks") (tree.Name (codes "i")))
            ∷ lined.Return 11 None
            ∷ []);
        line = 4;
        end_line = 12;
      }
      ∷ record {
        name = codes "main";
        kind = kind.Main;
        params = [];
        body = lined.listed (
            lined.For 15 (lined.listed (lined.Declare 15 (codes "k") (Some (tree.Number 0)) ∷ [])) (tree.Binary op.Lt (tree.Name (codes "k")) (tree.Number 3)) (lined.listed (lined.Assign 15 (scalar (codes "k")) (tree.Binary op.Add (tree.Name (codes "k")) (tree.Number 1)) ∷ [])) (lined.listed (lined.InitMutex 15 (member (codes "forks") (tree.Name (codes "k"))) ∷ []))
            ∷ lined.Create 16 (member (codes "t") (tree.Number 0)) (codes "phil") (tree.Number 0)
            ∷ lined.Create 17 (member (codes "t") (tree.Number 1)) (codes "phil") (tree.Number 1)
            ∷ lined.Create 18 (member (codes "t") (tree.Number 2)) (codes "phil") (tree.Number 2)
            ∷ lined.Join 19 (member (codes "t") (tree.Number 0))
            ∷ lined.Join 20 (member (codes "t") (tree.Number 1))
            ∷ lined.Join 21 (member (codes "t") (tree.Number 2))
            ∷ lined.Return 22 (Some (tree.Number 0))
            ∷ []);
        line = 13;
        end_line = 23;
      }
      ∷ [];
  cap_len = 0;
  cap_line = 0;
  end_line = 24;
}) 5)

abbrev pub defined_keyword_text : List (List ℕ)
defined_keyword_text =
    codes "#define\twhile\t7"
    ∷ codes "int x = while ;"
    ∷ []

-- A keyword that is defined is a number from there on, and no keyword.
abbrev pub DefinedKeyword : Type 0
DefinedKeyword = Spells 3 (words_of defined_keyword_text) (tall (record {
  ints = record { name = codes "x"; value = pos 7; line = 2 } ∷ [];
  arrays = [];
  mutexes = [];
  conds = [];
  threads = [];
  monitors = [];
  functions = [];
  cap_len = 0;
  cap_line = 0;
  end_line = 3;
}) 0)

-- ---- statements

abbrev pub assignments_text : List (List ℕ)
assignments_text =
    codes "x = 1 ; q [ i ] += 2 ; x -= y ; x *= 3 ; x /= 4 ; x %= 5 ;"
    ∷ codes "x ++ ; q [ 0 ] -- ; ++ x ; -- q [ 1 ] ;"
    ∷ []

-- Assignments, and those that are read as one.
abbrev pub Assignments : Type 0
Assignments = SpellsList kind.Main (items_of assignments_text) [] (tall (
    lined.Assign 1 (scalar (codes "x")) (tree.Number 1)
    ∷ lined.Assign 1 (member (codes "q") (tree.Name (codes "i"))) (tree.Binary op.Add (tree.Element (codes "q") (tree.Name (codes "i"))) (tree.Number 2))
    ∷ lined.Assign 1 (scalar (codes "x")) (tree.Binary op.Sub (tree.Name (codes "x")) (tree.Name (codes "y")))
    ∷ lined.Assign 1 (scalar (codes "x")) (tree.Binary op.Mul (tree.Name (codes "x")) (tree.Number 3))
    ∷ lined.Assign 1 (scalar (codes "x")) (tree.Binary op.Div (tree.Name (codes "x")) (tree.Number 4))
    ∷ lined.Assign 1 (scalar (codes "x")) (tree.Binary op.Rem (tree.Name (codes "x")) (tree.Number 5))
    ∷ lined.Assign 2 (scalar (codes "x")) (tree.Binary op.Add (tree.Name (codes "x")) (tree.Number 1))
    ∷ lined.Assign 2 (member (codes "q") (tree.Number 0)) (tree.Binary op.Sub (tree.Element (codes "q") (tree.Number 0)) (tree.Number 1))
    ∷ lined.Assign 2 (scalar (codes "x")) (tree.Binary op.Add (tree.Name (codes "x")) (tree.Number 1))
    ∷ lined.Assign 2 (member (codes "q") (tree.Number 1)) (tree.Binary op.Sub (tree.Element (codes "q") (tree.Number 1)) (tree.Number 1))
    ∷ []) 2)

abbrev pub calls_text : List (List ℕ)
calls_text =
    codes "int a , b = 2 , c = f ( b , 1 ) ;"
    ∷ codes "f ( ) ; x = g ( a ) ; q [ 0 ] = main ( ) ; k ( ) ; c ( ) ; m ( ) ;"
    ∷ []

-- Several declarations at once, a declaration by a call, which is two statements, and calls. `main`, `k`, `c` and `m` may be called.
abbrev pub Calls : Type 0
Calls = SpellsList kind.Main (items_of calls_text) [] (tall (
    lined.Declare 1 (codes "a") None
    ∷ lined.Declare 1 (codes "b") (Some (tree.Number 2))
    ∷ lined.Declare 1 (codes "c") None
    ∷ lined.Call 1 (Some (scalar (codes "c"))) (codes "f") (tree.listed (tree.Name (codes "b") ∷ tree.Number 1 ∷ []))
    ∷ lined.Call 2 None (codes "f") tree.Nil
    ∷ lined.Call 2 (Some (scalar (codes "x"))) (codes "g") (tree.listed (tree.Name (codes "a") ∷ []))
    ∷ lined.Call 2 (Some (member (codes "q") (tree.Number 0))) (codes "main") tree.Nil
    ∷ lined.Call 2 None (codes "k") tree.Nil
    ∷ lined.Call 2 None (codes "c") tree.Nil
    ∷ lined.Call 2 None (codes "m") tree.Nil
    ∷ []) 2)

abbrev pub library_calls_text : List (List ℕ)
library_calls_text =
    codes "scanf ( \"%d\" , & x ) ;"
    ∷ codes "printf ( \"hello\\n\" ) ; printf ( \"%d%d\" , x , y ) ;"
    ∷ codes "pthread_mutex_init ( & m , NULL ) ; pthread_cond_init ( & c , NULL ) ;"
    ∷ codes "pthread_mutex_lock ( & m ) ; pthread_cond_wait ( & c , & m ) ; pthread_mutex_unlock ( & m [ 1 ] ) ;"
    ∷ codes "pthread_cond_signal ( & c ) ; pthread_cond_broadcast ( & c ) ;"
    ∷ []

-- The calls of the library and of POSIX threads.
abbrev pub LibraryCalls : Type 0
LibraryCalls = SpellsList kind.Main (items_of library_calls_text) [] (tall (
    lined.Read 1 (scalar (codes "x"))
    ∷ lined.Print 2 (codes "hello\\n") tree.Nil
    ∷ lined.Print 2 (codes "%d%d") (tree.listed (tree.Name (codes "x") ∷ tree.Name (codes "y") ∷ []))
    ∷ lined.InitMutex 3 (scalar (codes "m"))
    ∷ lined.InitCond 3 (scalar (codes "c"))
    ∷ lined.Lock 4 (scalar (codes "m"))
    ∷ lined.Wait 4 (scalar (codes "c")) (scalar (codes "m")) []
    ∷ lined.Unlock 4 (member (codes "m") (tree.Number 1))
    ∷ lined.Signal 5 (scalar (codes "c"))
    ∷ lined.Broadcast 5 (scalar (codes "c"))
    ∷ []) 2)

abbrev pub expressions_text : List (List ℕ)
expressions_text =
    codes "x = a - b - c ; x = a - ( b - c ) ;"
    ∷ codes "x = a * b / c % d + e ; x = a + b < c ; x = a <= b == c ;"
    ∷ codes "x = a > b != ( c >= d ) ; x = a || b && c || d ;"
    ∷ codes "x = ! - a ; x = - - 1 ; x = ! a + b ; x = q [ q [ 0 ] + 1 ] ;"
    ∷ []

-- Operators of each looseness; those of one looseness group to the left.
abbrev pub Expressions : Type 0
Expressions = SpellsList kind.Main (items_of expressions_text) [] (tall (
    lined.Assign 1 (scalar (codes "x")) (tree.Binary op.Sub (tree.Binary op.Sub (tree.Name (codes "a")) (tree.Name (codes "b"))) (tree.Name (codes "c")))
    ∷ lined.Assign 1 (scalar (codes "x")) (tree.Binary op.Sub (tree.Name (codes "a")) (tree.Binary op.Sub (tree.Name (codes "b")) (tree.Name (codes "c"))))
    ∷ lined.Assign 2 (scalar (codes "x")) (tree.Binary op.Add (tree.Binary op.Rem (tree.Binary op.Div (tree.Binary op.Mul (tree.Name (codes "a")) (tree.Name (codes "b"))) (tree.Name (codes "c"))) (tree.Name (codes "d"))) (tree.Name (codes "e")))
    ∷ lined.Assign 2 (scalar (codes "x")) (tree.Binary op.Lt (tree.Binary op.Add (tree.Name (codes "a")) (tree.Name (codes "b"))) (tree.Name (codes "c")))
    ∷ lined.Assign 2 (scalar (codes "x")) (tree.Binary op.Eq (tree.Binary op.Le (tree.Name (codes "a")) (tree.Name (codes "b"))) (tree.Name (codes "c")))
    ∷ lined.Assign 3 (scalar (codes "x")) (tree.Binary op.Ne (tree.Binary op.Gt (tree.Name (codes "a")) (tree.Name (codes "b"))) (tree.Binary op.Ge (tree.Name (codes "c")) (tree.Name (codes "d"))))
    ∷ lined.Assign 3 (scalar (codes "x")) (tree.Binary op.Or (tree.Binary op.Or (tree.Name (codes "a")) (tree.Binary op.And (tree.Name (codes "b")) (tree.Name (codes "c")))) (tree.Name (codes "d")))
    ∷ lined.Assign 4 (scalar (codes "x")) (tree.Not (tree.Minus (tree.Name (codes "a"))))
    ∷ lined.Assign 4 (scalar (codes "x")) (tree.Minus (tree.Minus (tree.Number 1)))
    ∷ lined.Assign 4 (scalar (codes "x")) (tree.Binary op.Add (tree.Not (tree.Name (codes "a"))) (tree.Name (codes "b")))
    ∷ lined.Assign 4 (scalar (codes "x")) (tree.Element (codes "q") (tree.Binary op.Add (tree.Element (codes "q") (tree.Number 0)) (tree.Number 1)))
    ∷ []) 6)

abbrev pub casts_text : List (List ℕ)
casts_text =
    codes "x = ( long ) arg ; x = ( intptr_t ) arg ; x = ( int ) ( long ) arg ;"
    ∷ codes "x = ( intptr_t ) ; x = printf + NULL ;"
    ∷ []

-- A cast of a name is an argument of a thread. The names of types and of the library are names like others.
abbrev pub Casts : Type 0
Casts = SpellsList kind.Main (items_of casts_text) [] (tall (
    lined.Assign 1 (scalar (codes "x")) (tree.Arg (codes "arg"))
    ∷ lined.Assign 1 (scalar (codes "x")) (tree.Arg (codes "arg"))
    ∷ lined.Assign 1 (scalar (codes "x")) (tree.Arg (codes "arg"))
    ∷ lined.Assign 2 (scalar (codes "x")) (tree.Name (codes "intptr_t"))
    ∷ lined.Assign 2 (scalar (codes "x")) (tree.Binary op.Add (tree.Name (codes "printf")) (tree.Name (codes "NULL")))
    ∷ []) 3)

abbrev pub choices_text : List (List ℕ)
choices_text =
    codes "if ( a ) if ( b ) x = 1 ; else x = 2 ;"
    ∷ codes "if ( a ) { if ( b ) ; } else if ( c ) ; else { x = 3 ; x = 4 ; }"
    ∷ []

-- An `else` belongs to the nearest `if` before it that has none.
abbrev pub Choices : Type 0
Choices = SpellsList kind.Main (items_of choices_text) [] (tall (
    lined.If 1 (tree.Name (codes "a")) (lined.listed (lined.If 1 (tree.Name (codes "b")) (lined.listed (lined.Assign 1 (scalar (codes "x")) (tree.Number 1) ∷ [])) (lined.listed (lined.Assign 1 (scalar (codes "x")) (tree.Number 2) ∷ [])) ∷ [])) lined.Nil
    ∷ lined.If 2 (tree.Name (codes "a")) (lined.listed (lined.If 2 (tree.Name (codes "b")) lined.Nil lined.Nil ∷ [])) (lined.listed (lined.If 2 (tree.Name (codes "c")) lined.Nil (lined.listed (lined.Assign 2 (scalar (codes "x")) (tree.Number 3) ∷ lined.Assign 2 (scalar (codes "x")) (tree.Number 4) ∷ [])) ∷ []))
    ∷ []) 4)

abbrev pub trylocks_text : List (List ℕ)
trylocks_text =
    codes "if ( pthread_mutex_trylock ( & a ) ) x = 1 ; else x = 2 ;"
    ∷ codes "if ( ! pthread_mutex_trylock ( & a [ i ] ) ) x = 1 ; else x = 2 ;"
    ∷ codes "if ( pthread_mutex_trylock ( & a ) == 0 ) x = 1 ; else x = 2 ;"
    ∷ codes "if ( pthread_mutex_trylock ( & a [ 0 ] ) != 0 ) x = 1 ; else x = 2 ;"
    ∷ codes "if ( pthread_mutex_trylock ( & a ) ) x = 1 ;"
    ∷ codes "if ( ! pthread_mutex_trylock ( & a [ i ] ) ) x = 1 ;"
    ∷ codes "if ( pthread_mutex_trylock ( & a ) == 0 ) x = 1 ;"
    ∷ codes "if ( pthread_mutex_trylock ( & a [ 0 ] ) != 0 ) x = 1 ;"
    ∷ []

-- A trylock in its four spellings, with an `else` and without: it gives 0 where it took the mutex.
abbrev pub Trylocks : Type 0
Trylocks = SpellsList kind.Main (items_of trylocks_text) [] (tall (
    lined.TryLock 1 (scalar (codes "a")) (lined.listed (lined.Assign 1 (scalar (codes "x")) (tree.Number 2) ∷ [])) (lined.listed (lined.Assign 1 (scalar (codes "x")) (tree.Number 1) ∷ []))
    ∷ lined.TryLock 2 (member (codes "a") (tree.Name (codes "i"))) (lined.listed (lined.Assign 2 (scalar (codes "x")) (tree.Number 1) ∷ [])) (lined.listed (lined.Assign 2 (scalar (codes "x")) (tree.Number 2) ∷ []))
    ∷ lined.TryLock 3 (scalar (codes "a")) (lined.listed (lined.Assign 3 (scalar (codes "x")) (tree.Number 1) ∷ [])) (lined.listed (lined.Assign 3 (scalar (codes "x")) (tree.Number 2) ∷ []))
    ∷ lined.TryLock 4 (member (codes "a") (tree.Number 0)) (lined.listed (lined.Assign 4 (scalar (codes "x")) (tree.Number 2) ∷ [])) (lined.listed (lined.Assign 4 (scalar (codes "x")) (tree.Number 1) ∷ []))
    ∷ lined.TryLock 5 (scalar (codes "a")) lined.Nil (lined.listed (lined.Assign 5 (scalar (codes "x")) (tree.Number 1) ∷ []))
    ∷ lined.TryLock 6 (member (codes "a") (tree.Name (codes "i"))) (lined.listed (lined.Assign 6 (scalar (codes "x")) (tree.Number 1) ∷ [])) lined.Nil
    ∷ lined.TryLock 7 (scalar (codes "a")) (lined.listed (lined.Assign 7 (scalar (codes "x")) (tree.Number 1) ∷ [])) lined.Nil
    ∷ lined.TryLock 8 (member (codes "a") (tree.Number 0)) lined.Nil (lined.listed (lined.Assign 8 (scalar (codes "x")) (tree.Number 1) ∷ []))
    ∷ []) 4)

abbrev pub loops_text : List (List ℕ)
loops_text =
    codes "while ( x ) x -- ;"
    ∷ codes "for ( ; ; ) { }"
    ∷ codes "for ( int i = 0 ; i < 3 ; i ++ ) x = i ;"
    ∷ codes "for ( x = 0 ; 1 ; ) if ( a ) ;"
    ∷ []

-- Loops with and without their parts. A missing test is the number 1.
abbrev pub Loops : Type 0
Loops = SpellsList kind.Main (items_of loops_text) [] (tall (
    lined.While 1 (tree.Name (codes "x")) (lined.listed (lined.Assign 1 (scalar (codes "x")) (tree.Binary op.Sub (tree.Name (codes "x")) (tree.Number 1)) ∷ []))
    ∷ lined.For 2 lined.Nil (tree.Number 1) lined.Nil lined.Nil
    ∷ lined.For 3 (lined.listed (lined.Declare 3 (codes "i") (Some (tree.Number 0)) ∷ [])) (tree.Binary op.Lt (tree.Name (codes "i")) (tree.Number 3)) (lined.listed (lined.Assign 3 (scalar (codes "i")) (tree.Binary op.Add (tree.Name (codes "i")) (tree.Number 1)) ∷ [])) (lined.listed (lined.Assign 3 (scalar (codes "x")) (tree.Name (codes "i")) ∷ []))
    ∷ lined.For 4 (lined.listed (lined.Assign 4 (scalar (codes "x")) (tree.Number 0) ∷ [])) (tree.Number 1) lined.Nil (lined.listed (lined.If 4 (tree.Name (codes "a")) lined.Nil lined.Nil ∷ []))
    ∷ []) 3)

abbrev pub lines_text : List (List ℕ)
lines_text =
    codes "q"
    ∷ codes "[ 0 ] = 1 ; ++"
    ∷ codes "x ; int"
    ∷ codes "y"
    ∷ codes "= f ( ) ; for"
    ∷ codes "( int"
    ∷ codes "i = 0 ; ; i"
    ∷ codes "++ )"
    ∷ codes "{ } return"
    ∷ codes "0 ;"
    ∷ []

-- A statement has the line of its first token; a declaration, and a call in one, that of the name.
abbrev pub Lines : Type 0
Lines = SpellsList kind.Main (items_of lines_text) [] (tall (
    lined.Assign 1 (member (codes "q") (tree.Number 0)) (tree.Number 1)
    ∷ lined.Assign 2 (scalar (codes "x")) (tree.Binary op.Add (tree.Name (codes "x")) (tree.Number 1))
    ∷ lined.Declare 4 (codes "y") None
    ∷ lined.Call 4 (Some (scalar (codes "y"))) (codes "f") tree.Nil
    ∷ lined.For 5 (lined.listed (lined.Declare 7 (codes "i") (Some (tree.Number 0)) ∷ [])) (tree.Number 1) (lined.listed (lined.Assign 7 (scalar (codes "i")) (tree.Binary op.Add (tree.Name (codes "i")) (tree.Number 1)) ∷ [])) lined.Nil
    ∷ lined.Return 9 (Some (tree.Number 0))
    ∷ []) 2)
