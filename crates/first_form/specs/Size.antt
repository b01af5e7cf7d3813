-- How many tokens the text of the first form has that spells a program. In that text a statement of each kind is spelled in one way.
use Rattle.std.specs.Prelude.{ℕ, ◌+◌, ◌*◌, nat_le, Bool, ◌&&◌, length, map, sum}
use Rattle.c_tree.specs.declared.program.Kind.{Kind}
use Rattle.c_tree.specs.declared.program.Kind.TheVariants as k
use Rattle.c_tree.specs.Bare.{Stmt, Stmts, Nil, Cons, Assign, Lock, Unlock, Create, Join, Return, Function, Program}
use Rattle.first_form.specs.FirstForm.{is_first_form}

-- `x = x + 1 ;`, `pthread_mutex_lock ( & a ) ;`, `pthread_create ( & t [ 0 ] , NULL , f , NULL ) ;`, `pthread_join ( t [ 0 ] , NULL ) ;` and
-- `return NULL ;`; the first form has no others.
abbrev pub stmt_tokens : Stmt → ℕ
stmt_tokens (Assign target value) = 6
stmt_tokens (Lock place) = 6
stmt_tokens (Unlock place) = 6
stmt_tokens (Create slot function arg) = 15
stmt_tokens (Join slot) = 10
stmt_tokens (Return value) = 3
stmt_tokens other = 0

abbrev pub body_tokens : Stmts → ℕ
body_tokens Nil = 0
body_tokens (Cons first rest) = stmt_tokens first + body_tokens rest

-- `int main ( void ) {` or `void * f ( void * x ) {`, and `}`
abbrev pub head_tokens : Kind → ℕ
head_tokens k.Main = 7
head_tokens kind = 10

abbrev pub function_tokens : Function → ℕ
function_tokens f = head_tokens f.kind + body_tokens f.body

-- `int x ;`, `pthread_mutex_t a = PTHREAD_MUTEX_INITIALIZER ;`, `pthread_t t [ 2 ] ;`, and functions
abbrev pub first_tokens : Program → ℕ
first_tokens p = 3 * length p.ints + (5 * length p.mutexes + (6 * length p.threads + sum (map function_tokens p.functions)))

-- Some text of the first form spells the program within the limit of tokens.
abbrev pub has_first_text : Program → Bool
has_first_text p = is_first_form p && nat_le (first_tokens p) 65536
