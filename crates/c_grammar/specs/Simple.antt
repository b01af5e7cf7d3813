-- Statements that hold no others (ISO/IEC 9899:1999, sections 6.5.16, 6.7, 6.8.3 and 6.8.6.4, narrowed, and the calls of POSIX threads).
use Rattle.std.specs.Prelude.{◌≡◌, ℕ, max, List, [], ◌∷◌, codes, Option, Some, None}
use Rattle.c_lexer.specs.declared.token.Sign.{Sign}
use Rattle.c_lexer.specs.declared.token.Sign.TheVariants as s
use Rattle.c_tree.specs.declared.expr.Op.{Op}
use Rattle.c_tree.specs.declared.expr.Op.TheVariants as op
use Rattle.c_tree.specs.declared.program.Kind.{Kind}
use Rattle.c_tree.specs.declared.program.Kind.TheVariants as kind
use Rattle.c_tree.specs.Expressions as tree
use Rattle.c_tree.specs.Expressions.{Expr, Place}
use Rattle.c_tree.specs.Lined as lined
use Rattle.c_tree.specs.Lined.{Stmt}
use Rattle.c_grammar.specs.declared.words.FixedWord.TheVariants as w
use Rattle.c_grammar.specs.Items.{What, Item, at, sign, fixed, line_at, name_of}
use Rattle.c_grammar.specs.Levels.{Tall, tall, over, alone, together}
use Rattle.c_grammar.specs.Commas.{Commas}
use Rattle.c_grammar.specs.Expressions.{SpellsWhole, SpellsExpressions, arguments, levels_of, SpellsPlace, SpellsAddress, value_at, Called, SpellsCall, SpellsArgument}

-- A statement has the line of its first token, but for declarations, which have that of the name. What stands in it is one level below it.

-- ---- assignments

-- OPEQ: the operator in a sign that changes a place
abbrev pub changing : Sign → Option Op
changing s.AddAssign = Some op.Add
changing s.SubtractAssign = Some op.Sub
changing s.MultiplyAssign = Some op.Mul
changing s.DivideAssign = Some op.Div
changing s.RemainderAssign = Some op.Rem
changing other = None

-- ++ or --
abbrev pub counting : Sign → Option Op
counting s.Increment = Some op.Add
counting s.Decrement = Some op.Sub
counting other = None

-- place = place OP (e)
abbrev pub changed : ℕ → Op → Place → Expr → Stmt
changed line o p e = lined.Assign line p (tree.Binary o (value_at p) e)

-- step = place = e | place OPEQ e | place ++ | place -- | ++ place | -- place
pub data SpellsStep : List Item → List Item → Tall (List Stmt) → Type 0 where
  assign : {l : ℕ} {ts mid rest : List Item} {p : Tall Place} {e : Tall Expr}
      → SpellsPlace ts (sign l s.Assign ∷ mid) p → SpellsWhole mid rest e
      → SpellsStep ts rest (alone (lined.Assign (line_at ts) p.tree e.tree) (max p.levels e.levels))
  -- the levels are those of the text: the operator adds none
  change : {l : ℕ} {ts mid rest : List Item} {p : Tall Place} {e : Tall Expr} {t : Sign} {o : Op}
      → SpellsPlace ts (sign l t ∷ mid) p → changing t ≡ Some o → SpellsWhole mid rest e
      → SpellsStep ts rest (alone (changed (line_at ts) o p.tree e.tree) (max p.levels e.levels))
  count_after : {l : ℕ} {ts rest : List Item} {p : Tall Place} {t : Sign} {o : Op}
      → SpellsPlace ts (sign l t ∷ rest) p → counting t ≡ Some o
      → SpellsStep ts rest (alone (changed (line_at ts) o p.tree (tree.Number 1)) p.levels)
  count_before : {l : ℕ} {ts rest : List Item} {p : Tall Place} {t : Sign} {o : Op}
      → counting t ≡ Some o → SpellsPlace ts rest p
      → SpellsStep (sign l t ∷ ts) rest (alone (changed l o p.tree (tree.Number 1)) p.levels)

-- ---- declarations

-- A scalar as a place.
abbrev pub scalar_named : List ℕ → Place
scalar_named n = record { name = n; index = None }

-- The two statements that a declaration by the result of a call is.
abbrev pub declared_by : ℕ → List ℕ → Called → List Stmt
declared_by line n c = lined.Declare line n None ∷ lined.Call line (Some (scalar_named n)) c.function c.args ∷ []

-- dcl = N | N = e | N = call
pub data SpellsDeclarator : List Item → List Item → Tall (List Stmt) → Type 0 where
  bare : {l : ℕ} {a : What} {n : List ℕ} {rest : List Item}
      → name_of a ≡ Some n → SpellsDeclarator (at l a ∷ rest) rest (alone (lined.Declare l n None) 0)
  by_value : {l m : ℕ} {a : What} {n : List ℕ} {ts rest : List Item} {e : Tall Expr}
      → name_of a ≡ Some n → SpellsWhole ts rest e
      → SpellsDeclarator (at l a ∷ sign m s.Assign ∷ ts) rest (alone (lined.Declare l n (Some e.tree)) e.levels)
  by_call : {l m : ℕ} {a : What} {n : List ℕ} {ts rest : List Item} {c : Tall Called}
      → name_of a ≡ Some n → SpellsCall ts rest c
      → SpellsDeclarator (at l a ∷ sign m s.Assign ∷ ts) rest (over (declared_by l n c.tree) c.levels)

-- ---- results

-- result, by the kind of the function: an expression in `int` functions and main, nothing in `void` functions,
-- and `NULL` or `0` in the functions of threads, where it is no value
pub data SpellsResult : Kind → List Item → List Item → Tall (Option Expr) → Type 0 where
  of_main : {ts rest : List Item} {e : Tall Expr} → SpellsWhole ts rest e → SpellsResult kind.Main ts rest (tall (Some e.tree) e.levels)
  of_int : {ts rest : List Item} {e : Tall Expr} → SpellsWhole ts rest e → SpellsResult kind.Int ts rest (tall (Some e.tree) e.levels)
  of_void : {ts : List Item} → SpellsResult kind.Void ts ts (tall None 0)
  null_of_thread : {l : ℕ} {rest : List Item} → SpellsResult kind.Thread (fixed l w.Null ∷ rest) rest (tall None 0)
  zero_of_thread : {l : ℕ} {rest : List Item} → SpellsResult kind.Thread (at l (What.Number 0) ∷ rest) rest (tall None 0)

-- ---- numbers

-- K
pub data SpellsNumber : List Item → List Item → ℕ → Type 0 where
  number : {l k : ℕ} {rest : List Item} → SpellsNumber (at l (What.Number k) ∷ rest) rest k

-- ---- simple statements, without their `;`

abbrev pub number_format : List ℕ
number_format = codes "%d"

-- simple, in a function of this kind
pub data SpellsSimple : Kind → List Item → List Item → Tall (List Stmt) → Type 0 where
  step : {k : Kind} {ts rest : List Item} {x : Tall (List Stmt)} → SpellsStep ts rest x → SpellsSimple k ts rest x
  -- int dcl {, dcl}
  declare : {k : Kind} {l : ℕ} {ts rest : List Item} {all : List (Tall (List Stmt))}
      → Commas SpellsDeclarator ts rest all → SpellsSimple k (fixed l w.Int ∷ ts) rest (together all)
  -- [place =] call
  call : {k : Kind} {ts rest : List Item} {c : Tall Called}
      → SpellsCall ts rest c → SpellsSimple k ts rest (alone (lined.Call (line_at ts) None c.tree.function c.tree.args) c.levels)
  call_into : {k : Kind} {l : ℕ} {ts mid rest : List Item} {p : Tall Place} {c : Tall Called}
      → SpellsPlace ts (sign l s.Assign ∷ mid) p → SpellsCall mid rest c
      → SpellsSimple k ts rest (alone (lined.Call (line_at ts) (Some p.tree) c.tree.function c.tree.args) (max p.levels c.levels))
  -- return [result]
  give_back : {k : Kind} {l : ℕ} {ts rest : List Item} {r : Tall (Option Expr)}
      → SpellsResult k ts rest r → SpellsSimple k (fixed l w.Return ∷ ts) rest (alone (lined.Return l r.tree) r.levels)
  -- scanf ( "%d" , & place )
  scan : {k : Kind} {l m n i j : ℕ} {ts rest : List Item} {p : Tall Place}
      → SpellsAddress ts (sign j s.RightParenthesis ∷ rest) p
      → SpellsSimple k (fixed l w.Scan ∷ sign m s.LeftParenthesis ∷ at n (What.Text number_format) ∷ sign i s.Comma ∷ ts) rest
      (alone (lined.Read l p.tree) p.levels)
  -- printf ( S {, e} )
  print : {k : Kind} {l m n i : ℕ} {format : List ℕ} {rest : List Item}
      → SpellsSimple k (fixed l w.Print ∷ sign m s.LeftParenthesis ∷ at n (What.Text format) ∷ sign i s.RightParenthesis ∷ rest) rest
      (alone (lined.Print l format (arguments [])) 0)
  print_with : {k : Kind} {l m n i j : ℕ} {format : List ℕ} {ts rest : List Item} {all : List (Tall Expr)}
      → SpellsExpressions ts (sign j s.RightParenthesis ∷ rest) all
      → SpellsSimple k (fixed l w.Print ∷ sign m s.LeftParenthesis ∷ at n (What.Text format) ∷ sign i s.Comma ∷ ts) rest
      (alone (lined.Print l format (arguments all)) (levels_of all))
  -- pthread_create ( & place , NULL , N , arg )
  create : {k : Kind} {l m n i j g h d : ℕ} {a : What} {f : List ℕ} {ts mid rest : List Item} {p : Tall Place} {e : Tall Expr}
      → SpellsAddress ts (sign n s.Comma ∷ fixed i w.Null ∷ sign j s.Comma ∷ at g a ∷ sign h s.Comma ∷ mid) p
      → name_of a ≡ Some f → SpellsArgument mid (sign d s.RightParenthesis ∷ rest) e
      → SpellsSimple k (fixed l w.Create ∷ sign m s.LeftParenthesis ∷ ts) rest (alone (lined.Create l p.tree f e.tree) (max p.levels e.levels))
  -- pthread_join ( place , NULL )
  join : {k : Kind} {l m n i j : ℕ} {ts rest : List Item} {p : Tall Place}
      → SpellsPlace ts (sign n s.Comma ∷ fixed i w.Null ∷ sign j s.RightParenthesis ∷ rest) p
      → SpellsSimple k (fixed l w.Join ∷ sign m s.LeftParenthesis ∷ ts) rest (alone (lined.Join l p.tree) p.levels)
  -- pthread_mutex_init ( & place , NULL )
  init_mutex : {k : Kind} {l m n i j : ℕ} {ts rest : List Item} {p : Tall Place}
      → SpellsAddress ts (sign n s.Comma ∷ fixed i w.Null ∷ sign j s.RightParenthesis ∷ rest) p
      → SpellsSimple k (fixed l w.InitMutex ∷ sign m s.LeftParenthesis ∷ ts) rest (alone (lined.InitMutex l p.tree) p.levels)
  -- pthread_cond_init ( & place , NULL )
  init_condition : {k : Kind} {l m n i j : ℕ} {ts rest : List Item} {p : Tall Place}
      → SpellsAddress ts (sign n s.Comma ∷ fixed i w.Null ∷ sign j s.RightParenthesis ∷ rest) p
      → SpellsSimple k (fixed l w.InitCondition ∷ sign m s.LeftParenthesis ∷ ts) rest (alone (lined.InitCond l p.tree) p.levels)
  -- pthread_mutex_lock ( & place )
  lock : {k : Kind} {l m n : ℕ} {ts rest : List Item} {p : Tall Place}
      → SpellsAddress ts (sign n s.RightParenthesis ∷ rest) p
      → SpellsSimple k (fixed l w.Lock ∷ sign m s.LeftParenthesis ∷ ts) rest (alone (lined.Lock l p.tree) p.levels)
  -- pthread_mutex_unlock ( & place )
  unlock : {k : Kind} {l m n : ℕ} {ts rest : List Item} {p : Tall Place}
      → SpellsAddress ts (sign n s.RightParenthesis ∷ rest) p
      → SpellsSimple k (fixed l w.Unlock ∷ sign m s.LeftParenthesis ∷ ts) rest (alone (lined.Unlock l p.tree) p.levels)
  -- pthread_cond_wait ( & place , & place )
  wait : {k : Kind} {l m n i : ℕ} {ts mid rest : List Item} {p q : Tall Place}
      → SpellsAddress ts (sign n s.Comma ∷ mid) p → SpellsAddress mid (sign i s.RightParenthesis ∷ rest) q
      → SpellsSimple k (fixed l w.Wait ∷ sign m s.LeftParenthesis ∷ ts) rest (alone (lined.Wait l p.tree q.tree []) (max p.levels q.levels))
  -- pthread_cond_signal ( & place )
  signal : {k : Kind} {l m n : ℕ} {ts rest : List Item} {p : Tall Place}
      → SpellsAddress ts (sign n s.RightParenthesis ∷ rest) p
      → SpellsSimple k (fixed l w.Signal ∷ sign m s.LeftParenthesis ∷ ts) rest (alone (lined.Signal l p.tree) p.levels)
  -- pthread_cond_broadcast ( & place )
  broadcast : {k : Kind} {l m n : ℕ} {ts rest : List Item} {p : Tall Place}
      → SpellsAddress ts (sign n s.RightParenthesis ∷ rest) p
      → SpellsSimple k (fixed l w.Broadcast ∷ sign m s.LeftParenthesis ∷ ts) rest (alone (lined.Broadcast l p.tree) p.levels)
  -- gd_take ( K )
  take : {k : Kind} {l m n i monitor : ℕ} {rest : List Item}
      → SpellsSimple k (fixed l w.Take ∷ sign m s.LeftParenthesis ∷ at n (What.Number monitor) ∷ sign i s.RightParenthesis ∷ rest) rest
      (alone (lined.Take l monitor) 0)
  -- gd_give ( K )
  give : {k : Kind} {l m n i monitor : ℕ} {rest : List Item}
      → SpellsSimple k (fixed l w.Give ∷ sign m s.LeftParenthesis ∷ at n (What.Number monitor) ∷ sign i s.RightParenthesis ∷ rest) rest
      (alone (lined.Give l monitor) 0)
  -- gd_cond_wait ( & place , & place , K {, K} , - 1 )
  controlled_wait : {k : Kind} {l m n i j g h d : ℕ} {ts mid next rest : List Item} {p q : Tall Place} {takes : List ℕ}
      → SpellsAddress ts (sign n s.Comma ∷ mid) p → SpellsAddress mid (sign i s.Comma ∷ next) q
      → Commas SpellsNumber next (sign j s.Comma ∷ sign g s.Minus ∷ at h (What.Number 1) ∷ sign d s.RightParenthesis ∷ rest) takes
      → SpellsSimple k (fixed l w.ControlledWait ∷ sign m s.LeftParenthesis ∷ ts) rest (alone (lined.Wait l p.tree q.tree takes) (max p.levels q.levels))
