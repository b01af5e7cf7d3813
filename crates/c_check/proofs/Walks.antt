-- What statements break with those that they hold.
use Rattle.std.proofs.Common.{◌≡◌, ℕ, zero, suc, arith, ◌+◌, ◌<◌, ◌≤◌, Bool, true, false, ◌||◌, List, [], ◌∷◌, ◌++◌, length, get_or, take, drop, refl, sym, ap, ◌∙◌, bytes_eq}
use Rattle.std.specs.declared.option.Option.{Option}
use Rattle.std.specs.List.{list_any}
use Rattle.std.proofs.lemmas.List.{drop_more, drop_all, length-take}
use Rattle.std.proofs.lemmas.List.Folds.{list_any-append}
use denote.Ref.{Bor}
use Rattle.c_tree.specs.declared.stmt.Stmt as declared_stmt
use Rattle.c_tree.specs.Expressions.{Expr, Place}
use Rattle.c_tree.specs.Lined.{Stmt, Stmts, Declare, If, While, For, TryLock, stmt_of, stmts_of}
use Rattle.c_rules.specs.Names.{mentions}
use Rattle.c_rules.specs.Sites.{declared, locals_of}
use Rattle.c_rules.specs.declared.role.Role.TheVariants.{OfMutex}
use Rattle.c_rules.specs.Uses.{of_expr, of_value, of_place}
use Rattle.c_acts.specs.declared.first.Break.{Break}
use Rattle.c_acts.specs.First.{noted_all}
use Rattle.c_acts.specs.Uses.{Around, uses_breaks}
use Rattle.c_acts.specs.Acts.{local_breaks, declare_breaks, entered}
use Rattle.c_check.specs.Walk.{with_names, stmt_breaks, list_breaks, nest_breaks}
use Rattle.c_acts.proofs.Noted.{noted_append, noted_both}

abbrev pub Names : Type 0
Names = List ℕ → Bool

module _ (a : Around) where
  -- a declaration and then its value, in which the name is in scope
  pub declare_breaks_both : (inside now : Names) (f g h : Option Break) (line : ℕ) (name : List ℕ) (value : Option Expr) → now ≡ entered name inside
      → g ≡ noted_all f (local_breaks a inside name line) → h ≡ noted_all g (uses_breaks a now line (of_value value)) → h ≡ noted_all f (declare_breaks a inside line name value)
  declare_breaks_both inside now f g h line name value is p q =
      noted_both f g h (local_breaks a inside name line) (uses_breaks a (entered name inside) line (of_value value)) p
      (q ∙ ap (λ i. noted_all g (uses_breaks a i line (of_value value))) is)

  pub declare_stmt : (inside : Names) (u late : Bool) (f g : Option Break) (s : Stmt) (line : ℕ) (name : List ℕ) (value : Option Expr) → s ≡ Declare line name value
      → g ≡ noted_all f (declare_breaks a inside line name value) → g ≡ noted_all f (stmt_breaks a inside u late s)
  declare_stmt inside u late f g s line name value is p = p ∙ ap (λ x. noted_all f (stmt_breaks a inside u late x)) (sym is)

  pub if_stmt : (inside in1 in2 : Names) (late : Bool) (f g h k : Option Break) (s : Stmt) (line : ℕ) (test : Expr) (x y : Stmts) → s ≡ If line test x y
      → in1 ≡ inside → in2 ≡ inside → g ≡ noted_all f (list_breaks a inside late x) → h ≡ noted_all g (list_breaks a in1 late y) → k ≡ noted_all h (uses_breaks a in2 line (of_expr test))
      → k ≡ noted_all f (nest_breaks a inside late s)
  if_stmt inside in1 in2 late f g h k s line test x y is i1 i2 p q r =
      noted_both f g k (list_breaks a inside late x) (list_breaks a inside late y ++ uses_breaks a inside line (of_expr test)) p
      (noted_both g h k (list_breaks a inside late y) (uses_breaks a inside line (of_expr test))
      (q ∙ ap (λ i. noted_all g (list_breaks a i late y)) i1) (r ∙ ap (λ i. noted_all h (uses_breaks a i line (of_expr test))) i2))
      ∙ ap (λ z. noted_all f (nest_breaks a inside late z)) (sym is)

  pub try_stmt : (inside in1 in2 : Names) (late : Bool) (f g h k : Option Break) (s : Stmt) (line : ℕ) (place : Place) (x y : Stmts) → s ≡ TryLock line place x y
      → in1 ≡ inside → in2 ≡ inside → g ≡ noted_all f (list_breaks a inside late x) → h ≡ noted_all g (list_breaks a in1 late y) → k ≡ noted_all h (uses_breaks a in2 line (of_place OfMutex place))
      → k ≡ noted_all f (nest_breaks a inside late s)
  try_stmt inside in1 in2 late f g h k s line place x y is i1 i2 p q r =
      noted_both f g k (list_breaks a inside late x) (list_breaks a inside late y ++ uses_breaks a inside line (of_place OfMutex place)) p
      (noted_both g h k (list_breaks a inside late y) (uses_breaks a inside line (of_place OfMutex place))
      (q ∙ ap (λ i. noted_all g (list_breaks a i late y)) i1) (r ∙ ap (λ i. noted_all h (uses_breaks a i line (of_place OfMutex place))) i2))
      ∙ ap (λ z. noted_all f (nest_breaks a inside late z)) (sym is)

  pub while_stmt : (inside in1 : Names) (late : Bool) (f g k : Option Break) (s : Stmt) (line : ℕ) (test : Expr) (x : Stmts) → s ≡ While line test x
      → in1 ≡ inside → g ≡ noted_all f (list_breaks a inside late x) → k ≡ noted_all g (uses_breaks a in1 line (of_expr test)) → k ≡ noted_all f (nest_breaks a inside late s)
  while_stmt inside in1 late f g k s line test x is i1 p r =
      noted_both f g k (list_breaks a inside late x) (uses_breaks a inside line (of_expr test)) p (r ∙ ap (λ i. noted_all g (uses_breaks a i line (of_expr test))) i1)
      ∙ ap (λ z. noted_all f (nest_breaks a inside late z)) (sym is)

  pub for_stmt : (inside in1 in2 in3 : Names) (late : Bool) (f g h j k : Option Break) (s : Stmt) (line : ℕ) (part : Stmts) (test : Expr) (step body : Stmts) → s ≡ For line part test step body
      → in1 ≡ with_names (locals_of part) inside → in2 ≡ in1 → in3 ≡ in2
      → g ≡ noted_all f (list_breaks a inside late part) → h ≡ noted_all g (list_breaks a in1 late step) → j ≡ noted_all h (list_breaks a in2 late body)
      → k ≡ noted_all j (uses_breaks a in3 line (of_expr test)) → k ≡ noted_all f (nest_breaks a inside late s)
  for_stmt inside in1 in2 in3 late f g h j k s line part test step body is i1 i2 i3 p q r t =
      let all : Names = with_names (locals_of part) inside in
      noted_both f g k (list_breaks a inside late part) (list_breaks a all late step ++ (list_breaks a all late body ++ uses_breaks a all line (of_expr test))) p
      (noted_both g h k (list_breaks a all late step) (list_breaks a all late body ++ uses_breaks a all line (of_expr test))
      (q ∙ ap (λ i. noted_all g (list_breaks a i late step)) i1)
      (noted_both h j k (list_breaks a all late body) (uses_breaks a all line (of_expr test))
      (r ∙ ap (λ i. noted_all h (list_breaks a i late body)) (i2 ∙ i1))
      (t ∙ ap (λ i. noted_all j (uses_breaks a i line (of_expr test))) (i3 ∙ i2 ∙ i1))))
      ∙ ap (λ z. noted_all f (nest_breaks a inside late z)) (sym is)

-- ---- scopes

pub same_tests : (f g : Names) → ((n : List ℕ) → f n ≡ g n) → f ≡ g
same_tests f g h = λ i n. h n i

abbrev pub among : List (Bor (List ℕ)) → Names
among keys n = list_any (λ key. bytes_eq n key.now) keys

pub same_scope : (old new : List (Bor (List ℕ))) → new ≡ old → among new ≡ among old
same_scope old new e = ap among e

regroup : (a b c : Bool) → ((a || b) || c) ≡ (a || (b || c))
regroup true b c = refl
regroup false b c = refl

pub with_more : (names more : List (List ℕ)) (inside : Names) → with_names (names ++ more) inside ≡ with_names names (with_names more inside)
with_more names more inside = same_tests _ _ λ n. ap (λ b. b || inside n) (list_any-append (bytes_eq n) names more) ∙ regroup (mentions names n) (mentions more n) (inside n)

take_front : {X : Type 0} (n m : ℕ) (xs : List X) → n ≤ m → take n (take m xs) ≡ take n xs
take_front zero m xs h = refl
take_front (suc n) zero xs h = absurd (omega arith)
take_front (suc n) (suc m) [] h = refl
take_front (suc n) (suc m) (x ∷ xs) h = ap (λ ys. x ∷ ys) (take_front n m xs (omega arith))

-- what was there before one step and before another
pub still_there : {X : Type 0} (old keys next : List X) → take (length old) keys ≡ old → take (length keys) next ≡ keys → take (length old) next ≡ old
still_there old keys next e f =
    let long = length-take (length old) keys in
    let same : length (take (length old) keys) ≡ length old = ap length e in
    sym (take_front (length old) (length keys) next (omega arith)) ∙ ap (take (length old)) f ∙ e

-- ---- one turn of a list

module _ (a : Around) (late : Bool) where
  pub list_turn : (ss : List declared_stmt.Stmt) (i : ℕ) (s : declared_stmt.Stmt) (now next : Names) (f g all : Option Break) → i < length ss → s ≡ get_or ss i s
      → next ≡ with_names (declared (stmt_of s)) now → g ≡ noted_all f (stmt_breaks a now true late (stmt_of s))
      → noted_all f (list_breaks a now late (stmts_of (drop i ss))) ≡ all → noted_all g (list_breaks a next late (stmts_of (drop (i + 1) ss))) ≡ all
  list_turn ss i s now next f g all within is e p h =
      let here : drop i ss ≡ s ∷ drop (i + 1) ss = drop_more ss i s within ∙ ap (λ y. y ∷ drop (i + 1) ss) (sym is) in
      ap (λ x. noted_all g (list_breaks a x late (stmts_of (drop (i + 1) ss)))) e
      ∙ ap (λ x. noted_all x (list_breaks a (with_names (declared (stmt_of s)) now) late (stmts_of (drop (i + 1) ss)))) p
      ∙ sym (noted_append f (stmt_breaks a now true late (stmt_of s)) (list_breaks a (with_names (declared (stmt_of s)) now) late (stmts_of (drop (i + 1) ss))))
      ∙ ap (λ x. noted_all f (list_breaks a now late (stmts_of x))) (sym here) ∙ h

pub scope_turn : (ss : List declared_stmt.Stmt) (i : ℕ) (s : declared_stmt.Stmt) (now next all : Names) → i < length ss → s ≡ get_or ss i s
    → next ≡ with_names (declared (stmt_of s)) now → with_names (locals_of (stmts_of (drop i ss))) now ≡ all → with_names (locals_of (stmts_of (drop (i + 1) ss))) next ≡ all
scope_turn ss i s now next all within is e h =
    let here : drop i ss ≡ s ∷ drop (i + 1) ss = drop_more ss i s within ∙ ap (λ y. y ∷ drop (i + 1) ss) (sym is) in
    ap (with_names (locals_of (stmts_of (drop (i + 1) ss)))) e
    ∙ sym (with_more (locals_of (stmts_of (drop (i + 1) ss))) (declared (stmt_of s)) now)
    ∙ ap (λ x. with_names (locals_of (stmts_of x)) now) (sym here) ∙ h

pub scope_end : (ss : List declared_stmt.Stmt) (i : ℕ) (now all : Names) → length ss ≤ i → with_names (locals_of (stmts_of (drop i ss))) now ≡ all → now ≡ all
scope_end ss i now all past h = ap (λ x. with_names (locals_of (stmts_of x)) now) (sym (drop_all i ss past)) ∙ h

one_name : (b c : Bool) → (b || c) ≡ ((b || false) || c)
one_name true c = refl
one_name false c = refl

pub declare_scope : (inside now : Names) (s : Stmt) (line : ℕ) (name : List ℕ) (value : Option Expr) → s ≡ Declare line name value → now ≡ entered name inside → now ≡ with_names (declared s) inside
declare_scope inside now s line name value is e =
    e ∙ same_tests _ _ (λ n. one_name (bytes_eq n name) (inside n)) ∙ ap (λ x. with_names (declared x) inside) (sym is)
