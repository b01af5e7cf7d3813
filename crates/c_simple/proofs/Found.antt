-- Every simple statement and every step that is spelled is read, within its levels.
use Rattle.std.proofs.Common.{◌≡◌, ℕ, zero, suc, max, ◌≤◌, Bool, true, false, List, [], ◌∷◌, ◌++◌, map, Option, Some, None, refl, sym, ap, subst, ◌∙◌, arith}
use Rattle.c_lexer.specs.declared.token.Sign.{Sign}
use Rattle.c_lexer.specs.declared.token.Sign.TheVariants as s
use Rattle.c_tree.specs.declared.expr.Op.{Op}
use Rattle.c_tree.specs.declared.expr.Op.TheVariants as op
use Rattle.c_tree.specs.declared.program.Kind.{Kind}
use Rattle.c_tree.specs.declared.program.Kind.TheVariants as kind
use Rattle.c_tree.specs.Expressions.{Expr, Place}
use Rattle.c_tree.specs.Lined as lined
use Rattle.c_tree.specs.Lined.{Stmt}
use Rattle.c_grammar.specs.declared.words.FixedWord.TheVariants as w
use Rattle.c_grammar.specs.Items.{What, Item, at, sign, fixed, name_of, callee, spelling, line_at}
use Rattle.c_grammar.specs.Levels.{Tall, alone, followed, together, gathered}
use Rattle.c_grammar.specs.Commas.{Commas, one, more}
use Rattle.c_grammar.specs.Expressions as e
use Rattle.c_grammar.specs.Expressions.{SpellsExpression, SpellsWhole, SpellsPlace, SpellsAddress, SpellsCall, Called}
use Rattle.c_grammar.specs.Simple as g
use Rattle.c_grammar.specs.Simple.{changing, counting, SpellsStep, SpellsDeclarator, SpellsSimple}
use Rattle.c_grammar.specs.Heads.{Present, end_of}
use Rattle.c_grammar.proofs.Beginnings.{expressions_end, expression_begins}
use Rattle.parse_laws.specs.Parser.{Parser, ◌>>=◌, pure, refuse, Move, Go, commit, and_go, when, must, loop}
use Rattle.parse_laws.proofs.Finds.{Finds, Reaches, Halts, pure_finds, commit_finds, other_finds, none_finds, must_finds, bind_finds, bind_reaches, turn_reaches, loop_finds}
use Rattle.c_expressions.specs.Words.{same_sign, is_sign}
use Rattle.c_expressions.specs.Parsers.{Sight, what_at, seen, is, named, fits, close, arguments, call_of, as_arguments, no_arguments, expression, place_behind, place, address, argument, some_arguments, expressions}
use Rattle.c_expressions.specs.Honest.{Honest}
use Rattle.c_expressions.specs.Ends.{closes, at_head, Ends}
use Rattle.c_expressions.proofs.Found.{apart, Apart, ends_apart, is_at, close_finds, sign_finds, fits_true, expression_tall, expression_finds}
use Rattle.c_expressions.proofs.FoundParts.{place_behind_finds, place_finds, address_finds, expressions_finds, arguments_finds, no_arguments_finds, argument_finds}
use Rattle.c_simple.specs.declared.token.Routine.{Routine}
use Rattle.c_simple.specs.declared.token.Routine.TheVariants as routine
use Rattle.c_simple.specs.declared.token.Way.TheVariants as way
use Rattle.c_simple.specs.Words.{way_of, counter, routine_of, number_of, text_of, is_no_value}
use Rattle.c_simple.specs.Parsers.{line, go_with, ended, Source, Value, Call, value, value_first, call_arguments, source_call, behind_callee, source_by, value_or_call, set_to, change_by, counted, set, set_value, change, assigned_by, assigned, stepped_by, stepped, count_first, bare, declared_as, declared_by_source, declared, declarator, one_more, comma_by, more_declarators, declarators, returned, value_returned, nothing_returned, return_by, is_no_value_at, is_null_at, null_closed, addressed, initialised, joined, acting, waited, wait, take_by, first_take, more_takes, is_one_at, takes_end, takes, controlled_wait, monitor, numbered, is_number_format_at, scan, printed, print_with, print_by, print_behind, print, created, create_argument, behind_function, create_function, create, library, call_statement, call_behind_name, parenthesis_by, change_behind_name, simple_named, step_named, counted_by, begun_by, step_begun, simple_begun, simple_open, step_open, simple, step}
use Rattle.c_simple.proofs.Shorter.{comma_shrinks, take_shrinks}
use Rattle.c_simple.proofs.Spelled.{word_of, together_one, together_more}
use Rattle.c_simple.proofs.Turns.{commit_then}

-- ---- single tokens

-- what may follow a value that may be a call
abbrev pub ends_value : What → Bool
ends_value (What.Sign s.Semicolon) = true
ends_value (What.Sign s.Comma) = true
ends_value _ = false

abbrev pub EndsValue : List Item → Type 0
EndsValue after = at_head ends_value after

ends_closes : (a : What) → ends_value a ≡ true → closes a ≡ true
ends_closes (What.Sign s.Semicolon) c = refl
ends_closes (What.Sign s.Comma) c = refl
ends_closes _ c = absurd cc

value_ends : (after : List Item) → EndsValue after → Ends after
value_ends [] c = tt
value_ends (t ∷ after) c = ends_closes (what_at t) c

-- a parenthesis comes
abbrev opens : List Item → Bool
opens [] = false
opens (t ∷ after) = is_sign s.LeftParenthesis (what_at t)

-- a name that is a value is followed by no parenthesis
ends_here : (l m : ℕ) (b : What) (ts after : List Item) → EndsValue after → end_of Present (at l (What.Sign s.LeftParenthesis) ∷ ts) ≡ end_of Present after → ⊥
ends_here l m b ts [] c d = cc
ends_here l m b ts (at k (What.Sign s.Semicolon) ∷ after) c d = cc
ends_here l m b ts (at k (What.Sign s.Comma) ∷ after) c d = cc
ends_here l m b ts (at k _ ∷ after) c d = absurd cc

no_parenthesis : (t : Item) (ts after : List Item) → EndsValue after → end_of Present (t ∷ ts) ≡ end_of Present after → is_sign s.LeftParenthesis (what_at t) ≡ false
unfolding same_sign
no_parenthesis (at l (What.Sign s.LeftParenthesis)) ts after c d = absurd (ends_here l l What.Keyword ts after c d)
no_parenthesis (at l _) ts after c d = refl

not_called : {k : ℕ} {after : List Item} {x : Tall Expr} (l : ℕ) (a : What) (f : List ℕ) (ts : List Item) → callee a ≡ Some f → SpellsExpression k (at l a ∷ ts) after x → EndsValue after → opens ts ≡ false
not_called l a f [] d y c = refl
not_called {k} {after} {x} l (What.Name n) f (t ∷ ts) d y c = no_parenthesis t ts after c (expressions_end k (at l (What.Name n) ∷ t ∷ ts) after x y)
not_called {k} {after} {x} l (What.Fixed w.Main) f (t ∷ ts) d y c = no_parenthesis t ts after c (expressions_end k (at l (What.Fixed w.Main) ∷ t ∷ ts) after x y)
not_called {k} {after} {x} l (What.Fixed w.Parameter) f (t ∷ ts) d y c = no_parenthesis t ts after c (expressions_end k (at l (What.Fixed w.Parameter) ∷ t ∷ ts) after x y)
not_called {k} {after} {x} l (What.Fixed w.ConditionParameter) f (t ∷ ts) d y c = no_parenthesis t ts after c (expressions_end k (at l (What.Fixed w.ConditionParameter) ∷ t ∷ ts) after x y)
not_called {k} {after} {x} l (What.Fixed w.MutexParameter) f (t ∷ ts) d y c = no_parenthesis t ts after c (expressions_end k (at l (What.Fixed w.MutexParameter) ∷ t ∷ ts) after x y)
not_called l _ f (t ∷ ts) d y c = absurd cc

callee_named : (a : What) (f : List ℕ) → callee a ≡ Some f → (n : List ℕ) × (name_of a ≡ Some n)
callee_named (What.Name n) f d = (n, refl)
callee_named (What.Fixed w.Main) f d = (spelling w.Main, refl)
callee_named (What.Fixed w.Parameter) f d = (spelling w.Parameter, refl)
callee_named (What.Fixed w.ConditionParameter) f d = (spelling w.ConditionParameter, refl)
callee_named (What.Fixed w.MutexParameter) f d = (spelling w.MutexParameter, refl)
callee_named _ f d = absurd cc

changing_apart : (t : Sign) (o : Op) → changing t ≡ Some o → apart (What.Sign t) ≡ true
changing_apart s.LeftBracket o d = absurd cc
changing_apart _ o d = refl

changing_shut : (t : Sign) (o : Op) → changing t ≡ Some o → is_sign s.LeftParenthesis (What.Sign t) ≡ false
unfolding same_sign
changing_shut s.LeftParenthesis o d = absurd cc
changing_shut _ o d = refl

counting_apart : (t : Sign) (o : Op) → counting t ≡ Some o → apart (What.Sign t) ≡ true
counting_apart s.LeftBracket o d = absurd cc
counting_apart _ o d = refl

counting_shut : (t : Sign) (o : Op) → counting t ≡ Some o → is_sign s.LeftParenthesis (What.Sign t) ≡ false
unfolding same_sign
counting_shut s.LeftParenthesis o d = absurd cc
counting_shut _ o d = refl

-- ---- places by their name

-- a place begins with its name; where a parenthesis follows that, one follows the place
place_named : {ts after : List Item} {p : Tall Place} → SpellsPlace ts after p
    → (l : ℕ) × (a : What) × (n : List ℕ) × (before : List Item) × (ts ≡ at l a ∷ before) × (name_of a ≡ Some n) × SpellsPlace (at l a ∷ before) after p × (opens after ≡ false → opens before ≡ false)
unfolding same_sign
place_named (e.scalar {l = l} {a = a} {n = n} {rest = after} d) = (l, a, n, after, refl, d, e.scalar d, λ o. o)
place_named (e.member {l = l} {m = m} {a = a} {n = n} {ts = ts} d x) = (l, a, n, sign m s.LeftBracket ∷ ts, refl, d, e.member d x, λ o. refl)

module _ {Token : Type 0} (v : Sight Token) (honest : Honest v) where
  abbrev pub F : {A : Type 0} → Parser Token A → List Item → List Item → A → Type 0
  F p before after a = Finds v.item p before after a

  abbrev done : {A : Type 0} → (after : List Item) (a : A) → F (pure a) after after a
  done after a = pure_finds v.item after a

  -- ---- values

  value_finds : {before after : List Item} {x : Tall Expr} → SpellsWhole before after x → Ends after → (r : ℕ) → x.levels ≤ r → F (value v r) before after (Value x)
  value_finds {before} {after} {x} d c r le = bind_finds v.item (expression v r) (λ e. pure (Value e)) before after after x (Value x) (expression_finds v honest d c r le) (done after (Value x))

  opens_call : (r : ℕ) (f : List ℕ) (ts : List Item) → opens ts ≡ false → Halts v.item (λ t. when (is v s.LeftParenthesis t) (source_call v r f)) ts
  opens_call r f [] c = tt
  opens_call r f (t ∷ ts) c = λ u q. rw (q, c) refl

  source_value : {before after : List Item} {x : Tall Expr} → SpellsWhole before after x → EndsValue after → (r : ℕ) → x.levels ≤ r → F (value_or_call v r) before after (Value x)
  unfolding value_or_call behind_callee
  source_value {before} {after} {x} d c zero le = absurd (omega (arith, le, expression_tall d))
  source_value {before = []} {after = after} {x = x} d c (suc r) le = absurd (begins (expression_begins d))
    where
      begins : false ≡ true → ⊥
      begins b = cc
  source_value {before = at l a ∷ before} {after = after} {x = x} d c (suc r) le = go (callee a) refl
    where
      whole : F (value v (suc r)) (at l a ∷ before) after (Value x)
      whole = value_finds d (value_ends after c) (suc r) le

      go : (o : Option (List ℕ)) → callee a ≡ o → F (value_or_call v (suc r)) (at l a ∷ before) after (Value x)
      go None f = other_finds v.item (source_by v (suc r)) (value v (suc r)) (at l a ∷ before) after (Value x) (λ u q. rw (q, f) refl) whole
      go (Some f) q =
          commit_finds v.item (source_by v (suc r)) (value v (suc r)) (at l a) before after (Value x) (λ u h. (
            behind_callee v (suc r) u f,
            rw (h, q) refl,
            other_finds v.item (λ t. when (is v s.LeftParenthesis t) (source_call v (suc r) f)) (value_first v (suc r) u f) before after (Value x) (opens_call (suc r) f before (not_called l a f before q d c))
                (λ ts m. whole (u ∷ ts) cc),
          ))

  call_arguments_finds : {l m : ℕ} {a : What} {before after : List Item} {c : Tall Called} (f : List ℕ) → SpellsCall (at l a ∷ sign m s.LeftParenthesis ∷ before) after c → callee a ≡ Some f → (r : ℕ) → c.levels ≤ r → F (call_arguments v r f) before after c
  call_arguments_finds {after = after} f (e.no_arguments {n = n} {f = h} d) q r le =
      let same : f ≡ h = cc in
      subst (λ (x : List ℕ). F (call_arguments v r f) (sign n s.RightParenthesis ∷ after) after (call_of x no_arguments)) same
      (bind_finds v.item (arguments v r) (λ args. pure (call_of f args)) (sign n s.RightParenthesis ∷ after) after after no_arguments (call_of f no_arguments) (no_arguments_finds v honest n r after) (done after (call_of f no_arguments)))
  call_arguments_finds {before = before} {after = after} f (e.with_arguments {n = n} {f = h} {all = all} d x) q r le =
      let same : f ≡ h = cc in
      subst (λ (y : List ℕ). F (call_arguments v r f) before after (call_of y (as_arguments (gathered all)))) same
      (bind_finds v.item (arguments v r) (λ args. pure (call_of f args)) before after after (as_arguments (gathered all)) (call_of f (as_arguments (gathered all))) (arguments_finds v honest n x r le) (done after (call_of f (as_arguments (gathered all)))))

  -- a call begins with its name and a parenthesis
  call_parts : {ts after : List Item} {c : Tall Called} → SpellsCall ts after c → (l : ℕ) × (a : What) × (f : List ℕ) × (m : ℕ) × (before : List Item) × (ts ≡ at l a ∷ sign m s.LeftParenthesis ∷ before) × (callee a ≡ Some f)
      × SpellsCall (at l a ∷ sign m s.LeftParenthesis ∷ before) after c
  call_parts {after = after} (e.no_arguments {l = l} {m = m} {n = n} {a = a} {f = f} d) = (l, a, f, m, sign n s.RightParenthesis ∷ after, refl, d, e.no_arguments d)
  call_parts (e.with_arguments {l = l} {m = m} {a = a} {f = f} {ts = ts} d x) = (l, a, f, m, ts, refl, d, e.with_arguments d x)

  source_called : {before after : List Item} {c : Tall Called} → SpellsCall before after c → (r : ℕ) → c.levels ≤ r → F (value_or_call v r) before after (Call c)
  unfolding value_or_call behind_callee
  source_called {before} {after} {c} d r le =
      let p = call_parts d in
      subst (λ (w : List Item). F (value_or_call v r) w after (Call c)) (sym p.5)
      (commit_finds v.item (source_by v r) (value v r) (at p.0 p.1) (sign p.3 s.LeftParenthesis ∷ p.4) after (Call c) (λ u h. (
        behind_callee v r u p.2,
        rw (h, p.6) refl,
        commit_finds v.item (λ t. when (is v s.LeftParenthesis t) (source_call v r p.2)) (value_first v r u p.2) (sign p.3 s.LeftParenthesis) p.4 after (Call c) (λ t q. (
          source_call v r p.2,
          rw (is_at v s.LeftParenthesis p.3 t q) refl,
          bind_finds v.item (call_arguments v r p.2) (λ c. pure (Call c)) p.4 after after c (Call c) (call_arguments_finds p.2 p.7 p.6 r le) (done after (Call c)),
        )),
      )))

  -- ---- behind a place

  abbrev assigns : ℕ → ℕ → Tall Place → Token → Move Token (Tall (List Stmt))
  assigns r l p u = assigned_by v r l p (way_of (seen v u))

  abbrev steps : ℕ → ℕ → Tall Place → Token → Move Token (Tall (List Stmt))
  steps r l p u = stepped_by v r l p (way_of (seen v u))

  set_finds : {mid after : List Item} (x : Source) (r l m : ℕ) (p : Tall Place) → F (value_or_call v r) mid after x → F (assigned v r l p) (sign m s.Assign ∷ mid) after (set_to l p x)
  set_finds {mid} {after} x r l m p h =
      commit_finds v.item (assigns r l p) refuse (sign m s.Assign) mid after (set_to l p x) (λ u q. (set v r l p, rw q refl, bind_finds v.item (value_or_call v r) (λ x. pure (set_to l p x)) mid after after x (set_to l p x) h (done after (set_to l p x))))

  set_value_finds : {mid after : List Item} {x : Tall Expr} (r l m : ℕ) (p : Tall Place) → SpellsWhole mid after x → Ends after → x.levels ≤ r → F (stepped v r l p) (sign m s.Assign ∷ mid) after (set_to l p (Value x))
  set_value_finds zero l m p d c le = absurd (omega (arith, le, expression_tall d))
  set_value_finds {mid} {after} {x} (suc r) l m p d c le =
      commit_finds v.item (steps (suc r) l p) refuse (sign m s.Assign) mid after (set_to l p (Value x)) (λ u q. (
        set_value v (suc r) l p,
        rw q refl,
        bind_finds v.item (expression v (suc r)) (λ e. pure (set_to l p (Value e))) mid after after x (set_to l p (Value x)) (expression_finds v honest d c (suc r) le) (done after (set_to l p (Value x))),
      ))

  -- the way of a sign
  changing_way : (t : Sign) (o : Op) → changing t ≡ Some o → way_of (What.Sign t) ≡ way.Change o
  changing_way s.AddAssign o d = let same : op.Add ≡ o = cc in rw same refl
  changing_way s.SubtractAssign o d = let same : op.Sub ≡ o = cc in rw same refl
  changing_way s.MultiplyAssign o d = let same : op.Mul ≡ o = cc in rw same refl
  changing_way s.DivideAssign o d = let same : op.Div ≡ o = cc in rw same refl
  changing_way s.RemainderAssign o d = let same : op.Rem ≡ o = cc in rw same refl
  changing_way _ o d = absurd cc

  counting_way : (t : Sign) (o : Op) → counting t ≡ Some o → way_of (What.Sign t) ≡ way.Count o
  counting_way s.Increment o d = let same : op.Add ≡ o = cc in rw same refl
  counting_way s.Decrement o d = let same : op.Sub ≡ o = cc in rw same refl
  counting_way _ o d = absurd cc

  change_read : {mid after : List Item} {x : Tall Expr} (r l : ℕ) (o : Op) (p : Tall Place) → SpellsWhole mid after x → Ends after → x.levels ≤ r → F (change v r l o p) mid after (change_by l o p x)
  change_read {mid} {after} {x} r l o p d c le = bind_finds v.item (expression v r) (λ e. pure (change_by l o p e)) mid after after x (change_by l o p x) (expression_finds v honest d c r le) (done after (change_by l o p x))

  change_finds : {mid after : List Item} {x : Tall Expr} (t : Sign) (o : Op) (r l m : ℕ) (p : Tall Place) → changing t ≡ Some o → SpellsWhole mid after x → Ends after → x.levels ≤ r → F (assigned v r l p) (sign m t ∷ mid) after (change_by l o p x)
  change_finds t o zero l m p q d c le = absurd (omega (arith, le, expression_tall d))
  change_finds {mid} {after} {x} t o (suc r) l m p q d c le =
      commit_finds v.item (assigns (suc r) l p) refuse (sign m t) mid after (change_by l o p x) (λ u h. (change v (suc r) l o p, rw (h, changing_way t o q) refl, change_read (suc r) l o p d c le))

  change_steps : {mid after : List Item} {x : Tall Expr} (t : Sign) (o : Op) (r l m : ℕ) (p : Tall Place) → changing t ≡ Some o → SpellsWhole mid after x → Ends after → x.levels ≤ r → F (stepped v r l p) (sign m t ∷ mid) after (change_by l o p x)
  change_steps t o zero l m p q d c le = absurd (omega (arith, le, expression_tall d))
  change_steps {mid} {after} {x} t o (suc r) l m p q d c le =
      commit_finds v.item (steps (suc r) l p) refuse (sign m t) mid after (change_by l o p x) (λ u h. (change v (suc r) l o p, rw (h, changing_way t o q) refl, change_read (suc r) l o p d c le))

  count_finds : (after : List Item) (t : Sign) (o : Op) (r l m : ℕ) (p : Tall Place) → counting t ≡ Some o → F (assigned v r l p) (sign m t ∷ after) after (counted l o p)
  count_finds after t o r l m p q = commit_finds v.item (assigns r l p) refuse (sign m t) after after (counted l o p) (λ u h. (pure (counted l o p), rw (h, counting_way t o q) refl, done after (counted l o p)))

  count_steps : (after : List Item) (t : Sign) (o : Op) (r l m : ℕ) (p : Tall Place) → counting t ≡ Some o → F (stepped v r l p) (sign m t ∷ after) after (counted l o p)
  count_steps after t o r l m p q = commit_finds v.item (steps r l p) refuse (sign m t) after after (counted l o p) (λ u h. (pure (counted l o p), rw (h, counting_way t o q) refl, done after (counted l o p)))

  -- ---- by the first token

  abbrev begins : Kind → ℕ → Token → Move Token (Tall (List Stmt))
  begins k r u = simple_begun v k r u (seen v u)

  seen_at : (u : Token) (l : ℕ) (a : What) → v.item u ≡ at l a → seen v u ≡ a
  seen_at u l a q = rw q refl

  line_is : (u : Token) (l : ℕ) (a : What) → v.item u ≡ at l a → line v u ≡ l
  line_is u l a q = rw q refl

  -- what goes by a name, or else by its sign
  begun_name : (p : List ℕ → Parser Token (Tall (List Stmt))) (other : Move Token (Tall (List Stmt))) (o : Option (List ℕ)) (n : List ℕ) → o ≡ Some n → begun_by p other o ≡ Go (p n)
  begun_name p other o n q = rw q refl

  begun_other : (p : List ℕ → Parser Token (Tall (List Stmt))) (other : Move Token (Tall (List Stmt))) (o : Option (List ℕ)) → o ≡ None → begun_by p other o ≡ other
  begun_other p other o q = rw q refl

  with_goes : {A B : Type 0} (p : B → Parser Token A) (o : Option B) (x : B) → o ≡ Some x → go_with p o ≡ Go (p x)
  with_goes p o x q = rw q refl

  names : {a b : What} → a ≡ b → name_of a ≡ name_of b
  names q = ap (λ (x : What). name_of x) q

  name_begins : (k : Kind) (r : ℕ) (u : Token) (a : What) (n : List ℕ) → seen v u ≡ a → name_of a ≡ Some n → simple_begun v k r u a ≡ Go (simple_named v r u n)
  name_begins k r u (What.Fixed w.Int) n q d = absurd cc
  name_begins k r u (What.Fixed w.Return) n q d = absurd cc
  name_begins k r u _ n q d = begun_name (simple_named v r u) (counted_by v r u) (name_of (seen v u)) n (names q ∙ d)

  name_steps : (r : ℕ) (u : Token) (a : What) (n : List ℕ) → seen v u ≡ a → name_of a ≡ Some n → step_begun v r u ≡ Go (step_named v r u n)
  name_steps r u a n q d = begun_name (step_named v r u) (counted_by v r u) (name_of (seen v u)) n (names q ∙ d)

  counted_goes : (r m : ℕ) (u : Token) (t : Sign) (o : Op) → v.item u ≡ sign m t → counting t ≡ Some o → counted_by v r u ≡ Go (count_first v r m o)
  counted_goes r m u t o q d =
      with_goes (count_first v r (line v u)) (counter (seen v u)) o (ap (λ (x : What). counter x) (seen_at u m (What.Sign t) q) ∙ d) ∙ ap (λ (l : ℕ). Go (count_first v r l o)) (line_is u m (What.Sign t) q)

  -- a name, and what is read behind it
  named_finds : {before after : List Item} {y : Tall (List Stmt)} (k : Kind) (r l : ℕ) (a : What) (n : List ℕ) → name_of a ≡ Some n → ((u : Token) → v.item u ≡ at l a → F (simple_named v r u n) before after y)
      → F (simple_open v k r) (at l a ∷ before) after y
  named_finds {before} {after} {y} k r l a n d h =
      commit_finds v.item (begins k r) refuse (at l a) before after y (λ u q. (simple_named v r u n, rw (seen_at u l a q) (name_begins k r u a n (seen_at u l a q) d), h u q))

  opens_none : (r : ℕ) (u : Token) (ts : List Item) → opens ts ≡ false → Halts v.item (parenthesis_by v r u) ts
  opens_none r u [] c = tt
  opens_none r u (t ∷ ts) c = λ x q. rw (q, c) refl

  -- a place and what changes it
  placed_finds : {ts mid after : List Item} {p : Tall Place} {y : Tall (List Stmt)} (k : Kind) (r : ℕ) → SpellsPlace ts mid p → Apart mid → opens mid ≡ false → p.levels ≤ r → F (assigned v r (line_at ts) p) mid after y → F (simple_open v k r) ts after y
  unfolding simple_named
  placed_finds {ts} {mid} {after} {p} {y} k r d c o le h =
      let q = place_named d in
      subst (λ (w : List Item). F (simple_open v k r) w after y) (sym q.4)
      (named_finds k r q.0 q.1 q.2 q.5 (λ u i.
      other_finds v.item (parenthesis_by v r u) (change_behind_name v r (line v u) q.2) q.3 after y (opens_none r u q.3 (q.7 o))
      (bind_finds v.item (place_behind v r q.2) (assigned v r (line v u)) q.3 mid after p y (place_behind_finds v honest q.6 q.5 c r le)
      (subst (λ (l : ℕ). F (assigned v r l p) mid after y) (ap line_at q.4 ∙ sym (line_is u q.0 q.1 i)) h))))

  placed_steps : {ts mid after : List Item} {p : Tall Place} {y : Tall (List Stmt)} (r : ℕ) → SpellsPlace ts mid p → Apart mid → p.levels ≤ r → F (stepped v r (line_at ts) p) mid after y → F (step_open v r) ts after y
  unfolding step_named
  placed_steps {ts} {mid} {after} {p} {y} r d c le h =
      let q = place_named d in
      subst (λ (w : List Item). F (step_open v r) w after y) (sym q.4)
      (commit_finds v.item (step_begun v r) refuse (at q.0 q.1) q.3 after y (λ u i. (
        step_named v r u q.2,
        name_steps r u q.1 q.2 (seen_at u q.0 q.1 i) q.5,
        bind_finds v.item (place_behind v r q.2) (stepped v r (line v u)) q.3 mid after p y (place_behind_finds v honest q.6 q.5 c r le)
            (subst (λ (l : ℕ). F (stepped v r l p) mid after y) (ap line_at q.4 ∙ sym (line_is u q.0 q.1 i)) h),
      )))

  count_first_finds : {ts after : List Item} {p : Tall Place} (r l : ℕ) (o : Op) → SpellsPlace ts after p → Apart after → p.levels ≤ r → F (count_first v r l o) ts after (counted l o p)
  unfolding count_first
  count_first_finds {ts} {after} {p} r l o d c le = bind_finds v.item (place v r) (λ p. pure (counted l o p)) ts after after p (counted l o p) (place_finds v honest d c r le) (done after (counted l o p))

  counter_begins : (k : Kind) (r m : ℕ) (u : Token) (t : Sign) (o : Op) → v.item u ≡ sign m t → counting t ≡ Some o → begins k r u ≡ Go (count_first v r m o)
  counter_begins k r m u t o q d =
      ap (λ (x : What). simple_begun v k r u x) (seen_at u m (What.Sign t) q)
      ∙ begun_other (simple_named v r u) (counted_by v r u) (name_of (seen v u)) (names (seen_at u m (What.Sign t) q))
      ∙ counted_goes r m u t o q d

  counter_steps : (r m : ℕ) (u : Token) (t : Sign) (o : Op) → v.item u ≡ sign m t → counting t ≡ Some o → step_begun v r u ≡ Go (count_first v r m o)
  counter_steps r m u t o q d = begun_other (step_named v r u) (counted_by v r u) (name_of (seen v u)) (names (seen_at u m (What.Sign t) q)) ∙ counted_goes r m u t o q d

  -- a step
  pub step_open_finds : {ts after : List Item} {y : Tall (List Stmt)} → SpellsStep ts after y → Ends after → (r : ℕ) → y.levels ≤ suc r → F (step_open v r) ts after y
  step_open_finds {ts} (g.assign {l = m} {p = p} d x) c r le = placed_steps r d refl (omega (arith, le)) (set_value_finds r (line_at ts) m p x c (omega (arith, le)))
  step_open_finds {ts} (g.change {l = m} {p = p} {t = t} {o = o} d q x) c r le = placed_steps r d (changing_apart t o q) (omega (arith, le)) (change_steps t o r (line_at ts) m p q x c (omega (arith, le)))
  step_open_finds {ts} {after} (g.count_after {l = m} {p = p} {t = t} {o = o} d q) c r le = placed_steps r d (counting_apart t o q) (omega (arith, le)) (count_steps after t o r (line_at ts) m p q)
  step_open_finds {ts} {after} (g.count_before {l = m} {ts = ts2} {p = p} {t = t} {o = o} q d) c r le =
      commit_finds v.item (step_begun v r) refuse (sign m t) ts2 after (counted m o p) (λ u h. (count_first v r m o, counter_steps r m u t o h q, count_first_finds r m o d (ends_apart after c) (omega (arith, le))))

  step_as_simple : {ts after : List Item} {y : Tall (List Stmt)} (k : Kind) → SpellsStep ts after y → EndsValue after → (r : ℕ) → y.levels ≤ suc r → F (simple_open v k r) ts after y
  unfolding same_sign
  step_as_simple {ts} k (g.assign {l = m} {p = p} {e = x} d y) c r le = placed_finds k r d refl refl (omega (arith, le)) (set_finds (Value x) r (line_at ts) m p (source_value y c r (omega (arith, le))))
  step_as_simple {ts} {after} k (g.change {l = m} {p = p} {t = t} {o = o} d q x) c r le =
      placed_finds k r d (changing_apart t o q) (changing_shut t o q) (omega (arith, le)) (change_finds t o r (line_at ts) m p q x (value_ends after c) (omega (arith, le)))
  step_as_simple {ts} {after} k (g.count_after {l = m} {p = p} {t = t} {o = o} d q) c r le = placed_finds k r d (counting_apart t o q) (counting_shut t o q) (omega (arith, le)) (count_finds after t o r (line_at ts) m p q)
  step_as_simple {ts} {after} k (g.count_before {l = m} {ts = ts2} {p = p} {t = t} {o = o} q d) c r le =
      commit_finds v.item (begins k r) refuse (sign m t) ts2 after (counted m o p) (λ u h. (count_first v r m o, counter_begins k r m u t o h q, count_first_finds r m o d (ends_apart after (value_ends after c)) (omega (arith, le))))

  -- ---- declarations

  no_assign : (a : What) → ends_value a ≡ true → is_sign s.Assign a ≡ false
  unfolding same_sign
  no_assign (What.Sign s.Semicolon) c = refl
  no_assign (What.Sign s.Comma) c = refl
  no_assign _ c = absurd cc

  assigned_none : (r l : ℕ) (n : List ℕ) (ts : List Item) → EndsValue ts → Halts v.item (λ t. when (is v s.Assign t) (declared_by_source v r l n)) ts
  assigned_none r l n [] c = tt
  assigned_none r l n (t ∷ ts) c = λ u q. rw (q, no_assign (what_at t) c) refl

  by_source_finds : {before after : List Item} (x : Source) (r l m : ℕ) (n : List ℕ) → F (value_or_call v r) before after x → F (declared v r l n) (sign m s.Assign ∷ before) after (declared_as l n x)
  unfolding declared
  by_source_finds {before} {after} x r l m n h =
      commit_finds v.item (λ t. when (is v s.Assign t) (declared_by_source v r l n)) (pure (bare l n)) (sign m s.Assign) before after (declared_as l n x) (λ t q. (
        declared_by_source v r l n,
        rw (is_at v s.Assign m t q) refl,
        bind_finds v.item (value_or_call v r) (λ x. pure (declared_as l n x)) before after after x (declared_as l n x) h (done after (declared_as l n x)),
      ))

  declarator_named : {before after : List Item} {y : Tall (List Stmt)} (r l : ℕ) (a : What) (n : List ℕ) → name_of a ≡ Some n → F (declared v r l n) before after y → F (declarator v r) (at l a ∷ before) after y
  unfolding declarator
  declarator_named {before} {after} {y} r l a n d h = commit_finds v.item (λ u. named v (declared v r (line v u)) u) refuse (at l a) before after y (λ u q. (declared v r l n, rw (q, d) refl, h))

  declarator_finds : {before after : List Item} {y : Tall (List Stmt)} → SpellsDeclarator before after y → EndsValue after → (r : ℕ) → y.levels ≤ suc r → F (declarator v r) before after y
  unfolding declared
  declarator_finds {after = after} (g.bare {l = l} {a = a} {n = n} d) c r le =
      declarator_named r l a n d (none_finds v.item (λ t. when (is v s.Assign t) (declared_by_source v r l n)) after (bare l n) (assigned_none r l n after c))
  declarator_finds (g.by_value {l = l} {m = m} {a = a} {n = n} {e = x} d y) c r le = declarator_named r l a n d (by_source_finds (Value x) r l m n (source_value y c r (omega (arith, le))))
  declarator_finds (g.by_call {l = l} {m = m} {a = a} {n = n} {c = x} d y) c r le = declarator_named r l a n d (by_source_finds (Call x) r l m n (source_called y r (omega (arith, le))))

  below_all : (all : List (Tall (List Stmt))) (x : Tall (List Stmt)) → (together all).levels ≤ (together (all ++ x ∷ [])).levels × (x.levels ≤ (together (all ++ x ∷ [])).levels)
  below_all [] x = (omega arith, omega arith)
  below_all (y ∷ all) x = let h = below_all all x in (omega (arith, h.0), omega (arith, h.1))

  declarators_reach : {before after : List Item} {all : List (Tall (List Stmt))} → Commas SpellsDeclarator before after all → EndsValue after → (r : ℕ) → (together all).levels ≤ suc r
      → Reaches v.item (declarators v r) (loop (comma_by v r) (together all)) before after
  unfolding declarators
  declarators_reach {before} {after} (one {a = x} d) c r le =
      subst (λ (w : Tall (List Stmt)). Reaches v.item (declarators v r) (loop (comma_by v r) w) before after) (sym (together_one x))
      (bind_reaches v.item (declarator v r) (more_declarators v r) before after x (declarator_finds d c r (omega (arith, le))))
  declarators_reach {before} {after} (more {l = l} {mid = mid} {all = all} {a = x} d y) c r le =
      let h = below_all all x in
      subst (λ (w : Tall (List Stmt)). Reaches v.item (declarators v r) (loop (comma_by v r) w) before after) (sym (together_more all x))
      (turn_reaches v.item (declarators v r) (comma_by v r) before mid after (sign l s.Comma) (together all) (followed (together all) x) (λ a u. comma_shrinks v r a u) (declarators_reach d refl r (omega (arith, h.0, le)))
      (λ u q. (
        one_more v r (together all),
        comma_goes u q (fits_true (suc r) (together all).levels (omega (arith, h.0, le))),
        bind_finds v.item (declarator v r) (λ x. pure (followed (together all) x)) mid after after x (followed (together all) x) (declarator_finds y c r (omega (arith, h.1, le))) (done after (followed (together all) x)),
      )))
    where
      comma_goes : (u : Token) → v.item u ≡ sign l s.Comma → fits (suc r) (together all).levels ≡ true → comma_by v r (together all) u ≡ Go (one_more v r (together all))
      comma_goes u q f = rw (is_at v s.Comma l u q, f) refl

  -- no comma goes on
  abbrev NoComma : List Item → Type 0
  NoComma [] = Unit {0}
  NoComma (t ∷ after) = is_sign s.Comma (what_at t) ≡ false

  commas_halt : (r : ℕ) (all : Tall (List Stmt)) (after : List Item) → NoComma after → Halts v.item (comma_by v r all) after
  commas_halt r all [] c = tt
  commas_halt r all (t ∷ after) c = λ u q. rw (q, c) refl

  declare_finds : {before after : List Item} {all : List (Tall (List Stmt))} (k : Kind) (l : ℕ) → Commas SpellsDeclarator before after all → EndsValue after → NoComma after → (r : ℕ) → (together all).levels ≤ suc r
      → F (simple_open v k r) (fixed l w.Int ∷ before) after (together all)
  declare_finds {before} {after} {all} k l d c n r le =
      commit_finds v.item (begins k r) refuse (fixed l w.Int) before after (together all) (λ u q. (declarators v r, rw q refl, loop_finds v.item (declarators v r) (comma_by v r) before after (together all) (declarators_reach d c r le) (commas_halt r (together all) after n)))

  -- ---- results

  return_begins : (k : Kind) (r l : ℕ) (u : Token) → v.item u ≡ fixed l w.Return → begins k r u ≡ return_by v r l k
  return_begins k r l u q = ap (λ (x : What). simple_begun v k r u x) (seen_at u l (What.Fixed w.Return) q) ∙ ap (λ (m : ℕ). return_by v r m k) (line_is u l (What.Fixed w.Return) q)

  value_read : {ts after : List Item} {x : Tall Expr} (r l : ℕ) → SpellsWhole ts after x → Ends after → x.levels ≤ r → F (value_returned v r l) ts after (returned l (Some x.tree) x.levels)
  value_read {ts} {after} {x} r l d c le =
      bind_finds v.item (expression v r) (λ e. pure (returned l (Some e.tree) e.levels)) ts after after x (returned l (Some x.tree) x.levels) (expression_finds v honest d c r le) (done after (returned l (Some x.tree) x.levels))

  nothing_read : (l : ℕ) (t : Item) (after : List Item) → is_no_value (what_at t) ≡ true → F (nothing_returned v l) (t ∷ after) after (returned l None 0)
  nothing_read l t after q = must_finds v.item (is_no_value_at v) (pure (returned l None 0)) t after after (returned l None 0) (λ u h. rw h q) (done after (returned l None 0))

  return_finds : {ts after : List Item} {x : Tall (Option Expr)} (k : Kind) (l : ℕ) → g.SpellsResult k ts after x → Ends after → (r : ℕ) → x.levels ≤ r → F (simple_open v k r) (fixed l w.Return ∷ ts) after (returned l x.tree x.levels)
  return_finds k l (g.of_main d) c zero le = absurd (omega (arith, le, expression_tall d))
  return_finds {ts} {after} k l (g.of_main {e = x} d) c (suc r) le =
      commit_finds v.item (begins kind.Main (suc r)) refuse (fixed l w.Return) ts after (returned l (Some x.tree) x.levels) (λ u q. (value_returned v (suc r) l, return_begins kind.Main (suc r) l u q, value_read (suc r) l d c le))
  return_finds k l (g.of_int d) c zero le = absurd (omega (arith, le, expression_tall d))
  return_finds {ts} {after} k l (g.of_int {e = x} d) c (suc r) le =
      commit_finds v.item (begins kind.Int (suc r)) refuse (fixed l w.Return) ts after (returned l (Some x.tree) x.levels) (λ u q. (value_returned v (suc r) l, return_begins kind.Int (suc r) l u q, value_read (suc r) l d c le))
  return_finds {ts} {after} k l g.of_void c r le =
      commit_finds v.item (begins kind.Void r) refuse (fixed l w.Return) after after (returned l None 0) (λ u q. (pure (returned l None 0), return_begins kind.Void r l u q, done after (returned l None 0)))
  return_finds {ts} {after} k l (g.null_of_thread {l = m}) c r le =
      commit_finds v.item (begins kind.Thread r) refuse (fixed l w.Return) (fixed m w.Null ∷ after) after (returned l None 0) (λ u q. (nothing_returned v l, return_begins kind.Thread r l u q, nothing_read l (fixed m w.Null) after refl))
  return_finds {ts} {after} k l (g.zero_of_thread {l = m}) c r le =
      commit_finds v.item (begins kind.Thread r) refuse (fixed l w.Return) (at m (What.Number 0) ∷ after) after (returned l None 0) (λ u q. (nothing_returned v l, return_begins kind.Thread r l u q, nothing_read l (at m (What.Number 0)) after refl))

  -- ---- calls

  call_begins : (r l : ℕ) (u t : Token) (m : ℕ) (a : What) (f : List ℕ) → v.item u ≡ at l a → v.item t ≡ sign m s.LeftParenthesis → callee a ≡ Some f → parenthesis_by v r u t ≡ Go (call_behind_name v r l f)
  call_begins r l u t m a f q h d = rw (is_at v s.LeftParenthesis m t h, q, d) refl

  call_finds : {ts after : List Item} {x : Tall Called} (k : Kind) → SpellsCall ts after x → (r : ℕ) → x.levels ≤ r → F (simple_open v k r) ts after (call_statement (line_at ts) x)
  unfolding simple_named
  call_finds {ts} {after} {x} k d r le =
      let p = call_parts d in
      let n = callee_named p.1 p.2 p.6 in
      subst (λ (w : List Item). F (simple_open v k r) w after (call_statement (line_at w) x)) (sym p.5)
      (named_finds k r p.0 p.1 n.0 n.1 (λ u q.
      commit_finds v.item (parenthesis_by v r u) (change_behind_name v r (line v u) n.0) (sign p.3 s.LeftParenthesis) p.4 after (call_statement p.0 x) (λ t h. (
        call_behind_name v r p.0 p.2,
        call_begins r p.0 u t p.3 p.1 p.2 q h p.6,
        bind_finds v.item (call_arguments v r p.2) (λ c. pure (call_statement p.0 c)) p.4 after after x (call_statement p.0 x) (call_arguments_finds p.2 p.7 p.6 r le) (done after (call_statement p.0 x)),
      ))))

  -- ---- calls of the library

  word_named : (x : Routine) → name_of (What.Fixed (word_of x)) ≡ Some (spelling (word_of x))
  word_named routine.Print = refl
  word_named routine.Scan = refl
  word_named routine.Create = refl
  word_named routine.Join = refl
  word_named routine.InitMutex = refl
  word_named routine.InitCondition = refl
  word_named routine.Lock = refl
  word_named routine.Unlock = refl
  word_named routine.Wait = refl
  word_named routine.Signal = refl
  word_named routine.Broadcast = refl
  word_named routine.Take = refl
  word_named routine.Give = refl
  word_named routine.ControlledWait = refl

  no_callee : (x : Routine) → callee (What.Fixed (word_of x)) ≡ None
  no_callee routine.Print = refl
  no_callee routine.Scan = refl
  no_callee routine.Create = refl
  no_callee routine.Join = refl
  no_callee routine.InitMutex = refl
  no_callee routine.InitCondition = refl
  no_callee routine.Lock = refl
  no_callee routine.Unlock = refl
  no_callee routine.Wait = refl
  no_callee routine.Signal = refl
  no_callee routine.Broadcast = refl
  no_callee routine.Take = refl
  no_callee routine.Give = refl
  no_callee routine.ControlledWait = refl

  library_begins : (x : Routine) (r l m : ℕ) (u t : Token) → v.item u ≡ fixed l (word_of x) → v.item t ≡ sign m s.LeftParenthesis → routine_of v.null (What.Fixed (word_of x)) ≡ Some x → parenthesis_by v r u t ≡ Go (library v r l x)
  library_begins x r l m u t q h d = rw (is_at v s.LeftParenthesis m t h, q, no_callee x, d) refl

  library_finds : {before after : List Item} {y : Tall (List Stmt)} (x : Routine) (k : Kind) (r l m : ℕ) → routine_of v.null (What.Fixed (word_of x)) ≡ Some x → F (library v r l x) before after y
      → F (simple_open v k r) (fixed l (word_of x) ∷ sign m s.LeftParenthesis ∷ before) after y
  unfolding simple_named
  library_finds {before} {after} {y} x k r l m d h =
      named_finds k r l (What.Fixed (word_of x)) (spelling (word_of x)) (word_named x) (λ u q.
      commit_finds v.item (parenthesis_by v r u) (change_behind_name v r (line v u) (spelling (word_of x))) (sign m s.LeftParenthesis) before after y (λ t i. (library v r l x, library_begins x r l m u t q i d, h)))

  addressed_finds : {ts after : List Item} {p : Tall Place} (n : ℕ) → SpellsAddress ts (sign n s.RightParenthesis ∷ after) p → (r : ℕ) → p.levels ≤ r → F (addressed v r) ts after p
  unfolding addressed
  addressed_finds {ts} {after} {p} n d r le =
      bind_finds v.item (address v r) (λ p. must (is v s.RightParenthesis) (pure p)) ts (sign n s.RightParenthesis ∷ after) after p p (address_finds v honest d refl r le) (sign_finds v s.RightParenthesis (pure p) n after after p (done after p))

  null_finds : (after : List Item) (n i j : ℕ) (p : Tall Place) → F (null_closed v p) (sign n s.Comma ∷ fixed i w.Null ∷ sign j s.RightParenthesis ∷ after) after p
  unfolding null_closed
  null_finds after n i j p =
      sign_finds v s.Comma (must (is_null_at v) (must (is v s.RightParenthesis) (pure p))) n (fixed i w.Null ∷ sign j s.RightParenthesis ∷ after) after p
      (must_finds v.item (is_null_at v) (must (is v s.RightParenthesis) (pure p)) (fixed i w.Null) (sign j s.RightParenthesis ∷ after) after p (λ u q. rw q refl)
      (sign_finds v s.RightParenthesis (pure p) j after after p (done after p)))

  initialised_finds : {ts after : List Item} {p : Tall Place} (n i j : ℕ) → SpellsAddress ts (sign n s.Comma ∷ fixed i w.Null ∷ sign j s.RightParenthesis ∷ after) p → (r : ℕ) → p.levels ≤ r → F (initialised v r) ts after p
  unfolding initialised
  initialised_finds {ts} {after} {p} n i j d r le =
      bind_finds v.item (address v r) (null_closed v) ts (sign n s.Comma ∷ fixed i w.Null ∷ sign j s.RightParenthesis ∷ after) after p p (address_finds v honest d refl r le) (null_finds after n i j p)

  joined_finds : {ts after : List Item} {p : Tall Place} (n i j : ℕ) → SpellsPlace ts (sign n s.Comma ∷ fixed i w.Null ∷ sign j s.RightParenthesis ∷ after) p → (r : ℕ) → p.levels ≤ r → F (joined v r) ts after p
  unfolding joined
  joined_finds {ts} {after} {p} n i j d r le =
      bind_finds v.item (place v r) (null_closed v) ts (sign n s.Comma ∷ fixed i w.Null ∷ sign j s.RightParenthesis ∷ after) after p p (place_finds v honest d refl r le) (null_finds after n i j p)

  acting_finds : {ts after : List Item} {x : Tall Place} (act : Place → Stmt) (p : Parser Token (Tall Place)) → F p ts after x → F (acting act p) ts after (alone (act x.tree) x.levels)
  acting_finds {ts} {after} {x} act p h = bind_finds v.item p (λ x. pure (alone (act x.tree) x.levels)) ts after after x (alone (act x.tree) x.levels) h (done after (alone (act x.tree) x.levels))

  -- where `, NULL` follows what is read, that word has no definition
  null_free : {A : Type 0} (p : Parser Token A) (before later : List Item) (n i : ℕ) (x : A) → F p before (sign n s.Comma ∷ fixed i w.Null ∷ later) x → (ts : List Token) → map v.item ts ≡ before → v.null ≡ true
  null_free p before later n i x h ts q = let y = h ts q in go y.0 y.1
    where
      go : (rest : List Token) → map v.item rest ≡ sign n s.Comma ∷ fixed i w.Null ∷ later → v.null ≡ true
      go [] q = absurd cc
      go (t ∷ []) q = absurd cc
      go (t ∷ u ∷ rest) q = honest.null u (seen_at u i (What.Fixed w.Null) cc)

  -- behind two tokens
  behind_two : {A : Type 0} (q : Parser Token A) (t1 t2 : Item) (before after : List Item) (y : A) → ((ts : List Token) → map v.item ts ≡ before → v.null ≡ true) → (v.null ≡ true → F q (t1 ∷ t2 ∷ before) after y) → F q (t1 ∷ t2 ∷ before) after y
  behind_two q t1 t2 before after y free h [] d = absurd cc
  behind_two q t1 t2 before after y free h (u ∷ []) d = absurd cc
  behind_two q t1 t2 before after y free h (u ∷ z ∷ ts) d = h (free ts cc) (u ∷ z ∷ ts) d

  numbered_finds : (act : ℕ → Stmt) (n i x : ℕ) (after : List Item) → F (numbered v act) (at n (What.Number x) ∷ sign i s.RightParenthesis ∷ after) after (alone (act x) 0)
  unfolding monitor
  numbered_finds act n i x after =
      bind_finds v.item (monitor v) (λ k. pure (alone (act k) 0)) (at n (What.Number x) ∷ sign i s.RightParenthesis ∷ after) after after x (alone (act x) 0)
      (commit_finds v.item (λ u. go_with (λ k. must (is v s.RightParenthesis) (pure k)) (number_of (seen v u))) refuse (at n (What.Number x)) (sign i s.RightParenthesis ∷ after) after x (λ u q. (
        must (is v s.RightParenthesis) (pure x),
        rw q refl,
        sign_finds v s.RightParenthesis (pure x) i after after x (done after x),
      )))
      (done after (alone (act x) 0))

  scan_finds : {ts after : List Item} {p : Tall Place} (l n i j : ℕ) → SpellsAddress ts (sign j s.RightParenthesis ∷ after) p → (r : ℕ) → p.levels ≤ r
      → F (scan v r l) (at n (What.Text g.number_format) ∷ sign i s.Comma ∷ ts) after (alone (lined.Read l p.tree) p.levels)
  unfolding scan
  scan_finds {ts} {after} {p} l n i j d r le =
      must_finds v.item (is_number_format_at v) (must (is v s.Comma) (acting (lined.Read l) (addressed v r))) (at n (What.Text g.number_format)) (sign i s.Comma ∷ ts) after (alone (lined.Read l p.tree) p.levels) (λ u q. rw q refl)
      (sign_finds v s.Comma (acting (lined.Read l) (addressed v r)) i ts after (alone (lined.Read l p.tree) p.levels) (acting_finds (lined.Read l) (addressed v r) (addressed_finds j d r le)))

  text_finds : {before after : List Item} {y : Tall (List Stmt)} (r l n : ℕ) (f : List ℕ) → F (print_behind v r l f) before after y → F (print v r l) (at n (What.Text f) ∷ before) after y
  unfolding print
  text_finds {before} {after} {y} r l n f h = commit_finds v.item (λ u. go_with (print_behind v r l) (text_of (seen v u))) refuse (at n (What.Text f)) before after y (λ u q. (print_behind v r l f, rw q refl, h))

  print_finds : (after : List Item) (r l i : ℕ) (f : List ℕ) → F (print_behind v r l f) (sign i s.RightParenthesis ∷ after) after (printed l f no_arguments)
  unfolding print_behind
  print_finds after r l i f = commit_finds v.item (λ u. print_by v r l f (seen v u)) refuse (sign i s.RightParenthesis) after after (printed l f no_arguments) (λ u q. (pure (printed l f no_arguments), rw q refl, done after (printed l f no_arguments)))

  list_tall : {ts after : List Item} {all : List (Tall Expr)} → e.SpellsExpressions ts after all → 1 ≤ (gathered all).levels
  list_tall (one {a = x} d) = let h = expression_tall d in omega (arith, h)
  list_tall (more {all = all} {a = x} d y) = let h = expression_tall y in let b = last all x in omega (arith, h, b)
    where
      last : (all : List (Tall Expr)) (x : Tall Expr) → x.levels ≤ (gathered (all ++ x ∷ [])).levels
      last [] x = omega arith
      last (y ∷ all) x = let h = last all x in omega (arith, h)

  print_with_finds : {ts after : List Item} {all : List (Tall Expr)} (l i j : ℕ) (f : List ℕ) → e.SpellsExpressions ts (sign j s.RightParenthesis ∷ after) all → (r : ℕ) → (gathered all).levels ≤ r
      → F (print_behind v r l f) (sign i s.Comma ∷ ts) after (printed l f (as_arguments (gathered all)))
  unfolding print_behind same_sign
  print_with_finds l i j f d zero le = absurd (omega (arith, le, list_tall d))
  print_with_finds {ts} {after} {all} l i j f d (suc r) le =
      commit_finds v.item (λ u. print_by v (suc r) l f (seen v u)) refuse (sign i s.Comma) ts after (printed l f (as_arguments (gathered all))) (λ u q. (
        print_with v (suc r) l f,
        rw q refl,
        bind_finds v.item (some_arguments v (suc r)) (λ args. pure (printed l f args)) ts after after (as_arguments (gathered all)) (printed l f (as_arguments (gathered all)))
            (bind_finds v.item (expressions v (suc r)) (λ all. close v s.RightParenthesis (fits (suc r) all.levels) (pure (as_arguments all))) ts (sign j s.RightParenthesis ∷ after) after (gathered all) (as_arguments (gathered all))
            (expressions_finds v honest d refl refl (suc r) le) (close_finds v s.RightParenthesis (fits (suc r) (gathered all).levels) (pure (as_arguments (gathered all))) j after after (as_arguments (gathered all)) (fits_true (suc r) (gathered all).levels le) (done after (as_arguments (gathered all)))))
            (done after (printed l f (as_arguments (gathered all)))),
      ))

  create_finds : {ts mid after : List Item} {p : Tall Place} {x : Tall Expr} (l n i j h b d o : ℕ) (a : What) (f : List ℕ) → name_of a ≡ Some f
      → SpellsAddress ts (sign n s.Comma ∷ fixed i w.Null ∷ sign j s.Comma ∷ at b a ∷ sign h s.Comma ∷ mid) p → e.SpellsArgument mid (sign d s.RightParenthesis ∷ after) x → (r : ℕ) → max p.levels x.levels ≤ r
      → F (create v r l) ts after (created l p f x)
  unfolding create create_function create_argument
  create_finds {ts} {mid} {after} {p} {x} l n i j h b d o a f q y z r le =
      bind_finds v.item (address v r) (λ p. must (is v s.Comma) (must (is_null_at v) (must (is v s.Comma) (create_function v r l p)))) ts (sign n s.Comma ∷ fixed i w.Null ∷ sign j s.Comma ∷ at b a ∷ sign h s.Comma ∷ mid) after p (created l p f x)
      (address_finds v honest y refl r (omega (arith, le)))
      (sign_finds v s.Comma (must (is_null_at v) (must (is v s.Comma) (create_function v r l p))) n (fixed i w.Null ∷ sign j s.Comma ∷ at b a ∷ sign h s.Comma ∷ mid) after (created l p f x)
      (must_finds v.item (is_null_at v) (must (is v s.Comma) (create_function v r l p)) (fixed i w.Null) (sign j s.Comma ∷ at b a ∷ sign h s.Comma ∷ mid) after (created l p f x) (λ u c. rw c refl)
      (sign_finds v s.Comma (create_function v r l p) j (at b a ∷ sign h s.Comma ∷ mid) after (created l p f x)
      (commit_finds v.item (named v (behind_function v r l p)) refuse (at b a) (sign h s.Comma ∷ mid) after (created l p f x) (λ u c. (
        behind_function v r l p f,
        rw (c, q) refl,
        sign_finds v s.Comma (create_argument v r l p f) h mid after (created l p f x)
            (bind_finds v.item (argument v r) (λ e. close v s.RightParenthesis (fits r e.levels) (pure (created l p f e))) mid (sign d s.RightParenthesis ∷ after) after x (created l p f x) (argument_finds v honest z refl r (omega (arith, le)))
            (close_finds v s.RightParenthesis (fits r x.levels) (pure (created l p f x)) d after after (created l p f x) (fits_true r x.levels (omega (arith, le))) (done after (created l p f x)))),
      ))))))

  wait_finds : {ts mid after : List Item} {p q : Tall Place} (l n i : ℕ) → SpellsAddress ts (sign n s.Comma ∷ mid) p → SpellsAddress mid (sign i s.RightParenthesis ∷ after) q → (r : ℕ) → max p.levels q.levels ≤ r → F (wait v r l) ts after (waited l p q [])
  unfolding wait
  wait_finds {ts} {mid} {after} {p} {q} l n i d f r le =
      bind_finds v.item (address v r) (λ p. must (is v s.Comma) (addressed v r >>= λ q. pure (waited l p q []))) ts (sign n s.Comma ∷ mid) after p (waited l p q []) (address_finds v honest d refl r (omega (arith, le)))
      (sign_finds v s.Comma (addressed v r >>= λ q. pure (waited l p q [])) n mid after (waited l p q [])
      (bind_finds v.item (addressed v r) (λ q. pure (waited l p q [])) mid after after q (waited l p q []) (addressed_finds i f r (omega (arith, le))) (done after (waited l p q []))))

  -- a number and its comma
  take_goes : (all : List ℕ) (n j k : ℕ) (after : List Item) (u : Token) → v.item u ≡ at n (What.Number k) → (p : Parser Token (List ℕ)) × (take_by v all u ≡ Go p) × F p (sign j s.Comma ∷ after) after (all ++ k ∷ [])
  take_goes all n j k after u q = (must (is v s.Comma) (pure (all ++ k ∷ [])), rw q refl, sign_finds v s.Comma (pure (all ++ k ∷ [])) j after after (all ++ k ∷ []) (done after (all ++ k ∷ [])))

  takes_reach : {before after : List Item} {all : List ℕ} (j : ℕ) → Commas g.SpellsNumber before (sign j s.Comma ∷ after) all → Reaches v.item (first_take v >>= more_takes v) (loop (take_by v) all) before after
  unfolding first_take
  takes_reach {before} {after} j (one (g.number {l = n} {k = k})) =
      bind_reaches v.item (first_take v) (more_takes v) (at n (What.Number k) ∷ sign j s.Comma ∷ after) after (k ∷ [])
      (commit_finds v.item (take_by v []) refuse (at n (What.Number k)) (sign j s.Comma ∷ after) after (k ∷ []) (take_goes [] n j k after))
  takes_reach {before} {after} j (more {l = i} {all = all} d (g.number {l = n} {k = k})) =
      turn_reaches v.item (first_take v >>= more_takes v) (take_by v) before (sign j s.Comma ∷ after) after (at n (What.Number k)) all (all ++ k ∷ []) (take_shrinks v) (takes_reach i d) (take_goes all n j k after)

  takes_find : {before after : List Item} {all : List ℕ} (j b h d : ℕ) → Commas g.SpellsNumber before (sign j s.Comma ∷ sign b s.Minus ∷ at h (What.Number 1) ∷ sign d s.RightParenthesis ∷ after) all → F (takes v) before after all
  unfolding takes takes_end
  takes_find {before} {after} {all} j b h d x =
      bind_finds v.item (first_take v >>= more_takes v) (takes_end v) before (sign b s.Minus ∷ at h (What.Number 1) ∷ sign d s.RightParenthesis ∷ after) after all all
      (loop_finds v.item (first_take v >>= more_takes v) (take_by v) before (sign b s.Minus ∷ at h (What.Number 1) ∷ sign d s.RightParenthesis ∷ after) all (takes_reach j x) (λ u q. rw q refl))
      (sign_finds v s.Minus (must (is_one_at v) (must (is v s.RightParenthesis) (pure all))) b (at h (What.Number 1) ∷ sign d s.RightParenthesis ∷ after) after all
      (must_finds v.item (is_one_at v) (must (is v s.RightParenthesis) (pure all)) (at h (What.Number 1)) (sign d s.RightParenthesis ∷ after) after all (λ u q. rw q refl) (sign_finds v s.RightParenthesis (pure all) d after after all (done after all))))

  controlled_finds : {ts mid next after : List Item} {p q : Tall Place} {all : List ℕ} (l n i j b h d : ℕ) → SpellsAddress ts (sign n s.Comma ∷ mid) p → SpellsAddress mid (sign i s.Comma ∷ next) q
      → Commas g.SpellsNumber next (sign j s.Comma ∷ sign b s.Minus ∷ at h (What.Number 1) ∷ sign d s.RightParenthesis ∷ after) all → (r : ℕ) → max p.levels q.levels ≤ r → F (controlled_wait v r l) ts after (waited l p q all)
  unfolding controlled_wait
  controlled_finds {ts} {mid} {next} {after} {p} {q} {all} l n i j b h d x y z r le =
      bind_finds v.item (address v r) (λ p. must (is v s.Comma) (address v r >>= λ q. must (is v s.Comma) (takes v >>= λ all. pure (waited l p q all)))) ts (sign n s.Comma ∷ mid) after p (waited l p q all) (address_finds v honest x refl r (omega (arith, le)))
      (sign_finds v s.Comma (address v r >>= λ q. must (is v s.Comma) (takes v >>= λ all. pure (waited l p q all))) n mid after (waited l p q all)
      (bind_finds v.item (address v r) (λ q. must (is v s.Comma) (takes v >>= λ all. pure (waited l p q all))) mid (sign i s.Comma ∷ next) after q (waited l p q all) (address_finds v honest y refl r (omega (arith, le)))
      (sign_finds v s.Comma (takes v >>= λ all. pure (waited l p q all)) i next after (waited l p q all)
      (bind_finds v.item (takes v) (λ all. pure (waited l p q all)) next after after all (waited l p q all) (takes_find j b h d z) (done after (waited l p q all))))))

  -- ---- statements

  needs_null : (x : Routine) (k : Kind) (r l m : ℕ) (before after : List Item) (y : Tall (List Stmt)) → ((ts : List Token) → map v.item ts ≡ before → v.null ≡ true)
      → (v.null ≡ true → routine_of v.null (What.Fixed (word_of x)) ≡ Some x) → F (library v r l x) before after y → F (simple_open v k r) (fixed l (word_of x) ∷ sign m s.LeftParenthesis ∷ before) after y
  needs_null x k r l m before after y free goes h = behind_two (simple_open v k r) (fixed l (word_of x)) (sign m s.LeftParenthesis) before after y free (λ n. library_finds x k r l m (goes n) h)

  -- a simple statement, up to what follows it
  pub simple_open_finds : {k : Kind} {ts after : List Item} {y : Tall (List Stmt)} → SpellsSimple k ts after y → EndsValue after → NoComma after → (r : ℕ) → y.levels ≤ suc r → F (simple_open v k r) ts after y
  unfolding same_sign
  simple_open_finds {k} (g.step d) c n r le = step_as_simple k d c r le
  simple_open_finds {k} (g.declare {l = l} d) c n r le = declare_finds k l d c n r le
  simple_open_finds {k} (g.call d) c n r le = call_finds k d r (omega (arith, le))
  simple_open_finds {k} {ts} (g.call_into {l = m} {p = p} {c = x} d y) c n r le = placed_finds k r d refl refl (omega (arith, le)) (set_finds (Call x) r (line_at ts) m p (source_called y r (omega (arith, le))))
  simple_open_finds {k} {ts} {after} (g.give_back {l = l} d) c n r le = return_finds k l d (value_ends after c) r (omega (arith, le))
  simple_open_finds {k} (g.scan {l = l} {m = m} {n = a} {i = i} {j = j} d) c n r le = library_finds routine.Scan k r l m refl (scan_finds l a i j d r (omega (arith, le)))
  simple_open_finds {k} {ts} {after} (g.print {l = l} {m = m} {n = a} {i = i} {format = f}) c n r le = library_finds routine.Print k r l m refl (text_finds r l a f (print_finds after r l i f))
  simple_open_finds {k} (g.print_with {l = l} {m = m} {n = a} {i = i} {j = j} {format = f} d) c n r le = library_finds routine.Print k r l m refl (text_finds r l a f (print_with_finds l i j f d r (omega (arith, le))))
  simple_open_finds {k} {after = after} (g.create {l = l} {m = m} {n = n1} {i = i} {j = j} {g = b} {h = h} {d = d} {a = a} {f = f} {ts = ts} {mid = mid} {p = p} y q z) c n r le =
      needs_null routine.Create k r l m ts after _ (null_free (address v r) ts (sign j s.Comma ∷ at b a ∷ sign h s.Comma ∷ mid) n1 i p (address_finds v honest y refl r (omega (arith, le)))) (λ e. rw e refl) (create_finds l n1 i j h b d 0 a f q y z r (omega (arith, le)))
  simple_open_finds {k} {after = after} (g.join {l = l} {m = m} {n = n1} {i = i} {j = j} {ts = ts} {p = p} d) c n r le =
      needs_null routine.Join k r l m ts after _ (null_free (place v r) ts (sign j s.RightParenthesis ∷ after) n1 i p (place_finds v honest d refl r (omega (arith, le)))) (λ e. rw e refl) (acting_finds (lined.Join l) (joined v r) (joined_finds n1 i j d r (omega (arith, le))))
  simple_open_finds {k} {after = after} (g.init_mutex {l = l} {m = m} {n = n1} {i = i} {j = j} {ts = ts} {p = p} d) c n r le =
      needs_null routine.InitMutex k r l m ts after _ (null_free (address v r) ts (sign j s.RightParenthesis ∷ after) n1 i p (address_finds v honest d refl r (omega (arith, le)))) (λ e. rw e refl) (acting_finds (lined.InitMutex l) (initialised v r) (initialised_finds n1 i j d r (omega (arith, le))))
  simple_open_finds {k} {after = after} (g.init_condition {l = l} {m = m} {n = n1} {i = i} {j = j} {ts = ts} {p = p} d) c n r le =
      needs_null routine.InitCondition k r l m ts after _ (null_free (address v r) ts (sign j s.RightParenthesis ∷ after) n1 i p (address_finds v honest d refl r (omega (arith, le)))) (λ e. rw e refl) (acting_finds (lined.InitCond l) (initialised v r) (initialised_finds n1 i j d r (omega (arith, le))))
  simple_open_finds {k} (g.lock {l = l} {m = m} {n = n1} d) c n r le = library_finds routine.Lock k r l m refl (acting_finds (lined.Lock l) (addressed v r) (addressed_finds n1 d r (omega (arith, le))))
  simple_open_finds {k} (g.unlock {l = l} {m = m} {n = n1} d) c n r le = library_finds routine.Unlock k r l m refl (acting_finds (lined.Unlock l) (addressed v r) (addressed_finds n1 d r (omega (arith, le))))
  simple_open_finds {k} (g.wait {l = l} {m = m} {n = n1} {i = i} d f) c n r le = library_finds routine.Wait k r l m refl (wait_finds l n1 i d f r (omega (arith, le)))
  simple_open_finds {k} (g.signal {l = l} {m = m} {n = n1} d) c n r le = library_finds routine.Signal k r l m refl (acting_finds (lined.Signal l) (addressed v r) (addressed_finds n1 d r (omega (arith, le))))
  simple_open_finds {k} (g.broadcast {l = l} {m = m} {n = n1} d) c n r le = library_finds routine.Broadcast k r l m refl (acting_finds (lined.Broadcast l) (addressed v r) (addressed_finds n1 d r (omega (arith, le))))
  simple_open_finds {k} {after = after} (g.take {l = l} {m = m} {n = n1} {i = i} {monitor = x}) c n r le = library_finds routine.Take k r l m refl (numbered_finds (lined.Take l) n1 i x after)
  simple_open_finds {k} {after = after} (g.give {l = l} {m = m} {n = n1} {i = i} {monitor = x}) c n r le = library_finds routine.Give k r l m refl (numbered_finds (lined.Give l) n1 i x after)
  simple_open_finds {k} (g.controlled_wait {l = l} {m = m} {n = n1} {i = i} {j = j} {g = b} {h = h} {d = e} x y z) c n r le = library_finds routine.ControlledWait k r l m refl (controlled_finds l n1 i j b h e x y z r (omega (arith, le)))

  -- what is read, and the sign behind it
  closed_finds : {ts after : List Item} {y : Tall (List Stmt)} (k : Token → Move Token (Tall (List Stmt))) (closer : Sign) (l r : ℕ) → F (commit k refuse) ts (sign l closer ∷ after) y → y.levels ≤ suc r
      → F (commit (λ u. and_go (k u) (ended v closer r)) refuse) ts after y
  closed_finds {ts} {after} {y} k closer l r h le zs q =
      let z = bind_finds v.item (commit k refuse) (ended v closer r) ts (sign l closer ∷ after) after y y h (close_finds v closer (fits (suc r) y.levels) (pure y) l after after y (fits_true (suc r) y.levels le) (done after y)) zs q in
      (z.0, z.1, commit_then k (ended v closer r) zs ∙ z.2)

  -- every simple statement that is spelled is read, with its `;`
  pub simple_finds : {k : Kind} {ts after : List Item} {y : Tall (List Stmt)} (l : ℕ) → SpellsSimple k ts (sign l s.Semicolon ∷ after) y → (r : ℕ) → y.levels ≤ suc r → F (simple v k r) ts after y
  unfolding same_sign
  simple_finds {k} l d r le = closed_finds (begins k r) s.Semicolon l r (simple_open_finds d refl refl r le) le

  -- and every step, with the sign behind it
  pub step_finds : {ts after : List Item} {y : Tall (List Stmt)} (closer : Sign) (l : ℕ) → SpellsStep ts (sign l closer ∷ after) y → closes (What.Sign closer) ≡ true → (r : ℕ) → y.levels ≤ suc r → F (step v closer r) ts after y
  step_finds closer l d c r le = closed_finds (step_begun v r) closer l r (step_open_finds d c r le) le
