-- What stands outside functions is read alike on marked tokens and on their words, between two definitions.
use Rattle.std.proofs.Common.{◌≡◌, ℕ, nat_lt, Bool, true, false, List, ◌∷◌, refl, sym, ap, subst}
use Rattle.c_lexer.specs.declared.token.Sign.TheVariants as s
use Rattle.c_lexer.specs.Tokens.{Word}
use Rattle.c_tree.specs.Lined.{Program}
use Rattle.c_grammar.specs.Items.{Item, Defined}
use Rattle.c_grammar.specs.Levels.{Tall, tall}
use Rattle.c_grammar.specs.Statements.{Body}
use Rattle.c_grammar.specs.Declarations as g
use Rattle.c_grammar.specs.Programs.{with_slots, with_function}
use Rattle.parse_laws.specs.Parser.{Parser, pure, refuse, Move, moved, when, and_then}
use Rattle.parse_laws.proofs.Alike.{Along, ended, token, barred, Both, Alike, AlikeMove, AlikeMoves, AlikeTest, Stays, pure_alike, choice_alike, when_alike, bind_alike}
use Rattle.c_expressions.specs.declared.token.Marked.{Marked}
use Rattle.c_expressions.specs.Parsers.{Sight, what_at, seen, is}
use Rattle.c_expressions.proofs.Same as same
use Rattle.c_expressions.proofs.Same.{bars, by_bars}
use Rattle.c_statements.specs.Parsers.{body, slot_list}
use Rattle.c_statements.proofs.Same.{body_same, slot_list_same}
use Rattle.c_declarations.specs.Words.{int_holds, line_in}
use Rattle.c_declarations.specs.declared.tree.Sort.{Sort}
use Rattle.c_declarations.specs.declared.tree.Sort.TheVariants as sort
use Rattle.c_declarations.specs.declared.tree.Head.{Head}
use Rattle.c_declarations.specs.declared.tree.Begun.{Begun}
use Rattle.c_declarations.specs.declared.tree.Begun.TheVariants as begun
use Rattle.c_declarations.specs.Parsers.{line, behind_int, head_behind_void, objects, wait_declared}
use Rattle.c_declarations.specs.Shown.{head_of}
use Rattle.c_declarations.proofs.Same.{behind_int_same, behind_void_same, objects_same, wait_declared_same}
use Rattle.c_programs.specs.declared.token.Opening.{Opening}
use Rattle.c_programs.specs.declared.token.Opening.TheVariants as o
use Rattle.c_programs.specs.Words.{outer_opening}
use Rattle.c_programs.specs.Parsers.{body_end, function_behind, with_ints, with_objects, with_capacities, function_added, finished, ints_added, void_added, objects_added, slots_added, declared_by, static_added, outer_by}
use Rattle.c_alike.proofs.Along.{Later, as_long, code, theory, like, W}

module _ (text : List ℕ) (d : List Defined) (room : ℕ) where
  abbrev v : Sight Marked
  v = code text d

  abbrev z : Sight Word
  z = theory text d

  abbrev pub S : {A : Type 0} → Parser Marked A → Parser Word A → Type 0
  S p q = Alike (W text d) p q

  abbrev pub SM : {A : Type 0} → Move Marked A → Move Word A → Type 0
  SM k m = AlikeMove (W text d) k m

  abbrev pub any : ℕ → Bool
  any value = true

  small_fit : (k : ℕ) → nat_lt k 2147483648 ≡ true → int_holds k ≡ any k
  small_fit k e = e

  -- ---- functions

  end_same : (h : Head) (b : Tall Body) → S (body_end v h b) (body_end z h b)
  end_same h b = λ x y a. go a
    where
      taken : (c e : Bool) (u : Marked) (t : Word) (x : List Marked) (y : List Word) → c ≡ e → v.item u ≡ z.item t → Along (W text d) (u ∷ x) (t ∷ y) → Along (W text d) x y
          → Both (W text d) (and_then (moved (when c (pure u)) refuse u x) (λ u. pure (tall (g.defined (head_of h) b.tree (line v u)) b.levels))) (and_then (moved (when e (pure t)) refuse t y) (λ t. pure (tall (g.defined (head_of h) b.tree (line z t)) b.levels)))
      taken true true u t x y e i a n = (ap (λ (i : Item). tall (g.defined (head_of h) b.tree (line_in i)) b.levels) i, n)
      taken false false u t x y e i a n = (refl, a)
      taken true false u t x y e i a n = absurd cc
      taken false true u t x y e i a n = absurd cc

      stopped : (c e : Bool) (u : Marked) (t : Word) (x : List Marked) (y : List Word) → c ≡ e → e ≡ false → Along (W text d) (u ∷ x) (t ∷ y)
          → Both (W text d) (and_then (moved (when c (pure u)) refuse u x) (λ u. pure (tall (g.defined (head_of h) b.tree (line v u)) b.levels))) (and_then (moved (when e (pure t)) refuse t y) (λ t. pure (tall (g.defined (head_of h) b.tree (line z t)) b.levels)))
      stopped false false u t x y e f a = (refl, a)
      stopped true true u t x y e f a = absurd cc
      stopped true false u t x y e f a = absurd cc
      stopped false true u t x y e f a = absurd cc

      brace : AlikeTest (W text d) (is v s.RightBrace) (is z s.RightBrace)
      brace = same.is_same v z (like text d) (Later text d) (as_long text d) s.RightBrace

      go : {x : List Marked} {y : List Word} → Along (W text d) x y → Both (W text d) (body_end v h b x) (body_end z h b y)
      go ended = (refl, ended)
      go (token {u = u} {t = t} {x = x} {y = y} e c a) = taken (is v s.RightBrace u) (is z s.RightBrace t) u t x y (brace.same u t e) e (token e c a) a
      go (barred {u = u} {t = t} {x = x} {y = y} e c a) = stopped (is v s.RightBrace u) (is z s.RightBrace t) u t x y (brace.same u t e) (brace.passes t c) (barred e c a)

  function_same : (h : Head) → S (function_behind v room h) (function_behind z room h)
  unfolding function_behind
  function_same h =
      same.sign_same v z (like text d) (Later text d) (as_long text d) s.LeftBrace _ _
      (bind_alike (W text d) (body v h.kind room) (body z h.kind room) (λ b. body_end v h b) (λ b. body_end z h b) (body_same v z (like text d) (Later text d) (as_long text d) h.kind room) (end_same h))

  added_same : (p : Tall Program) (h : Head) → S (function_added v room p h) (function_added z room p h)
  added_same p h = bind_alike (W text d) (function_behind v room h) (function_behind z room h) (λ f. pure (with_function p f)) (λ f. pure (with_function p f)) (function_same h) (λ f. pure_alike (W text d) (with_function p f))

  -- ---- declarations

  finished_same : (p : Tall Program) (x : Begun) → S (finished v room p x) (finished z room p x)
  finished_same p (begun.Cells all) = pure_alike (W text d) (with_ints p all)
  finished_same p (begun.Head h) = added_same p h
  finished_same p (begun.Capacities c) =
      bind_alike (W text d) (wait_declared v) (wait_declared z) (λ _. pure (with_capacities p c)) (λ _. pure (with_capacities p c)) (wait_declared_same v z (like text d) (Later text d) (as_long text d)) (λ _. pure_alike (W text d) (with_capacities p c))

  pub ints_same : (first : Bool) (l : ℕ) (p : Tall Program) → S (ints_added v int_holds room first l p) (ints_added z any room first l p)
  unfolding ints_added
  ints_same first l p =
      bind_alike (W text d) (behind_int v int_holds first l) (behind_int z any first l) (λ x. finished v room p x) (λ x. finished z room p x)
      (behind_int_same v z (like text d) (Later text d) (as_long text d) int_holds any small_fit first l) (finished_same p)

  void_same : (l : ℕ) (p : Tall Program) → S (void_added v room l p) (void_added z room l p)
  unfolding void_added
  void_same l p =
      bind_alike (W text d) (head_behind_void v l) (head_behind_void z l) (λ h. function_added v room p h) (λ h. function_added z room p h) (behind_void_same v z (like text d) (Later text d) (as_long text d) l) (added_same p)

  all_objects_same : (o : Sort) (p : Tall Program) → S (objects_added v o p) (objects_added z o p)
  unfolding objects_added
  all_objects_same o p =
      bind_alike (W text d) (objects v o) (objects z o) (λ all. pure (with_objects p o all)) (λ all. pure (with_objects p o all)) (objects_same v z (like text d) (Later text d) (as_long text d) o) (λ all. pure_alike (W text d) (with_objects p o all))

  slots_same : (p : Tall Program) → S (slots_added v p) (slots_added z p)
  unfolding slots_added
  slots_same p = bind_alike (W text d) (slot_list v) (slot_list z) (λ all. pure (with_slots p all)) (λ all. pure (with_slots p all)) (slot_list_same v z (like text d) (Later text d) (as_long text d)) (λ all. pure_alike (W text d) (with_slots p all))

  declared_same : (p : Tall Program) (l : ℕ) (x : Opening) → SM (declared_by v int_holds room p l x) (declared_by z any room p l x)
  declared_same p l o.Int = ints_same false l p
  declared_same p l o.Void = void_same l p
  declared_same p l o.Mutex = all_objects_same sort.Mutex p
  declared_same p l o.Condition = all_objects_same sort.Condition p
  declared_same p l o.Thread = slots_same p
  declared_same p l _ = tt

  -- moves by what the tokens open
  pub by_opening : {A : Type 0} (k : ℕ → Opening → Move Marked A) (m : ℕ → Opening → Move Word A) → ((l : ℕ) (x : Opening) → SM (k l x) (m l x)) → ((l : ℕ) → Stays (W text d) (m l o.Definition)) → ((l : ℕ) → Stays (W text d) (m l o.Other))
      → AlikeMoves (W text d) (λ u. k (line v u) (outer_opening (seen v u))) (λ t. m (line z t) (outer_opening (seen z t)))
  by_opening k m h definition other = record {
    moves = λ u t e c. go u t e;
    barred = λ u t e b. go u t e;
    stays = λ t b. by_bars (λ a. Stays (W text d) (m (line z t) (outer_opening a))) (definition (line z t)) (other (line z t)) (z.item t) b;
  }
    where
      go : (u : Marked) (t : Word) → v.item u ≡ z.item t → SM (k (line v u) (outer_opening (seen v u))) (m (line z t) (outer_opening (seen z t)))
      go u t e = subst (λ (i : Item). SM (k (line_in i) (outer_opening (what_at i))) (m (line z t) (outer_opening (seen z t)))) (sym e) (h (line z t) (outer_opening (seen z t)))

  static_same : (p : Tall Program) → S (static_added v int_holds room p) (static_added z any room p)
  unfolding static_added
  static_same p =
      choice_alike (W text d) (λ u. declared_by v int_holds room p (line v u) (outer_opening (seen v u))) (λ t. declared_by z any room p (line z t) (outer_opening (seen z t)))
      (by_opening (declared_by v int_holds room p) (declared_by z any room p) (declared_same p) (λ l. tt) (λ l. tt))

  pub outer_same : (p : Tall Program) (l : ℕ) (x : Opening) → SM (outer_by v int_holds room p l x) (outer_by z any room p l x)
  outer_same p l o.Static = when_alike (W text d) v.declarations z.declarations (static_added v int_holds room p) (static_added z any room p) (like text d).declarations (static_same p)
  outer_same p l o.Int = declared_same p l o.Int
  outer_same p l o.Void = declared_same p l o.Void
  outer_same p l o.Mutex = declared_same p l o.Mutex
  outer_same p l o.Condition = declared_same p l o.Condition
  outer_same p l o.Thread = declared_same p l o.Thread
  outer_same p l o.Definition = tt
  outer_same p l o.Other = tt
