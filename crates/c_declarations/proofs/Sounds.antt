-- What the parser reads is what the grammar spells.
use Rattle.std.proofs.Common.{◌≡◌, ℕ, suc, pos, Bool, true, false, cond, List, [], ◌∷◌, ◌++◌, length, Option, Some, None, refl, sym, ap, subst, ◌∙◌, append-nil, length-append, arith}
use Rattle.c_lexer.specs.declared.token.Sign.{Sign}
use Rattle.c_lexer.specs.declared.token.Sign.TheVariants as s
use Rattle.c_tree.specs.declared.program.Kind.TheVariants as kind
use Rattle.c_tree.specs.declared.program.Cell.{Cell as AnyCell}
use Rattle.c_tree.specs.declared.program.Array.{Array as AnyArray}
use Rattle.c_tree.specs.declared.program.Object.{Object}
use Rattle.c_grammar.specs.declared.words.FixedWord.{FixedWord}
use Rattle.c_grammar.specs.declared.words.FixedWord.TheVariants as w
use Rattle.c_grammar.specs.Items.{What, Item, at, sign, fixed, name_of, cell_name, function_name, spelling}
use Rattle.c_grammar.specs.Commas.{Commas}
use Rattle.c_grammar.specs.Commas as g_commas
use Rattle.c_grammar.specs.Declarations as g
use Rattle.c_grammar.specs.Simple as simple
use Rattle.c_grammar.specs.Simple.{SpellsNumber}
use Rattle.c_grammar.specs.Declarations.{SpellsValue, SpellsCell, SpellsInitial, SpellsObject, SpellsPrototype, SpellsWaitPrototype, SpellsParameter, SpellsParameters, SpellsVoid, SpellsHead, scalars, arrays}
use Rattle.parse_laws.specs.Parser.{Got, Parser, pure, Move, Stop, Go, when}
use Rattle.parse_laws.proofs.Sound.{Sound, SoundMove, stop_sound, go_sound, pure_sound, refuse_sound, sound_map, bind_sound, commit_sound, when_sound, token_sound, many_sound, separated_sound}
use Rattle.c_expressions.specs.Words.{same_sign}
use Rattle.c_expressions.specs.Parsers.{Sight, seen, is, go_named}
use Rattle.c_expressions.proofs.Sounds.{items}
use Rattle.c_declarations.specs.declared.tree.Sort.{Sort}
use Rattle.c_declarations.specs.declared.tree.Sort.TheVariants as sort
use Rattle.c_declarations.specs.declared.tree.Declared.{Declared}
use Rattle.c_declarations.specs.declared.tree.Ints.{Ints}
use Rattle.c_declarations.specs.declared.tree.Head.{Head}
use Rattle.c_declarations.specs.Words.{same_word, number_of, held}
use Rattle.c_declarations.specs.Parsers.{line, is_fixed, go_with, name, number, length_behind, alone, grown, comma, commas, braced, ended, negative, value, values, array_end, array_behind, scalar_behind, cell_behind, cell, no_ints, with_declared, cells_behind, is_initial, initial, counted, initials, ready_by, object_of, objects_end, objects_behind, ready_object, object_behind, object, objects, is_ready, numbers, prototype_end, prototype, capacity_values, prototypes, capacities, parameter, no_parameters_by, no_parameters, some_parameters, parameters_by, parameters, main_head, int_head, void_head, start_parameter, start_head, thread_head, head_behind_void, by_capacities, function_or_cells, head_or_cells, capacities_or_head, behind_int_by, behind_int, wait_comes, wait_end, wait_behind_void, wait_prototype, wait_declared}
use Rattle.c_declarations.specs.Shown.{declared_of, ints_of, sort_of, capacities_of, head_of}
use Rattle.c_declarations.specs.Spelled.{SpellsInts, SpellsMonitors, monitors, SpellsBehindInt}
use Rattle.c_declarations.proofs.Tokens.{item_at, sign_at, fixed_at, number_at, held_at, seen_at}

-- ---- ints as they are gathered

-- one, as the parser has it
abbrev pub Cell : List Item → List Item → Declared → Type 0
Cell before after x = (y : g.Declared) × SpellsCell before after y × (declared_of y ≡ x)

scalars_more : (all : List g.Declared) (x : g.Declared) → scalars (all ++ x ∷ []) ≡ scalars all ++ scalars (x ∷ [])
scalars_more [] x = refl
scalars_more (g.Scalar c ∷ all) x = rw (scalars_more all x) refl
scalars_more (g.Several a ∷ all) x = rw (scalars_more all x) refl

arrays_more : (all : List g.Declared) (x : g.Declared) → arrays (all ++ x ∷ []) ≡ arrays all ++ arrays (x ∷ [])
arrays_more [] x = refl
arrays_more (g.Scalar c ∷ all) x = rw (arrays_more all x) refl
arrays_more (g.Several a ∷ all) x = rw (arrays_more all x) refl

pub ints_more : (all : List g.Declared) (x : g.Declared) → ints_of (all ++ x ∷ []) ≡ with_declared (ints_of all) (declared_of x)
ints_more all (g.Scalar c) = rw (scalars_more all (g.Scalar c), arrays_more all (g.Scalar c)) (ap (λ (w : List AnyArray). record { cells = scalars all ++ c ∷ []; arrays = w }) (append-nil (arrays all)))
ints_more all (g.Several a) = rw (scalars_more all (g.Several a), arrays_more all (g.Several a)) (ap (λ (w : List AnyCell). record { cells = w; arrays = arrays all ++ a ∷ [] }) (append-nil (scalars all)))

one_cell : (before after : List Item) (x : Declared) → Cell before after x → SpellsInts before after (with_declared no_ints x)
one_cell before after x y = (y.0 ∷ [], g_commas.one y.1, ints_more [] y.0 ∙ ap (λ (w : Declared). with_declared no_ints w) y.2)

module _ {Token : Type 0} (v : Sight Token) where
  module _ {A : Type 0} {R : List Token → List Token → A → Type 0} where
    with_sound : {B : Type 0} {p : B → Parser Token A} (x : Option B) → ((b : B) → x ≡ Some b → Sound (p b) R) → SoundMove R (go_with p x)
    with_sound None h = stop_sound
    with_sound (Some b) h = go_sound (h b refl)

    named_sound : {p : List ℕ → Parser Token A} (x : Option (List ℕ)) → ((n : List ℕ) → x ≡ Some n → Sound (p n) R) → SoundMove R (go_named p x)
    named_sound None h = stop_sound
    named_sound (Some n) h = go_sound (h n refl)

    if_sound : {p : Parser Token A} {m : Move Token A} (b : Bool) → (b ≡ true → Sound p R) → (b ≡ false → SoundMove R m) → SoundMove R (cond b (Go p) m)
    if_sound true x y = go_sound (x refl)
    if_sound false x y = y refl

    if_when_sound : {p : Parser Token A} (b c : Bool) → (b ≡ true → Sound p R) → SoundMove R (cond b (when c p) Stop)
    if_when_sound true true x = go_sound (x refl)
    if_when_sound true false x = stop_sound
    if_when_sound false c x = stop_sound

  -- tokens and what follows them, of a relation over items
  abbrev pub Over : {A : Type 0} → (List Item → List Item → A → Type 0) → List Token → List Token → A → Type 0
  Over R ts rest a = R (items v ts) (items v rest) a

  -- ---- lists

  -- up to a sign that ends it
  abbrev pub Ended : {A : Type 0} → Sign → (List Item → List Item → A → Type 0) → List Token → List Token → A → Type 0
  Ended x R ts rest a = (l : ℕ) × R (items v ts) (sign l x ∷ items v rest) a

  pub ended_sound : {A : Type 0} {p : Parser Token A} (R : List Item → List Item → A → Type 0) (x : Sign) → Sound p (Over R) → Sound (ended v x p) (Ended x R)
  ended_sound R x y = bind_sound {R = Over R} y (λ a. token_sound (λ u e. pure_sound (λ rest ts d. (line v u, subst (λ (t : Item). R (items v ts) (t ∷ items v rest) a) (sign_at v u x e) d))))

  -- in braces
  abbrev pub Braced : {A : Type 0} → (List Item → List Item → A → Type 0) → List Token → List Token → A → Type 0
  Braced R ts rest a = (l : ℕ) × (m : ℕ) × (inside : List Item) × (items v ts ≡ sign l s.LeftBrace ∷ inside) × R inside (sign m s.RightBrace ∷ items v rest) a

  pub braced_sound : {A : Type 0} {p : Parser Token A} (R : List Item → List Item → A → Type 0) → Sound p (Over R) → Sound (braced v p) (Braced R)
  braced_sound R x = token_sound (λ u e. sound_map (λ ts rest a d. (line v u, d.0, items v ts, ap (λ (t : Item). t ∷ items v ts) (sign_at v u s.LeftBrace e), d.1)) (ended_sound R s.RightBrace x))

  -- what was read before, one more behind a comma
  comma_read : {A : Type 0} (R : List Item → List Item → A → Type 0) (ts mid rest : List Item) (u : Token) (all : List A) (x : A) → is v s.Comma u ≡ true → Commas R ts (v.item u ∷ mid) all → R mid rest x → Commas R ts rest (all ++ x ∷ [])
  comma_read R ts mid rest u all x e d i = g_commas.more (subst (λ (t : Item). Commas R ts (t ∷ mid) all) (sign_at v u s.Comma e) d) i

  pub commas_sound : {A : Type 0} {item : Parser Token A} (R : List Item → List Item → A → Type 0) → Sound item (Over R) → Sound (commas v item) (Over (Commas R))
  commas_sound R x = separated_sound {Item = Over R} {All = Over (Commas R)} (is v s.Comma) grown alone (λ ts rest a i. g_commas.one i) (λ ts mid rest u all a e d i. comma_read R (items v ts) (items v mid) (items v rest) u all a e d i) x

  -- ---- single tokens

  pub name_sound : {R : List Token → List Token → List ℕ → Type 0} → ((u : Token) (rest : List Token) (n : List ℕ) → name_of (seen v u) ≡ Some n → R (u ∷ rest) rest n) → Sound (name v) R
  unfolding name
  name_sound h = commit_sound (λ u. named_sound (name_of (seen v u)) (λ n e. pure_sound (λ rest. h u rest n e))) refuse_sound

  number_sound : Sound (number v) (Over SpellsNumber)
  unfolding number
  number_sound = commit_sound (λ u. with_sound (number_of (seen v u)) (λ k e. pure_sound (λ rest. rw (number_at v u k e) simple.number))) refuse_sound

  -- K ]
  abbrev pub Length : List Token → List Token → ℕ → Type 0
  Length ts rest k = (l : ℕ) × (m : ℕ) × (items v ts ≡ at l (What.Number k) ∷ sign m s.RightBracket ∷ items v rest)

  length_of : (ts mid rest : List Token) (u : Token) (k : ℕ) → mid ≡ u ∷ rest → SpellsNumber (items v ts) (items v mid) k → is v s.RightBracket u ≡ true → Length ts rest k
  length_of ts mid rest u k p d e = go (items v ts) (items v mid) d (ap (items v) p ∙ ap (λ (t : Item). t ∷ items v rest) (sign_at v u s.RightBracket e))
    where
      go : (before after : List Item) → SpellsNumber before after k → after ≡ sign (line v u) s.RightBracket ∷ items v rest → (l : ℕ) × (m : ℕ) × (before ≡ at l (What.Number k) ∷ sign m s.RightBracket ∷ items v rest)
      go before after (simple.number {l = l}) q = (l, line v u, ap (λ (w : List Item). at l (What.Number k) ∷ w) q)

  length_sound : Sound (length_behind v) Length
  unfolding length_behind
  length_sound = bind_sound number_sound (λ k. token_sound (λ u e. pure_sound (λ rest ts d. length_of ts (u ∷ rest) rest u k refl d e)))

  -- ---- values

  module _ (holds : ℕ → Bool) where
    negative_sound : (u : Token) → is v s.Minus u ≡ true → Sound (negative v holds) (λ mid rest x. Over SpellsValue (u ∷ mid) rest x)
    unfolding negative
    negative_sound u q = commit_sound (λ t. with_sound (held holds (seen v t)) (λ k e. pure_sound (λ rest. rw (sign_at v u s.Minus q, held_at v t holds k e) g.negative))) refuse_sound

    pub value_sound : Sound (value v holds) (Over SpellsValue)
    unfolding value
    value_sound = commit_sound (λ u. if_sound (is v s.Minus u) (λ q. negative_sound u q) (λ q. with_sound (held holds (seen v u)) (λ k e. pure_sound (λ rest. rw (held_at v u holds k e) g.plain)))) refuse_sound

    values_sound : Sound (values v holds) (Over (Commas SpellsValue))
    unfolding values
    values_sound = commas_sound SpellsValue value_sound

    -- ---- ints

    array_end_sound : (u b : Token) (n : List ℕ) (len : ℕ) → cell_name (seen v u) ≡ Some n → is v s.LeftBracket b ≡ true
        → Sound (array_end v holds (line v u) n len) (λ mid rest x. (ts : List Token) → Length ts mid len → Cell (v.item u ∷ v.item b ∷ items v ts) (items v rest) x)
    unfolding array_end
    array_end_sound u b n len d q =
        commit_sound (λ a. when_sound (is v s.Assign a) (λ e. bind_sound (braced_sound (Commas SpellsValue) values_sound) (λ all. pure_sound (λ rest mid y ts z.
        (g.Several (record { name = n; len = len; values = all; line = line v u }), rw (z.2, sign_at v b s.LeftBracket q, sign_at v a s.Assign e, y.3, item_at v u) (g.array_by d y.4), refl)))))
        (pure_sound (λ mid ts z. (g.Several (record { name = n; len = len; values = []; line = line v u }), rw (z.2, sign_at v b s.LeftBracket q, item_at v u) (g.array d), refl)))

    array_behind_sound : (u b : Token) (n : List ℕ) → cell_name (seen v u) ≡ Some n → is v s.LeftBracket b ≡ true → Sound (array_behind v holds (line v u) n) (λ mid rest x. Cell (v.item u ∷ v.item b ∷ items v mid) (items v rest) x)
    unfolding array_behind
    array_behind_sound u b n d q = bind_sound length_sound (λ len. array_end_sound u b n len d q)

    scalar_behind_sound : (u b : Token) (n : List ℕ) → cell_name (seen v u) ≡ Some n → is v s.Assign b ≡ true → Sound (scalar_behind v holds (line v u) n) (λ mid rest x. Cell (v.item u ∷ v.item b ∷ items v mid) (items v rest) x)
    unfolding scalar_behind
    scalar_behind_sound u b n d q =
        bind_sound value_sound (λ k. pure_sound (λ rest ts y. (g.Scalar (record { name = n; value = k; line = line v u }), rw (sign_at v b s.Assign q, item_at v u) (g.scalar_by d y), refl)))

    cell_behind_sound : (u : Token) (n : List ℕ) → cell_name (seen v u) ≡ Some n → Sound (cell_behind v holds (line v u) n) (λ mid rest x. Cell (v.item u ∷ items v mid) (items v rest) x)
    unfolding cell_behind
    cell_behind_sound u n d =
        commit_sound (λ b. if_sound (is v s.Assign b) (λ q. scalar_behind_sound u b n d q) (λ q. when_sound (is v s.LeftBracket b) (λ q. array_behind_sound u b n d q)))
        (pure_sound (λ mid. (g.Scalar (record { name = n; value = pos 0; line = line v u }), rw (item_at v u) (g.scalar d), refl)))

    cell_sound : Sound (cell v holds) (Over Cell)
    unfolding cell
    cell_sound = commit_sound (λ u. named_sound (cell_name (seen v u)) (λ n d. cell_behind_sound u n d)) refuse_sound

    cells_read : (ts mid rest : List Item) (u : Token) (all : Ints) (x : Declared) → is v s.Comma u ≡ true → SpellsInts ts (v.item u ∷ mid) all → Cell mid rest x → SpellsInts ts rest (with_declared all x)
    cells_read ts mid rest u all x e d i =
        (d.0 ++ i.0 ∷ [], comma_read SpellsCell ts mid rest u d.0 i.0 e d.1 i.1, ints_more d.0 i.0 ∙ ap (λ (w : Ints). with_declared w (declared_of i.0)) d.2 ∙ ap (λ (w : Declared). with_declared all w) i.2)

    -- the rest of a list, and the sign that ends it
    cells_behind_sound : (u : Token) (n : List ℕ) → cell_name (seen v u) ≡ Some n → Sound (cells_behind v holds (line v u) n) (λ mid rest all. (l : ℕ) × SpellsInts (v.item u ∷ items v mid) (sign l s.Semicolon ∷ items v rest) all)
    unfolding cells_behind
    cells_behind_sound u n d =
        bind_sound (cell_behind_sound u n d) (λ x. bind_sound {R = λ mid rest all. (ts : List Token) → Cell (v.item u ∷ items v ts) (items v mid) x → SpellsInts (v.item u ∷ items v ts) (items v rest) all}
        (sound_map (λ mid rest all h ts y. h (u ∷ ts) (one_cell (v.item u ∷ items v ts) (items v mid) x y))
        (many_sound {Item = λ mid rest y. Comma mid rest y} {All = Over SpellsInts} (comma v (cell v holds)) with_declared
        (λ ts mid rest all y a b. comma_cells ts mid rest all y a b) (λ t. when_sound (is v s.Comma t) (λ e. sound_map (λ mid rest y i. (t, mid, refl, e, i)) cell_sound)) (with_declared no_ints x)))
        (λ all. token_sound (λ t e. pure_sound (λ rest mid h ts y. (line v t, subst (λ (w : Item). SpellsInts (v.item u ∷ items v ts) (w ∷ items v rest) all) (sign_at v t s.Semicolon e) (h ts y))))))
      where
        -- a comma, and one more
        Comma : List Token → List Token → Declared → Type 0
        Comma mid rest y = (t : Token) × (ts : List Token) × (mid ≡ t ∷ ts) × (is v s.Comma t ≡ true) × Over Cell ts rest y

        comma_cells : (ts mid rest : List Token) (all : Ints) (y : Declared) → Over SpellsInts ts mid all → Comma mid rest y → Over SpellsInts ts rest (with_declared all y)
        comma_cells ts mid rest all y a b = cells_read (items v ts) (items v b.1) (items v rest) b.0 all y b.3 (subst (λ (w : List Token). Over SpellsInts ts w all) b.2 a) b.4

  -- ---- mutexes and conditions

  type_word_at : (o : Sort) (u : Token) → is_initial v o u ≡ true → v.item u ≡ fixed (line v u) (g.initial_word (sort_of o))
  type_word_at sort.Mutex u e = fixed_at v u w.MutexInitializer e
  type_word_at sort.Condition u e = fixed_at v u w.ConditionInitializer e

  initial_sound : (o : Sort) → Sound (initial v o) (λ ts rest k. (k ≡ 1) × SpellsInitial (sort_of o) (items v ts) (items v rest) tt)
  unfolding initial
  initial_sound o = token_sound (λ u e. pure_sound (λ rest. (refl, rw (type_word_at o u e) g.initial)))

  -- so many words that a mutex or a condition begins with
  abbrev pub Counted : Sort → List Item → List Item → ℕ → Type 0
  Counted o before after k = (all : List (Unit {0})) × Commas (SpellsInitial (sort_of o)) before after all × (length all ≡ k)

  one_more : (all : List (Unit {0})) (k : ℕ) → length all ≡ k → length (all ++ tt ∷ []) ≡ suc k
  one_more all k e = let p = length-append all (tt ∷ []) in omega (arith, p, e)

  initials_sound : (o : Sort) → Sound (initials v o) (Over (Counted o))
  unfolding initials
  initials_sound o =
      separated_sound {Item = λ ts rest k. (k ≡ 1) × SpellsInitial (sort_of o) (items v ts) (items v rest) tt} {All = Over (Counted o)} (is v s.Comma) counted (λ one. one) (λ ts rest k i. (tt ∷ [], g_commas.one i.1, sym i.0))
      (λ ts mid rest u all k e d i. (d.0 ++ tt ∷ [], comma_read (SpellsInitial (sort_of o)) (items v ts) (items v mid) (items v rest) u d.0 tt e d.1 i.1, one_more d.0 all d.2)) (initial_sound o)

  ready_sound : {A : Type 0} {p : Parser Token A} {R : List Token → List Token → A → Type 0} (o : Sort) (b : Token) → (is v s.Assign b ≡ true → Sound p R) → SoundMove R (ready_by v o p b)
  ready_sound o b h = if_when_sound (is v s.Assign b) (is_ready v o) h

  module _ (o : Sort) where
    abbrev Object_ : List Item → List Item → Object → Type 0
    Object_ before after x = SpellsObject (sort_of o) before after x

    objects_end_sound : (u b : Token) (n : List ℕ) (len : ℕ) → name_of (seen v u) ≡ Some n → is v s.LeftBracket b ≡ true
        → Sound (objects_end v o (line v u) n len) (λ mid rest x. (ts : List Token) → Length ts mid len → Object_ (v.item u ∷ v.item b ∷ items v ts) (items v rest) x)
    unfolding objects_end
    objects_end_sound u b n len d q =
        commit_sound (λ a. ready_sound o a (λ e. bind_sound (braced_sound (Counted o) (initials_sound o)) (λ k. pure_sound (λ rest mid y ts z.
        subst (λ (given : ℕ). Object_ (v.item u ∷ v.item b ∷ items v ts) (items v rest) (object_of (line v u) n (Some len) true given)) y.4.2
        (rw (z.2, sign_at v b s.LeftBracket q, sign_at v a s.Assign e, y.3, item_at v u) (g.several_ready d y.4.1))))))
        (pure_sound (λ mid ts z. rw (z.2, sign_at v b s.LeftBracket q, item_at v u) (g.several d)))

    objects_behind_sound : (u b : Token) (n : List ℕ) → name_of (seen v u) ≡ Some n → is v s.LeftBracket b ≡ true → Sound (objects_behind v o (line v u) n) (λ mid rest x. Object_ (v.item u ∷ v.item b ∷ items v mid) (items v rest) x)
    unfolding objects_behind
    objects_behind_sound u b n d q = bind_sound length_sound (λ len. objects_end_sound u b n len d q)

    ready_object_sound : (u b : Token) (n : List ℕ) → name_of (seen v u) ≡ Some n → is v s.Assign b ≡ true → Sound (ready_object v o (line v u) n) (λ mid rest x. Object_ (v.item u ∷ v.item b ∷ items v mid) (items v rest) x)
    unfolding ready_object initial
    ready_object_sound u b n d q = bind_sound {R = λ ts rest k. (k ≡ 1) × (t : Token) × (ts ≡ t ∷ rest) × (is_initial v o t ≡ true)} (token_sound (λ t e. pure_sound (λ rest. (refl, t, refl, e)))) (λ k. pure_sound (λ rest ts y.
        let p = ap (items v) y.2 ∙ ap (λ (w : Item). w ∷ items v rest) (type_word_at o y.1 y.3) in
        subst (λ (given : ℕ). Object_ (v.item u ∷ v.item b ∷ items v ts) (items v rest) (object_of (line v u) n None true given)) (sym y.0) (rw (p, sign_at v b s.Assign q, item_at v u) (g.single_ready d))))

    object_behind_sound : (u : Token) (n : List ℕ) → name_of (seen v u) ≡ Some n → Sound (object_behind v o (line v u) n) (λ mid rest x. Object_ (v.item u ∷ items v mid) (items v rest) x)
    unfolding object_behind
    object_behind_sound u n d =
        commit_sound (λ b. if_sound (is v s.LeftBracket b) (λ q. objects_behind_sound u b n d q) (λ q. ready_sound o b (λ q. ready_object_sound u b n d q)))
        (pure_sound (λ mid. rw (item_at v u) (g.single d)))

    object_sound : Sound (object v o) (Over Object_)
    unfolding object
    object_sound = commit_sound (λ u. named_sound (name_of (seen v u)) (λ n d. object_behind_sound u n d)) refuse_sound

    -- mutexes or conditions, behind the word of their type
    pub objects_sound : Sound (objects v o) (Ended s.Semicolon (Commas Object_))
    unfolding objects
    objects_sound = ended_sound (Commas Object_) s.Semicolon (commas_sound Object_ object_sound)

  -- ---- the capacities

  numbers_sound : Sound (numbers v) (Over (Commas SpellsNumber))
  unfolding numbers
  numbers_sound = commas_sound SpellsNumber number_sound

  prototype_sound : (word : FixedWord) → Sound (prototype v word) (λ ts rest x. SpellsPrototype word (items v ts) (items v rest))
  unfolding prototype prototype_end
  prototype_sound word =
      token_sound (λ u1 e1. token_sound (λ u2 e2. token_sound (λ u3 e3. token_sound (λ u4 e4. token_sound (λ u5 e5. token_sound (λ u6 e6. token_sound (λ u7 e7. pure_sound (λ rest.
      rw (fixed_at v u1 w.Void e1, fixed_at v u2 word e2, sign_at v u3 s.LeftParenthesis e3, fixed_at v u4 w.Int e4, fixed_at v u5 w.Parameter e5, sign_at v u6 s.RightParenthesis e6, sign_at v u7 s.Semicolon e7) g.prototype))))))))

  -- = { numbers } ;
  abbrev CapacityValues : List Token → List Token → List ℕ → Type 0
  CapacityValues ts rest all =
      (k : ℕ) × (l : ℕ) × (m : ℕ) × (j : ℕ) × (inside : List Item) × (items v ts ≡ sign k s.Assign ∷ sign l s.LeftBrace ∷ inside) × Commas SpellsNumber inside (sign m s.RightBrace ∷ sign j s.Semicolon ∷ items v rest) all

  capacity_values_sound : Sound (capacity_values v) CapacityValues
  unfolding capacity_values
  capacity_values_sound = token_sound (λ u e. bind_sound (braced_sound (Commas SpellsNumber) numbers_sound) (λ all. token_sound (λ t d. pure_sound (λ rest ts y. (
    line v u,
    y.0,
    y.1,
    line v t,
    y.2,
    ap (λ (w : Item). w ∷ items v ts) (sign_at v u s.Assign e) ∙ ap (λ (w : List Item). sign (line v u) s.Assign ∷ w) y.3,
    subst (λ (w : Item). Commas SpellsNumber y.2 (sign y.1 s.RightBrace ∷ w ∷ items v rest) all) (sign_at v t s.Semicolon d) y.4,
  )))))

  prototypes_sound : Sound (prototypes v) (λ ts rest x. (mid : List Item) × SpellsPrototype w.Take (items v ts) mid × SpellsPrototype w.Give mid (items v rest))
  unfolding prototypes
  prototypes_sound = bind_sound (prototype_sound w.Take) (λ x. sound_map (λ mid rest y d ts e. (items v mid, e, d)) (prototype_sound w.Give))

  -- behind `int gd_cap [`
  capacities_sound : (l : ℕ) (u b : Token) → is_fixed v w.Capacities u ≡ true → is v s.LeftBracket b ≡ true
      → Sound (capacities v (line v u)) (λ mid rest c. SpellsMonitors (fixed l w.Int ∷ v.item u ∷ v.item b ∷ items v mid) (items v rest) (capacities_of c))
  unfolding capacities
  capacities_sound l u b d q = bind_sound length_sound (λ len. bind_sound capacity_values_sound (λ all. bind_sound prototypes_sound (λ x. pure_sound (λ rest next z mid y ts t.
      rw (t.2, sign_at v b s.LeftBracket q, y.5, fixed_at v u w.Capacities d) (monitors y.6 z.1 z.2)))))

  wait_prototype_sound : Sound (wait_prototype v) (λ ts rest x. SpellsWaitPrototype (items v ts) (items v rest))
  unfolding wait_prototype wait_behind_void wait_end
  wait_prototype_sound =
      token_sound (λ u1 e1. token_sound (λ u2 e2. token_sound (λ u3 e3. token_sound (λ u4 e4. token_sound (λ u5 e5. token_sound (λ u6 e6. token_sound (λ u7 e7. token_sound (λ u8 e8. token_sound (λ u9 e9. token_sound (λ u10 e10.
      token_sound (λ u11 e11. token_sound (λ u12 e12. token_sound (λ u13 e13. token_sound (λ u14 e14. pure_sound (λ rest.
      rw (fixed_at v u1 w.Void e1, fixed_at v u2 w.ControlledWait e2, sign_at v u3 s.LeftParenthesis e3, fixed_at v u4 w.Condition e4, sign_at v u5 s.Star e5, fixed_at v u6 w.ConditionParameter e6, sign_at v u7 s.Comma e7)
      (rw (fixed_at v u8 w.Mutex e8, sign_at v u9 s.Star e9, fixed_at v u10 w.MutexParameter e10, sign_at v u11 s.Comma e11, sign_at v u12 s.Ellipsis e12, sign_at v u13 s.RightParenthesis e13, sign_at v u14 s.Semicolon e14) g.present))))))))))))))))

  -- the declaration of `gd_cond_wait`, if it is there
  pub wait_declared_sound : Sound (wait_declared v) (λ ts rest x. SpellsWaitPrototype (items v ts) (items v rest))
  unfolding wait_declared
  wait_declared_sound = record { spelled = λ ts x rest e. go ts x rest (wait_comes v ts) e }
    where
      go : (ts : List Token) (x : Unit {0}) (rest : List Token) (b : Bool) → cond b (wait_prototype v) (pure tt) ts ≡ Got x rest → SpellsWaitPrototype (items v ts) (items v rest)
      go ts x rest true e = wait_prototype_sound.spelled ts x rest e
      go ts x rest false e = let same : ts ≡ rest = cc in subst (λ (w : List Token). SpellsWaitPrototype (items v ts) (items v w)) same g.absent

  -- ---- heads

  parameter_sound : Sound (parameter v) (Over SpellsParameter)
  unfolding parameter
  parameter_sound = token_sound (λ u e. name_sound (λ t rest n d. rw (fixed_at v u w.Int e, item_at v t) (g.parameter d)))

  module _ (R : List Token → List Token → List (List ℕ) → Type 0) (u : Token) (close : (rest : List Token) → is v s.RightParenthesis u ≡ true → R (u ∷ rest) rest [])
      (void : (t : Token) (rest : List Token) → seen v u ≡ What.Fixed w.Void → is v s.RightParenthesis t ≡ true → R (u ∷ t ∷ rest) rest []) where
    no_parameters_move : (a : What) → seen v u ≡ a → SoundMove (λ mid rest all. R (u ∷ mid) rest all) (no_parameters_by v a)
    unfolding same_sign
    no_parameters_move (What.Fixed w.Void) e = go_sound (token_sound (λ t d. pure_sound (λ rest. void t rest e d)))
    no_parameters_move (What.Sign s.RightParenthesis) e = go_sound (pure_sound (λ rest. close rest (right e)))
      where
        right : seen v u ≡ What.Sign s.RightParenthesis → is v s.RightParenthesis u ≡ true
        right e = rw e refl
    no_parameters_move _ e = stop_sound

  no_parameters_sound : Sound (no_parameters v) (λ ts rest all. (all ≡ []) × (l : ℕ) × SpellsVoid (items v ts) (sign l s.RightParenthesis ∷ items v rest))
  unfolding no_parameters
  no_parameters_sound =
      commit_sound (λ u. no_parameters_move (λ ts rest all. (all ≡ []) × (l : ℕ) × SpellsVoid (items v ts) (sign l s.RightParenthesis ∷ items v rest)) u (λ rest e. (refl, line v u, rw (sign_at v u s.RightParenthesis e) g.absent))
      (λ t rest d e. (refl, line v t, rw (seen_at v u (What.Fixed w.Void) d, sign_at v t s.RightParenthesis e) g.present)) (seen v u) refl) refuse_sound

  -- behind the token `int`
  some_parameters_sound : (u : Token) → seen v u ≡ What.Fixed w.Int → Sound (some_parameters v) (λ mid rest all. Ended s.RightParenthesis (Commas SpellsParameter) (u ∷ mid) rest all)
  unfolding some_parameters
  some_parameters_sound u d =
      bind_sound {R = λ ts rest n. Over SpellsParameter (u ∷ ts) rest n} (name_sound (λ t rest n e. rw (seen_at v u (What.Fixed w.Int) d, item_at v t) (g.parameter e)))
      (λ n. bind_sound {R = λ mid rest all. (ts : List Token) → Over SpellsParameter (u ∷ ts) mid n → Over (Commas SpellsParameter) (u ∷ ts) rest all}
      (sound_map (λ mid rest all h ts y. h (u ∷ ts) (g_commas.one y))
      (many_sound {Item = λ mid rest y. (t : Token) × (ts : List Token) × (mid ≡ t ∷ ts) × (is v s.Comma t ≡ true) × Over SpellsParameter ts rest y} {All = Over (Commas SpellsParameter)} (comma v (parameter v)) grown
      (λ ts mid rest all y a b. comma_read SpellsParameter (items v ts) (items v b.1) (items v rest) b.0 all y b.3 (subst (λ (w : List Token). Over (Commas SpellsParameter) ts w all) b.2 a) b.4)
      (λ t. when_sound (is v s.Comma t) (λ e. sound_map (λ mid rest y i. (t, mid, refl, e, i)) parameter_sound)) (alone n)))
      (λ all. token_sound (λ t e. pure_sound (λ rest mid h ts y. (line v t, subst (λ (w : Item). Commas SpellsParameter (v.item u ∷ items v ts) (w ∷ items v rest) all) (sign_at v t s.RightParenthesis e) (h ts y))))))

  parameters_sound : Sound (parameters v) (Ended s.RightParenthesis SpellsParameters)
  unfolding parameters
  parameters_sound = commit_sound (λ u. go u (seen v u) refl) refuse_sound
    where
      go : (u : Token) (a : What) → seen v u ≡ a → SoundMove (λ mid rest all. Ended s.RightParenthesis SpellsParameters (u ∷ mid) rest all) (parameters_by v a)
      go u (What.Fixed w.Int) d = go_sound (sound_map (λ mid rest all y. (y.0, g.ints y.1)) (some_parameters_sound u d))
      go u a d =
          no_parameters_move (Ended s.RightParenthesis SpellsParameters) u (λ rest e. (line v u, rw (sign_at v u s.RightParenthesis e) g.nothing))
          (λ t rest d e. (line v t, rw (seen_at v u (What.Fixed w.Void) d, sign_at v t s.RightParenthesis e) g.void)) a d

  -- behind `int main (`
  main_head_sound : (l : ℕ) (u b : Token) → seen v u ≡ What.Fixed w.Main → is v s.LeftParenthesis b ≡ true → Sound (main_head v l) (λ mid rest h. SpellsHead (fixed l w.Int ∷ v.item u ∷ v.item b ∷ items v mid) (items v rest) (head_of h))
  unfolding main_head
  main_head_sound l u b d q = bind_sound no_parameters_sound (λ all. pure_sound (λ rest ts y. rw (y.0, seen_at v u (What.Fixed w.Main) d, sign_at v b s.LeftParenthesis q) (g.main y.2)))

  int_head_sound : (l : ℕ) (u b : Token) (n : List ℕ) → function_name (seen v u) ≡ Some n → is v s.LeftParenthesis b ≡ true → Sound (int_head v l n) (λ mid rest h. SpellsHead (fixed l w.Int ∷ v.item u ∷ v.item b ∷ items v mid) (items v rest) (head_of h))
  unfolding int_head
  int_head_sound l u b n d q = bind_sound parameters_sound (λ all. pure_sound (λ rest ts y. rw (item_at v u, sign_at v b s.LeftParenthesis q) (g.int_function d y.1)))

  void_head_sound : (l : ℕ) (u : Token) (n : List ℕ) → function_name (seen v u) ≡ Some n → Sound (void_head v l n) (λ mid rest h. SpellsHead (fixed l w.Void ∷ v.item u ∷ items v mid) (items v rest) (head_of h))
  unfolding void_head
  void_head_sound l u n d = token_sound (λ b q. bind_sound parameters_sound (λ all. pure_sound (λ rest ts y. rw (item_at v u, sign_at v b s.LeftParenthesis q) (g.void_function d y.1))))

  -- ( void * N )
  start_head_sound : (l : ℕ) (t u : Token) (n : List ℕ) → is v s.Star t ≡ true → function_name (seen v u) ≡ Some n → Sound (start_head v l n) (λ mid rest h. SpellsHead (fixed l w.Void ∷ v.item t ∷ v.item u ∷ items v mid) (items v rest) (head_of h))
  unfolding start_head start_parameter
  start_head_sound l t u n p d =
      token_sound (λ u1 e1. bind_sound {R = λ ts rest x. SpellsHead (fixed l w.Void ∷ v.item t ∷ v.item u ∷ v.item u1 ∷ items v ts) (items v rest) (record { name = n; kind = kind.Thread; params = x ∷ []; line = l })}
      (bind_sound {R = λ ts rest x. (u2 : Token) × (u3 : Token) × (u4 : Token) × (ts ≡ u2 ∷ u3 ∷ u4 ∷ rest) × (is_fixed v w.Void u2 ≡ true) × (is v s.Star u3 ≡ true) × (name_of (seen v u4) ≡ Some x)}
      (token_sound (λ u2 e2. token_sound (λ u3 e3. name_sound (λ u4 rest x e4. (u2, u3, u4, refl, e2, e3, e4)))))
      (λ x. token_sound (λ u5 e5. pure_sound (λ rest ts y. rw (y.3, sign_at v t s.Star p, item_at v u, sign_at v u1 s.LeftParenthesis e1, fixed_at v y.0 w.Void y.4, sign_at v y.1 s.Star y.5, item_at v y.2, sign_at v u5 s.RightParenthesis e5) (g.thread_function d y.6)))))
      (λ x. pure_sound (λ rest ts y. y)))

  thread_head_sound : (l : ℕ) (t : Token) → is v s.Star t ≡ true → Sound (thread_head v l) (λ mid rest h. SpellsHead (fixed l w.Void ∷ v.item t ∷ items v mid) (items v rest) (head_of h))
  unfolding thread_head
  thread_head_sound l t p = commit_sound (λ u. named_sound (function_name (seen v u)) (λ n d. start_head_sound l t u n p d)) refuse_sound

  -- what `void` begins
  pub behind_void_sound : (l : ℕ) → Sound (head_behind_void v l) (λ mid rest h. SpellsHead (fixed l w.Void ∷ items v mid) (items v rest) (head_of h))
  unfolding head_behind_void
  behind_void_sound l = commit_sound (λ u. if_sound (is v s.Star u) (λ p. thread_head_sound l u p) (λ p. named_sound (function_name (seen v u)) (λ n d. void_head_sound l u n d))) refuse_sound

  -- ---- what `int` begins

  head_or_cells_sound : (holds : ℕ → Bool) (first : Bool) (l : ℕ) (u : Token) (n : List ℕ) {head : Parser Token Head} → cell_name (seen v u) ≡ Some n
      → ((b : Token) → is v s.LeftParenthesis b ≡ true → Sound head (λ mid rest h. SpellsHead (fixed l w.Int ∷ v.item u ∷ v.item b ∷ items v mid) (items v rest) (head_of h)))
      → Sound (head_or_cells v holds (line v u) n head) (λ mid rest x. SpellsBehindInt first l (v.item u ∷ items v mid) (items v rest) x)
  unfolding head_or_cells
  head_or_cells_sound holds first l u n d x =
      commit_sound (λ b. when_sound (is v s.LeftParenthesis b) (λ q. bind_sound (x b q) (λ h. pure_sound (λ rest ts y. y))))
      (bind_sound (cells_behind_sound holds u n d) (λ all. pure_sound (λ rest ts y. y)))

  capacities_or_head_sound : (first : Bool) (l : ℕ) (u : Token) → seen v u ≡ What.Fixed w.Capacities → Sound (capacities_or_head v first l (line v u)) (λ mid rest x. SpellsBehindInt first l (v.item u ∷ items v mid) (items v rest) x)
  unfolding capacities_or_head same_word
  capacities_or_head_sound first l u d =
      commit_sound (λ b. go b (is v s.LeftBracket b) refl)
      (token_sound (λ b q. bind_sound (int_head_sound l u b (spelling w.Capacities) (rw d refl) q) (λ h. pure_sound (λ rest ts y. y))))
    where
      word : is_fixed v w.Capacities u ≡ true
      word = rw d refl

      go : (b : Token) (x : Bool) → is v s.LeftBracket b ≡ x → SoundMove (λ mid rest x. SpellsBehindInt first l (v.item u ∷ v.item b ∷ items v mid) (items v rest) x) (cond x (when first (by_capacities (capacities v (line v u)))) Stop)
      go b true q = when_sound first (λ f. bind_sound (capacities_sound l u b word q) (λ c. pure_sound (λ rest ts y. (f, y))))
      go b false q = stop_sound

  other_sound : (holds : ℕ → Bool) (first : Bool) (l : ℕ) (u : Token) (a : What) → seen v u ≡ a → ((n : List ℕ) → name_of a ≡ Some n → (cell_name a ≡ Some n) × (function_name a ≡ Some n))
      → SoundMove (λ mid rest x. SpellsBehindInt first l (v.item u ∷ items v mid) (items v rest) x) (go_named (function_or_cells v holds l (line v u)) (name_of a))
  other_sound holds first l u a d same = named_sound (name_of a) (λ n e. let c = same n e in head_or_cells_sound holds first l u n (rw d c.0) (λ b q. int_head_sound l u b n (rw d c.1) q))

  -- what stands behind `int`
  pub behind_int_sound : (holds : ℕ → Bool) (first : Bool) (l : ℕ) → Sound (behind_int v holds first l) (λ ts rest x. SpellsBehindInt first l (items v ts) (items v rest) x)
  unfolding behind_int
  behind_int_sound holds first l = commit_sound (λ u. go u (seen v u) refl) refuse_sound
    where
      go : (u : Token) (a : What) → seen v u ≡ a → SoundMove (λ mid rest x. SpellsBehindInt first l (v.item u ∷ items v mid) (items v rest) x) (behind_int_by v holds first l (line v u) a)
      go u (What.Fixed w.Main) d = go_sound (head_or_cells_sound holds first l u (spelling w.Main) (rw d refl) (λ b q. main_head_sound l u b d q))
      go u (What.Fixed w.Capacities) d = go_sound (capacities_or_head_sound first l u d)
      go u a d = other_sound holds first l u a d (λ n e. (e, e))
