-- What is spelled outside functions, up to their bodies, is read.
use Rattle.std.proofs.Common.{◌≡◌, ℕ, ℤ, pos, neg_ℤ, Bool, true, false, List, [], ◌∷◌, Some, refl, sym, subst}
use Rattle.c_lexer.specs.declared.token.Sign.{Sign}
use Rattle.c_lexer.specs.declared.token.Sign.TheVariants as s
use Rattle.c_grammar.specs.Items.{What, Item, at, sign, name_of, cell_name}
use Rattle.c_grammar.specs.Commas.{Commas}
use Rattle.c_grammar.specs.Declarations as g
use Rattle.c_grammar.specs.Declarations.{SpellsValue, SpellsCell, SpellsInitial, SpellsObject, SpellsPrototype, SpellsParameter, SpellsParameters, SpellsVoid, SpellsHead}
use Rattle.parse_laws.specs.Parser.{Parser, ◌>>=◌, pure, refuse, when}
use Rattle.parse_laws.proofs.Sound.{Sound}
use Rattle.parse_laws.proofs.Finds.{Reaches, Halts, pure_finds, commit_finds, none_finds, bind_finds, bind_reaches}
use Rattle.c_expressions.specs.Words.{same_sign, is_sign}
use Rattle.c_expressions.specs.Ends.{at_head}
use Rattle.c_expressions.specs.Parsers.{Sight, what_at, seen, is, go_named, named}
use Rattle.c_expressions.proofs.Shorter.{Less}
use Rattle.c_expressions.proofs.Found.{F, is_at, sign_finds}
use Rattle.c_declarations.specs.declared.tree.Declared.{Declared}
use Rattle.c_declarations.specs.declared.tree.Ints.{Ints}
use Rattle.c_declarations.specs.Words.{number_of, if_held, held}
use Rattle.c_declarations.specs.Parsers.{line, go_with, name, number, length_behind, alone, grown, more, commas, braced, ended, negative, value_by, value, values, scalar, several, array_end, array_behind, scalar_behind, cell_by, cell_behind, cell, no_ints, with_declared, more_cells, cells_behind}
use Rattle.c_declarations.specs.Shown.{declared_of, ints_of}
use Rattle.c_declarations.proofs.Shorter.{less_value, less_cell}
use Rattle.c_declarations.proofs.Sounds.{ints_more}
use Rattle.c_declarations.proofs.FoundLists.{ended_finds, ended_behind, NoComma, more_finds, commas_reach}

-- `,`, `;`, `)` and `}`
abbrev pub separates : What → Bool
separates (What.Sign s.Comma) = true
separates (What.Sign s.Semicolon) = true
separates (What.Sign s.RightBrace) = true
separates (What.Sign s.RightParenthesis) = true
separates other = false

pub no_sign_separates : (x : Sign) → separates (What.Sign x) ≡ false → (a : What) → separates a ≡ true → is_sign x a ≡ false
unfolding same_sign
no_sign_separates x d (What.Sign s.Comma) e = differs x d
  where
    differs : (x : Sign) → separates (What.Sign x) ≡ false → is_sign x (What.Sign s.Comma) ≡ false
    differs s.Comma d = absurd cc
    differs _ d = refl
no_sign_separates x d (What.Sign s.Semicolon) e = differs x d
  where
    differs : (x : Sign) → separates (What.Sign x) ≡ false → is_sign x (What.Sign s.Semicolon) ≡ false
    differs s.Semicolon d = absurd cc
    differs _ d = refl
no_sign_separates x d (What.Sign s.RightBrace) e = differs x d
  where
    differs : (x : Sign) → separates (What.Sign x) ≡ false → is_sign x (What.Sign s.RightBrace) ≡ false
    differs s.RightBrace d = absurd cc
    differs _ d = refl
no_sign_separates x d (What.Sign s.RightParenthesis) e = differs x d
  where
    differs : (x : Sign) → separates (What.Sign x) ≡ false → is_sign x (What.Sign s.RightParenthesis) ≡ false
    differs s.RightParenthesis d = absurd cc
    differs _ d = refl
no_sign_separates x d _ e = absurd cc

-- what one begins with
pub cell_front : (before after : List Item) (x : g.Declared) → SpellsCell before after x → (l : ℕ) × (a : What) × (n : List ℕ) × (ts : List Item) × (before ≡ at l a ∷ ts) × (cell_name a ≡ Some n)
cell_front _ after _ (g.scalar {l = l} {a = a} {n = n} d) = (l, a, n, after, refl, d)
cell_front _ after _ (g.scalar_by {l = l} {m = m} {a = a} {n = n} {ts = ts} d i) = (l, a, n, sign m s.Assign ∷ ts, refl, d)
cell_front _ after _ (g.array {l = l} {m = m} {i = i} {j = j} {len = len} {a = a} {n = n} d) = (l, a, n, sign m s.LeftBracket ∷ at i (What.Number len) ∷ sign j s.RightBracket ∷ after, refl, d)
cell_front _ after _ (g.array_by {l = l} {m = m} {i = i} {j = j} {g = h} {h = k} {len = len} {a = a} {n = n} {ts = ts} d x) =
    (l, a, n, sign m s.LeftBracket ∷ at i (What.Number len) ∷ sign j s.RightBracket ∷ sign h s.Assign ∷ sign k s.LeftBrace ∷ ts, refl, d)

module _ {Token : Type 0} (v : Sight Token) where
  -- ---- single tokens

  pub name_finds : (l : ℕ) (a : What) (n : List ℕ) (after : List Item) → name_of a ≡ Some n → F v (name v) (at l a ∷ after) after n
  unfolding name
  name_finds l a n after d = commit_finds v.item (named v pure) refuse (at l a) after after n (λ u e. (pure n, rw (e, d) refl, pure_finds v.item after n))

  pub number_finds : (l k : ℕ) (after : List Item) → F v (number v) (at l (What.Number k) ∷ after) after k
  unfolding number
  number_finds l k after = commit_finds v.item (λ u. go_with pure (number_of (seen v u))) refuse (at l (What.Number k)) after after k (λ u e. (pure k, rw e refl, pure_finds v.item after k))

  pub length_finds : (l m k : ℕ) (after : List Item) → F v (length_behind v) (at l (What.Number k) ∷ sign m s.RightBracket ∷ after) after k
  unfolding length_behind
  length_finds l m k after = ended_finds v (number v) s.RightBracket m (at l (What.Number k) ∷ sign m s.RightBracket ∷ after) after k (number_finds l k (sign m s.RightBracket ∷ after))

  -- in braces
  pub braced_finds : {A : Type 0} (p : Parser Token A) (l m : ℕ) (before after : List Item) (a : A) → F v p before (sign m s.RightBrace ∷ after) a → F v (braced v p) (sign l s.LeftBrace ∷ before) after a
  braced_finds p l m before after a x = sign_finds v s.LeftBrace (ended v s.RightBrace p) l before after a (ended_finds v p s.RightBrace m before after a x)

  -- a sign that doesn't go on, where a part has ended
  pub no_sign : (x : Sign) → separates (What.Sign x) ≡ false → (t : Item) (u : Token) → separates (what_at t) ≡ true → v.item u ≡ t → is v x u ≡ false
  no_sign x d t u c e = rw e (no_sign_separates x d (what_at t) c)

  -- a list of items, up to a token that ends it
  pub list_finds : {A : Type 0} {item : Parser Token A} (less : Sound item Less) (R : List Item → List Item → A → Type 0) → ((before after : List Item) (x : A) → R before after x → at_head separates after → F v item before after x)
      → {before after : List Item} {all : List A} → Commas R before after all → at_head separates after → NoComma v after → F v (commas v item) before after all
  list_finds {A} {item} less R found {before} {after} {all} d c n =
      more_finds v less grown (commas v item) before after all
      (commas_reach v less grown (λ x. x) R separates refl found (λ all. all) (λ all x. refl) (commas v item) before before
      (λ after x i e. bind_reaches v.item item (λ x. more v item grown (alone x)) before after x (found before after x i e)) d c) n

  -- ---- values, where every number may be one

  module _ (holds : ℕ → Bool) (all_hold : (k : ℕ) → holds k ≡ true) where
    held_is : (k : ℕ) → if_held holds (Some k) ≡ Some k
    held_is k = rw (all_hold k) refl

    pub value_finds : (before after : List Item) (x : ℤ) → SpellsValue before after x → F v (value v holds) before after x
    unfolding value negative
    value_finds _ after _ (g.plain {l = l} {k = k}) =
        commit_finds v.item (value_by v holds) refuse (at l (What.Number k)) after after (pos k) (λ u e. (pure (pos k), rw (e, held_is k) refl, pure_finds v.item after (pos k)))
    value_finds _ after _ (g.negative {l = l} {m = m} {k = k}) =
        commit_finds v.item (value_by v holds) refuse (sign l s.Minus) (at m (What.Number k) ∷ after) after (neg_ℤ (pos k))
        (λ u e. (
          negative v holds,
          rw (is_at v s.Minus l u e) refl,
          commit_finds v.item (λ u. go_with (λ k. pure (neg_ℤ (pos k))) (held holds (seen v u))) refuse (at m (What.Number k)) after after (neg_ℤ (pos k)) (λ u e. (pure (neg_ℤ (pos k)), rw (e, held_is k) refl, pure_finds v.item after (neg_ℤ (pos k)))),
        ))

    values_finds : {before after : List Item} {all : List ℤ} → Commas SpellsValue before after all → at_head separates after → NoComma v after → F v (values v holds) before after all
    unfolding values
    values_finds d c n = list_finds (less_value v holds) SpellsValue (λ before after x i e. value_finds before after x i) d c n

    -- ---- ints

    module _ (l : ℕ) (n : List ℕ) where
      array_stops : (len : ℕ) (after : List Item) → at_head separates after → Halts v.item (λ u. when (is v s.Assign u) (braced v (values v holds) >>= λ all. pure (several l n len all))) after
      array_stops len [] c = tt
      array_stops len (t ∷ after) c = λ u e. rw (no_sign s.Assign refl t u c e) refl

      array_end_finds : (len : ℕ) (after : List Item) → at_head separates after → F v (array_end v holds l n len) after after (several l n len [])
      unfolding array_end
      array_end_finds len after c = none_finds v.item (λ u. when (is v s.Assign u) (braced v (values v holds) >>= λ all. pure (several l n len all))) after (several l n len []) (array_stops len after c)

      array_values_find : (len i j m : ℕ) (before after : List Item) (all : List ℤ) → Commas SpellsValue before (sign m s.RightBrace ∷ after) all
          → F v (array_end v holds l n len) (sign i s.Assign ∷ sign j s.LeftBrace ∷ before) after (several l n len all)
      unfolding array_end same_sign
      array_values_find len i j m before after all d =
          commit_finds v.item (λ u. when (is v s.Assign u) (braced v (values v holds) >>= λ all. pure (several l n len all))) (pure (several l n len [])) (sign i s.Assign) (sign j s.LeftBrace ∷ before) after (several l n len all)
          (λ u e. (
            braced v (values v holds) >>= λ all. pure (several l n len all),
            rw (is_at v s.Assign i u e) refl,
            bind_finds v.item (braced v (values v holds)) (λ all. pure (several l n len all)) (sign j s.LeftBrace ∷ before) after after all (several l n len all)
                (braced_finds (values v holds) j m before after all (values_finds d refl refl)) (pure_finds v.item after (several l n len all)),
          ))

      cell_stops : (after : List Item) → at_head separates after → Halts v.item (cell_by v holds l n) after
      cell_stops [] c = tt
      cell_stops (t ∷ after) c = λ u e. rw (no_sign s.Assign refl t u c e, no_sign s.LeftBracket refl t u c e) refl

      array_goes : (b i j len : ℕ) (before after : List Item) (x : Declared) → F v (array_end v holds l n len) before after x
          → F v (cell_behind v holds l n) (sign b s.LeftBracket ∷ at i (What.Number len) ∷ sign j s.RightBracket ∷ before) after x
      unfolding cell_behind array_behind same_sign
      array_goes b i j len before after x y =
          commit_finds v.item (cell_by v holds l n) (pure (scalar l n (pos 0))) (sign b s.LeftBracket) (at i (What.Number len) ∷ sign j s.RightBracket ∷ before) after x
          (λ u e. (
            array_behind v holds l n,
            rw e refl,
            bind_finds v.item (length_behind v) (λ len. array_end v holds l n len) (at i (What.Number len) ∷ sign j s.RightBracket ∷ before) before after len x (length_finds i j len before) y,
          ))

    -- behind its name
    cell_behind_finds : {l : ℕ} {a : What} {n : List ℕ} (before after : List Item) (x : g.Declared) → SpellsCell (at l a ∷ before) after x → cell_name a ≡ Some n → at_head separates after → F v (cell_behind v holds l n) before after (declared_of x)
    unfolding cell_behind scalar_behind
    cell_behind_finds {l} {a} {n} before after _ (g.scalar {n = m} d) q c =
        let same : n ≡ m = cc in
        subst (λ (x : List ℕ). F v (cell_behind v holds l n) after after (scalar l x (pos 0))) same (none_finds v.item (cell_by v holds l n) after (scalar l n (pos 0)) (cell_stops l n after c))
    cell_behind_finds {l} {a} {n} before after _ (g.scalar_by {m = b} {n = m} {ts = ts} {v = k} d i) q c =
        let same : n ≡ m = cc in
        subst (λ (x : List ℕ). F v (cell_behind v holds l n) (sign b s.Assign ∷ ts) after (scalar l x k)) same
        (commit_finds v.item (cell_by v holds l n) (pure (scalar l n (pos 0))) (sign b s.Assign) ts after (scalar l n k) (λ u e. (
          scalar_behind v holds l n,
          rw (is_at v s.Assign b u e) refl,
          bind_finds v.item (value v holds) (λ x. pure (scalar l n x)) ts after after k (scalar l n k) (value_finds ts after k i) (pure_finds v.item after (scalar l n k)),
        )))
    cell_behind_finds {l} {a} {n} before after _ (g.array {m = b} {i = i} {j = j} {len = len} {n = m} d) q c =
        let same : n ≡ m = cc in
        subst (λ (x : List ℕ). F v (cell_behind v holds l n) (sign b s.LeftBracket ∷ at i (What.Number len) ∷ sign j s.RightBracket ∷ after) after (several l x len [])) same
        (array_goes l n b i j len after after (several l n len []) (array_end_finds l n len after c))
    cell_behind_finds {l} {a} {n} before after _ (g.array_by {m = b} {i = i} {j = j} {g = h} {h = k} {d = f} {len = len} {n = m} {ts = ts} {all = all} d x) q c =
        let same : n ≡ m = cc in
        subst (λ (y : List ℕ). F v (cell_behind v holds l n) (sign b s.LeftBracket ∷ at i (What.Number len) ∷ sign j s.RightBracket ∷ sign h s.Assign ∷ sign k s.LeftBrace ∷ ts) after (several l y len all)) same
        (array_goes l n b i j len (sign h s.Assign ∷ sign k s.LeftBrace ∷ ts) after (several l n len all) (array_values_find l n len h k f ts after all x))

    cell_finds : (before after : List Item) (x : g.Declared) → SpellsCell before after x → at_head separates after → F v (cell v holds) before after (declared_of x)
    unfolding cell
    cell_finds before after x i c = let y = cell_front before after x i in go y.0 y.1 y.2 y.3 y.4 y.5
      where
        go : (l : ℕ) (a : What) (n : List ℕ) (ts : List Item) → before ≡ at l a ∷ ts → cell_name a ≡ Some n → F v (cell v holds) before after (declared_of x)
        go l a n ts p d =
            subst (λ (w : List Item). F v (cell v holds) w after (declared_of x)) (sym p)
            (commit_finds v.item (λ u. go_named (cell_behind v holds (line v u)) (cell_name (seen v u))) refuse (at l a) ts after (declared_of x)
            (λ u e. (cell_behind v holds l n, rw (e, d) refl, cell_behind_finds ts after x (subst (λ (w : List Item). SpellsCell w after x) p i) d c)))

    -- behind the first name of a list
    pub cells_behind_finds : {l m : ℕ} {a : What} {n : List ℕ} (before after : List Item) (all : List g.Declared) → Commas SpellsCell (at l a ∷ before) (sign m s.Semicolon ∷ after) all → cell_name a ≡ Some n
        → F v (cells_behind v holds l n) before after (ints_of all)
    unfolding cells_behind same_sign
    cells_behind_finds {l} {m} {a} {n} before after all d q =
        ended_behind v (cell_behind v holds l n) (λ x. more_cells v holds (with_declared no_ints x)) s.Semicolon m before after (ints_of all)
        (more_finds v (less_cell v holds) with_declared (cell_behind v holds l n >>= λ x. more_cells v holds (with_declared no_ints x)) before (sign m s.Semicolon ∷ after) (ints_of all)
        (commas_reach v (less_cell v holds) with_declared declared_of SpellsCell separates refl cell_finds ints_of ints_more (cell_behind v holds l n >>= λ x. more_cells v holds (with_declared no_ints x)) (at l a ∷ before) before
        (λ after x i c. subst (λ (w : Ints). Reaches v.item (cell_behind v holds l n >>= λ x. more_cells v holds (with_declared no_ints x)) (more_cells v holds w) before after) (sym (ints_more [] x))
        (bind_reaches v.item (cell_behind v holds l n) (λ x. more_cells v holds (with_declared no_ints x)) before after (declared_of x) (cell_behind_finds before after x i q c))) d refl) refl)
