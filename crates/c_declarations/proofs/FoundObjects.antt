-- The mutexes and conditions that are spelled are read.
use Rattle.std.proofs.Common.{◌≡◌, ℕ, suc, true, false, List, [], ◌∷◌, ◌++◌, length, map, Some, None, refl, sym, subst, length-append, arith}
use Rattle.c_lexer.specs.declared.token.Sign.TheVariants as s
use Rattle.c_tree.specs.declared.program.Object.{Object}
use Rattle.c_grammar.specs.declared.words.FixedWord.TheVariants as w
use Rattle.c_grammar.specs.Items.{What, Item, at, sign, fixed, name_of}
use Rattle.c_grammar.specs.Commas.{Commas, one, more as next}
use Rattle.c_grammar.specs.Declarations as g
use Rattle.c_grammar.specs.Declarations.{SpellsInitial, SpellsObject}
use Rattle.parse_laws.specs.Parser.{Parser, ◌>>=◌, pure, refuse, Stop}
use Rattle.parse_laws.proofs.Finds.{Halts, parted, pure_finds, commit_finds, none_finds, must_finds, bind_finds, bind_reaches}
use Rattle.c_expressions.specs.Words.{same_sign}
use Rattle.c_expressions.specs.Honest.{Honest}
use Rattle.c_expressions.specs.Ends.{at_head}
use Rattle.c_expressions.specs.Parsers.{Sight, what_at, named}
use Rattle.c_expressions.proofs.Found.{F, is_at}
use Rattle.c_declarations.specs.declared.tree.Sort.{Sort}
use Rattle.c_declarations.specs.declared.tree.Sort.TheVariants as sort
use Rattle.c_declarations.specs.Parsers.{line, length_behind, more, commas, braced, is_ready, is_initial, initial, counted, initials, object_of, ready_by, objects_end, objects_behind, ready_object, object_by, object_behind, object, objects}
use Rattle.c_declarations.specs.Shown.{sort_of}
use Rattle.c_declarations.proofs.Shorter.{less_initial, less_object}
use Rattle.c_declarations.proofs.FoundLists.{is_fixed_at, ended_finds, NoComma, more_finds, commas_reach}
use Rattle.c_declarations.proofs.Found.{separates, no_sign, length_finds, braced_finds, list_finds}

one_more : (all : List (Unit {0})) (x : Unit {0}) → length (all ++ x ∷ []) ≡ suc (length all)
one_more all x = let p = length-append all (x ∷ []) in omega (arith, p)

-- the first token of initialisers
initials_front : {o : g.Sort} {before after : List Item} {all : List (Unit {0})} → Commas (SpellsInitial o) before after all → (l : ℕ) × (mid : List Item) × (before ≡ fixed l (g.initial_word o) ∷ mid)
initials_front (one {rest = rest} (g.initial {l = l})) = (l, rest, refl)
initials_front (next d i) = initials_front d

module _ {Token : Type 0} (v : Sight Token) (honest : Honest v) (o : Sort) where
  initial_at : (l : ℕ) (u : Token) → v.item u ≡ fixed l (g.initial_word (sort_of o)) → is_initial v o u ≡ true
  initial_at = go o
    where
      go : (o : Sort) (l : ℕ) (u : Token) → v.item u ≡ fixed l (g.initial_word (sort_of o)) → is_initial v o u ≡ true
      go sort.Mutex l u e = is_fixed_at v w.MutexInitializer l u e
      go sort.Condition l u e = is_fixed_at v w.ConditionInitializer l u e

  -- a token that is such a word has no definition
  ready_of : (l : ℕ) (u : Token) → v.item u ≡ fixed l (g.initial_word (sort_of o)) → is_ready v o ≡ true
  ready_of = go o
    where
      go : (o : Sort) (l : ℕ) (u : Token) → v.item u ≡ fixed l (g.initial_word (sort_of o)) → is_ready v o ≡ true
      go sort.Mutex l u e = honest.ready_mutexes u (rw e refl)
      go sort.Condition l u e = honest.ready_conditions u (rw e refl)

  second_ready : (t : Item) (l : ℕ) (later : List Item) (ts : List Token) → map v.item ts ≡ t ∷ fixed l (g.initial_word (sort_of o)) ∷ later → is_ready v o ≡ true
  second_ready t l later ts e = let x = parted v.item ts t (fixed l (g.initial_word (sort_of o)) ∷ later) e in let y = parted v.item x.1 (fixed l (g.initial_word (sort_of o))) later x.4 in ready_of l y.0 y.3

  third_ready : (t1 t2 : Item) (l : ℕ) (later : List Item) (ts : List Token) → map v.item ts ≡ t1 ∷ t2 ∷ fixed l (g.initial_word (sort_of o)) ∷ later → is_ready v o ≡ true
  third_ready t1 t2 l later ts e = let x = parted v.item ts t1 (t2 ∷ fixed l (g.initial_word (sort_of o)) ∷ later) e in second_ready t2 l later x.1 x.4

  initial_finds : (before after : List Item) (x : Unit {0}) → SpellsInitial (sort_of o) before after x → at_head separates after → F v (initial v o) before after 1
  unfolding initial
  initial_finds _ after _ (g.initial {l = l}) c = must_finds v.item (is_initial v o) (pure 1) (fixed l (g.initial_word (sort_of o))) after after 1 (λ u e. initial_at l u e) (pure_finds v.item after 1)

  initials_finds : {before after : List Item} {all : List (Unit {0})} → Commas (SpellsInitial (sort_of o)) before after all → at_head separates after → NoComma v after → F v (initials v o) before after (length all)
  unfolding initials
  initials_finds {before} {after} {all} d c n =
      more_finds v (less_initial v o) counted (initials v o) before after (length all)
      (commas_reach v (less_initial v o) counted (λ x. 1) (SpellsInitial (sort_of o)) separates refl initial_finds length one_more (initials v o) before before
      (λ after x i e. bind_reaches v.item (initial v o) (λ k. more v (initial v o) counted k) before after 1 (initial_finds before after x i e)) d c) n

  module _ (l : ℕ) (n : List ℕ) where
    no_ready : (p : Parser Token Object) (t : Item) (u : Token) → separates (what_at t) ≡ true → v.item u ≡ t → ready_by v o p u ≡ Stop
    no_ready p t u c e = rw (no_sign v s.Assign refl t u c e) refl

    end_stops : (len : ℕ) (after : List Item) → at_head separates after → Halts v.item (ready_by v o (braced v (initials v o) >>= λ given. pure (object_of l n (Some len) true given))) after
    end_stops len [] c = tt
    end_stops len (t ∷ after) c = λ u e. no_ready _ t u c e

    end_finds : (len : ℕ) (after : List Item) → at_head separates after → F v (objects_end v o l n len) after after (object_of l n (Some len) false 0)
    unfolding objects_end
    end_finds len after c = none_finds v.item (ready_by v o (braced v (initials v o) >>= λ given. pure (object_of l n (Some len) true given))) after (object_of l n (Some len) false 0) (end_stops len after c)

    ready_end_finds : (len i j m : ℕ) (before after : List Item) (all : List (Unit {0})) → Commas (SpellsInitial (sort_of o)) before (sign m s.RightBrace ∷ after) all
        → F v (objects_end v o l n len) (sign i s.Assign ∷ sign j s.LeftBrace ∷ before) after (object_of l n (Some len) true (length all))
    unfolding objects_end same_sign
    ready_end_finds len i j m before after all d = λ ts e.
        let y = initials_front d in
        let r = third_ready (sign i s.Assign) (sign j s.LeftBrace) y.0 y.1 ts (subst (λ (w : List Item). map v.item ts ≡ sign i s.Assign ∷ sign j s.LeftBrace ∷ w) y.2 e) in
        commit_finds v.item (ready_by v o (braced v (initials v o) >>= λ given. pure (object_of l n (Some len) true given))) (pure (object_of l n (Some len) false 0)) (sign i s.Assign) (sign j s.LeftBrace ∷ before) after
        (object_of l n (Some len) true (length all))
        (λ u q. (
          braced v (initials v o) >>= λ given. pure (object_of l n (Some len) true given),
          rw (is_at v s.Assign i u q, r) refl,
          bind_finds v.item (braced v (initials v o)) (λ given. pure (object_of l n (Some len) true given)) (sign j s.LeftBrace ∷ before) after after (length all) (object_of l n (Some len) true (length all))
              (braced_finds v (initials v o) j m before after (length all) (initials_finds d refl refl)) (pure_finds v.item after (object_of l n (Some len) true (length all))),
        )) ts e

    object_stops : (after : List Item) → at_head separates after → Halts v.item (object_by v o l n) after
    object_stops [] c = tt
    object_stops (t ∷ after) c = λ u e. rw (no_sign v s.LeftBracket refl t u c e, no_sign v s.Assign refl t u c e) refl

    several_goes : (b i j len : ℕ) (before after : List Item) (x : Object) → F v (objects_end v o l n len) before after x
        → F v (object_behind v o l n) (sign b s.LeftBracket ∷ at i (What.Number len) ∷ sign j s.RightBracket ∷ before) after x
    unfolding object_behind objects_behind
    several_goes b i j len before after x y =
        commit_finds v.item (object_by v o l n) (pure (object_of l n None false 0)) (sign b s.LeftBracket) (at i (What.Number len) ∷ sign j s.RightBracket ∷ before) after x
        (λ u e. (
          objects_behind v o l n,
          rw (is_at v s.LeftBracket b u e) refl,
          bind_finds v.item (length_behind v) (λ len. objects_end v o l n len) (at i (What.Number len) ∷ sign j s.RightBracket ∷ before) before after len x (length_finds v i j len before) y,
        ))

    ready_goes : (m i : ℕ) (after : List Item) → F v (object_behind v o l n) (sign m s.Assign ∷ fixed i (g.initial_word (sort_of o)) ∷ after) after (object_of l n None true 1)
    unfolding object_behind ready_object initial same_sign
    ready_goes m i after = λ ts e.
        let r = second_ready (sign m s.Assign) i after ts e in
        commit_finds v.item (object_by v o l n) (pure (object_of l n None false 0)) (sign m s.Assign) (fixed i (g.initial_word (sort_of o)) ∷ after) after (object_of l n None true 1)
        (λ u q. (
          ready_object v o l n,
          rw (q, r) refl,
          bind_finds v.item (initial v o) (λ given. pure (object_of l n None true given)) (fixed i (g.initial_word (sort_of o)) ∷ after) after after 1 (object_of l n None true 1)
              (must_finds v.item (is_initial v o) (pure 1) (fixed i (g.initial_word (sort_of o))) after after 1 (λ u e. initial_at i u e) (pure_finds v.item after 1)) (pure_finds v.item after (object_of l n None true 1)),
        )) ts e

  object_behind_finds : {l : ℕ} {a : What} {n : List ℕ} (before after : List Item) (x : Object) → SpellsObject (sort_of o) (at l a ∷ before) after x → name_of a ≡ Some n → at_head separates after → F v (object_behind v o l n) before after x
  unfolding object_behind
  object_behind_finds {l} {a} {n} before after _ (g.single {n = m} d) q c =
      let same : n ≡ m = cc in subst (λ (y : List ℕ). F v (object_behind v o l n) after after (object_of l y None false 0)) same (none_finds v.item (object_by v o l n) after (object_of l n None false 0) (object_stops l n after c))
  object_behind_finds {l} {a} {n} before after _ (g.single_ready {m = b} {i = i} {n = m} d) q c =
      let same : n ≡ m = cc in subst (λ (y : List ℕ). F v (object_behind v o l n) (sign b s.Assign ∷ fixed i (g.initial_word (sort_of o)) ∷ after) after (object_of l y None true 1)) same (ready_goes l n b i after)
  object_behind_finds {l} {a} {n} before after _ (g.several {m = b} {i = i} {j = j} {len = len} {n = m} d) q c =
      let same : n ≡ m = cc in
      subst (λ (y : List ℕ). F v (object_behind v o l n) (sign b s.LeftBracket ∷ at i (What.Number len) ∷ sign j s.RightBracket ∷ after) after (object_of l y (Some len) false 0)) same
      (several_goes l n b i j len after after (object_of l n (Some len) false 0) (end_finds l n len after c))
  object_behind_finds {l} {a} {n} before after _ (g.several_ready {m = b} {i = i} {j = j} {g = h} {h = k} {d = f} {len = len} {n = m} {ts = ts} {all = all} d x) q c =
      let same : n ≡ m = cc in
      subst (λ (y : List ℕ). F v (object_behind v o l n) (sign b s.LeftBracket ∷ at i (What.Number len) ∷ sign j s.RightBracket ∷ sign h s.Assign ∷ sign k s.LeftBrace ∷ ts) after (object_of l y (Some len) true (length all))) same
      (several_goes l n b i j len (sign h s.Assign ∷ sign k s.LeftBrace ∷ ts) after (object_of l n (Some len) true (length all)) (ready_end_finds l n len h k f ts after all x))

  object_front : (before after : List Item) (x : Object) → SpellsObject (sort_of o) before after x → (l : ℕ) × (a : What) × (n : List ℕ) × (ts : List Item) × (before ≡ at l a ∷ ts) × (name_of a ≡ Some n)
  object_front _ after _ (g.single {l = l} {a = a} {n = n} d) = (l, a, n, after, refl, d)
  object_front _ after _ (g.single_ready {l = l} {m = m} {i = i} {a = a} {n = n} d) = (l, a, n, sign m s.Assign ∷ fixed i (g.initial_word (sort_of o)) ∷ after, refl, d)
  object_front _ after _ (g.several {l = l} {m = m} {i = i} {j = j} {len = len} {a = a} {n = n} d) = (l, a, n, sign m s.LeftBracket ∷ at i (What.Number len) ∷ sign j s.RightBracket ∷ after, refl, d)
  object_front _ after _ (g.several_ready {l = l} {m = m} {i = i} {j = j} {g = h} {h = k} {len = len} {a = a} {n = n} {ts = ts} d x) =
      (l, a, n, sign m s.LeftBracket ∷ at i (What.Number len) ∷ sign j s.RightBracket ∷ sign h s.Assign ∷ sign k s.LeftBrace ∷ ts, refl, d)

  object_finds : (before after : List Item) (x : Object) → SpellsObject (sort_of o) before after x → at_head separates after → F v (object v o) before after x
  unfolding object
  object_finds before after x i c = let y = object_front before after x i in go y.0 y.1 y.2 y.3 y.4 y.5
    where
      go : (l : ℕ) (a : What) (n : List ℕ) (ts : List Item) → before ≡ at l a ∷ ts → name_of a ≡ Some n → F v (object v o) before after x
      go l a n ts p d =
          subst (λ (w : List Item). F v (object v o) w after x) (sym p)
          (commit_finds v.item (λ u. named v (object_behind v o (line v u)) u) refuse (at l a) ts after x
          (λ u e. (object_behind v o l n, rw (e, d) refl, object_behind_finds ts after x (subst (λ (w : List Item). SpellsObject (sort_of o) w after x) p i) d c)))

  -- behind the word of their type
  pub objects_finds : {m : ℕ} (before after : List Item) (all : List Object) → Commas (SpellsObject (sort_of o)) before (sign m s.Semicolon ∷ after) all → F v (objects v o) before after all
  unfolding objects same_sign
  objects_finds {m} before after all d =
      ended_finds v (commas v (object v o)) s.Semicolon m before after all (list_finds v (less_object v o) (SpellsObject (sort_of o)) object_finds d refl refl)
