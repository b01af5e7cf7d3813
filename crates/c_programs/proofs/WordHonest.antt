-- A word of the lexer that is seen as one of the grammar has no definition.
use Rattle.std.proofs.Common.{◌≡◌, ℕ, Bool, true, false, ◌||◌, cond, List, [], ◌∷◌, bytes_eq, Option, Some, None, is_none, refl, ap, subst, ◌∙◌, inl, inr, ◌⊎◌}
use Rattle.std.proofs.lemmas.Slice.Eq.{bytes_eq-Decides}
use Rattle.std.specs.List.{list_any}
use Rattle.c_lexer.specs.Pieces.{Kind}
use Rattle.c_lexer.specs.Tokens.{Word}
use Rattle.c_grammar.specs.declared.words.FixedWord.{FixedWord}
use Rattle.c_grammar.specs.declared.words.FixedWord.TheVariants as w
use Rattle.c_grammar.specs.Items.{What, fixed_keywords, fixed_names, other_keywords, is_spelled, word_or, spelling, undefined_name, Defined, definition_of, named, first_or_repeated, what_is}
use Rattle.c_expressions.specs.Words.{inner}
use Rattle.c_expressions.specs.Parsers.{seen, is_cast_inner}
use Rattle.c_expressions.specs.Honest.{Honest, declares}
use Rattle.c_programs.specs.Lexed.{free, word_sight}

word_or_is : (ws : List FixedWord) (other : What) (name : List ℕ) (x : FixedWord) → word_or ws other name ≡ What.Fixed x → (other ≡ What.Fixed x) ⊎ (is_spelled name x ≡ true)
word_or_is [] other name x e = inl e
word_or_is (y ∷ ws) other name x e = go (is_spelled name y) refl e (λ d. word_or_is ws other name x d)
  where
    same : What.Fixed y ≡ What.Fixed x → y ≡ x
    same e = cc

    go : (b : Bool) → is_spelled name y ≡ b → cond b (What.Fixed y) (word_or ws other name) ≡ What.Fixed x → (word_or ws other name ≡ What.Fixed x → (other ≡ What.Fixed x) ⊎ (is_spelled name x ≡ true)) → (other ≡ What.Fixed x) ⊎ (is_spelled name x ≡ true)
    go true d e h = inr (subst (λ (z : FixedWord). is_spelled name z ≡ true) (same e) d)
    go false d e h = h e

pub spelled_so : (name : List ℕ) (x : FixedWord) → undefined_name name ≡ What.Fixed x → is_spelled name x ≡ true
spelled_so name x e = go (list_any (bytes_eq name) other_keywords) e
  where
    last : (What.Name name ≡ What.Fixed x) ⊎ (is_spelled name x ≡ true) → is_spelled name x ≡ true
    last (inl e) = absurd cc
    last (inr e) = e

    next : (word_or fixed_names (What.Name name) name ≡ What.Fixed x) ⊎ (is_spelled name x ≡ true) → is_spelled name x ≡ true
    next (inl e) = last (word_or_is fixed_names (What.Name name) name x e)
    next (inr e) = e

    go : (b : Bool) → cond b What.Keyword (word_or fixed_keywords (word_or fixed_names (What.Name name) name) name) ≡ What.Fixed x → is_spelled name x ≡ true
    go true e = absurd cc
    go false e = next (word_or_is fixed_keywords (word_or fixed_names (What.Name name) name) name x e)

free_by : (defined : List Defined) (x : FixedWord) (name : List ℕ) (o : Option Defined) → definition_of defined name ≡ o → named name o ≡ What.Fixed x → free defined x ≡ true
free_by defined x name (Some d) q e = absurd cc
free_by defined x name None q e = let same = (bytes_eq-Decides (spelling x) name).0 (spelled_so name x e) in ap (λ (n : List ℕ). is_none (definition_of defined n)) same ∙ ap (λ (o : Option Defined). is_none o) q

free_of : (defined : List Defined) (x : FixedWord) (k : Kind) (bytes : List ℕ) → what_is defined k bytes ≡ What.Fixed x → free defined x ≡ true
free_of defined x Kind.name bytes e = free_by defined x bytes (definition_of defined bytes) refl e
free_of defined x (Kind.define name value) bytes e = absurd (none (definition_of defined name) e)
  where
    none : (o : Option Defined) → first_or_repeated o ≡ What.Fixed x → ⊥
    none None e = cc
    none (Some d) e = cc
free_of defined x _ bytes e = absurd cc

either_word : (a : What) → is_cast_inner (inner a) ≡ true → (a ≡ What.Fixed w.Long) ⊎ (a ≡ What.Fixed w.IntPointer)
either_word (What.Fixed w.Long) e = inl refl
either_word (What.Fixed w.IntPointer) e = inr refl
either_word _ e = absurd cc

or_left : (b c : Bool) → b ≡ true → b || c ≡ true
or_left b c e = rw e refl

or_right : (b c : Bool) → c ≡ true → b || c ≡ true
or_right true c e = refl
or_right false c e = e

pub word_honest : (defined : List Defined) → Honest (word_sight defined)
word_honest defined = record {
  casts = λ u e. casts_of u (either_word (seen (word_sight defined) u) e);
  void = λ u e. free_of defined w.Void u.kind u.bytes e;
  null = λ u e. free_of defined w.Null u.kind u.bytes e;
  ready_mutexes = λ u e. free_of defined w.MutexInitializer u.kind u.bytes e;
  ready_conditions = λ u e. free_of defined w.ConditionInitializer u.kind u.bytes e;
  threads = λ u e. free_of defined w.Thread u.kind u.bytes e;
  declarations = λ u x d e. declared x d (free_of defined x u.kind u.bytes e);
}
  where
    f : FixedWord → Bool
    f x = free defined x

    casts_of : (u : Word) → (seen (word_sight defined) u ≡ What.Fixed w.Long) ⊎ (seen (word_sight defined) u ≡ What.Fixed w.IntPointer) → f w.Long || f w.IntPointer ≡ true
    casts_of u (inl e) = or_left (f w.Long) (f w.IntPointer) (free_of defined w.Long u.kind u.bytes e)
    casts_of u (inr e) = or_right (f w.Long) (f w.IntPointer) (free_of defined w.IntPointer u.kind u.bytes e)

    declared : (x : FixedWord) → declares x ≡ true → f x ≡ true → f w.Int || (f w.Void || (f w.Thread || (f w.Mutex || f w.Condition))) ≡ true
    declared w.Int d e = or_left (f w.Int) _ e
    declared w.Void d e = or_right (f w.Int) _ (or_left (f w.Void) _ e)
    declared w.Thread d e = or_right (f w.Int) _ (or_right (f w.Void) _ (or_left (f w.Thread) _ e))
    declared w.Mutex d e = or_right (f w.Int) _ (or_right (f w.Void) _ (or_right (f w.Thread) _ (or_left (f w.Mutex) (f w.Condition) e)))
    declared w.Condition d e = or_right (f w.Int) _ (or_right (f w.Void) _ (or_right (f w.Thread) _ (or_right (f w.Mutex) (f w.Condition) e)))
    declared _ d e = absurd cc
