-- Names that are free for functions: they can be declared, called and started.
use Rattle.std.proofs.Common.{◌≡◌, ◌≢◌, ℕ, Bool, true, false, List, [], ◌∷◌, Option, Some, None, ◌⊎◌, inl, inr, refl, sym, subst, ap, ◌∙◌}
use Rattle.std.specs.Prelude.{⊤, bytes_eq, is_some, not, ◌&&◌, ◌||◌, if◌then◌else◌}
use Rattle.std.specs.List.{list_any}
use Rattle.std.proofs.lemmas.Slice.Eq.{bytes_eq-Decides}
use Rattle.c_tree.specs.declared.program.Mode.TheVariants as mode
use Rattle.c_tree.specs.Numbering.{main_name}
use Rattle.c_grammar.specs.declared.words.FixedWord.{FixedWord}
use Rattle.c_grammar.specs.Items.{What, spelling, fixed_keywords, fixed_names, other_keywords, is_spelled, word_or, undefined_name, name_of, callee, function_name}
use Rattle.c_rules.specs.Names.{is_kept, original, is_reserved, is_function_name}
use Rattle.c_canonical.specs.Shaped.{Usable, Callable}
use Rattle.c_canonical.specs.ShapedPrograms.{UsableFunction}

-- ---- words of the grammar

-- none of these words is spelled so
abbrev pub NoneSpelled : List FixedWord → List ℕ → Type 0
NoneSpelled [] n = ⊤
NoneSpelled (w ∷ ws) n = (is_spelled n w ≡ false) × NoneSpelled ws n

-- a name that isn't kept, and is no keyword of C
pub record IsFree (n : List ℕ) : Type 0 where
  pub kept : is_kept n ≡ false
  pub other : list_any (bytes_eq n) other_keywords ≡ false
  pub fixed : NoneSpelled fixed_keywords n

spelled_is : (n : List ℕ) (w : FixedWord) → is_spelled n w ≡ true → spelling w ≡ n
spelled_is n w e = (bytes_eq-Decides (spelling w) n).0 e

pass_word : (w : FixedWord) (ws : List FixedWord) (other : What) (n : List ℕ) → is_spelled n w ≡ false → word_or (w ∷ ws) other n ≡ word_or ws other n
pass_word w ws other n e = ap (λ b. if b then What.Fixed w else word_or ws other n) e

meet_word : (w : FixedWord) (ws : List FixedWord) (other : What) (n : List ℕ) → is_spelled n w ≡ true → word_or (w ∷ ws) other n ≡ What.Fixed w
meet_word w ws other n e = ap (λ b. if b then What.Fixed w else word_or ws other n) e

pass_words : (ws : List FixedWord) (other : What) (n : List ℕ) → NoneSpelled ws n → word_or ws other n ≡ other
pass_words [] other n f = refl
pass_words (w ∷ ws) other n f = pass_word w ws other n f.0 ∙ pass_words ws other n f.1

-- ---- what a free name is found as

-- each word is kept, or excluded, or found as itself
abbrev EachFound : (What → Option (List ℕ)) → (List ℕ → Type 0) → List FixedWord → Type 0
EachFound f Excluded [] = ⊤
EachFound f Excluded (w ∷ ws) = ((is_kept (spelling w) ≡ true) ⊎ (Excluded (spelling w) ⊎ (f (What.Fixed w) ≡ Some (spelling w)))) × EachFound f Excluded ws

found_in : (f : What → Option (List ℕ)) (Excluded : List ℕ → Type 0) (n : List ℕ) → is_kept n ≡ false → (Excluded n → ⊥) → (other : What) → f other ≡ Some n
    → (ws : List FixedWord) → EachFound f Excluded ws → f (word_or ws other n) ≡ Some n
found_in f Excluded n k x other o [] each = o
found_in f Excluded n k x other o (w ∷ ws) each = by (is_spelled n w) refl (found_in f Excluded n k x other o ws each.1)
  where
    by : (b : Bool) → is_spelled n w ≡ b → f (word_or ws other n) ≡ Some n → f (word_or (w ∷ ws) other n) ≡ Some n
    by false e rest = ap f (pass_word w ws other n e) ∙ rest
    by true e rest = elim each.0 [
      | inl kept ↦ absurd (cc (kept, k, ap is_kept (spelled_is n w e)))
      | inr more ↦ elim more [
        | inl out ↦ absurd (x (subst Excluded (spelled_is n w e) out))
        | inr found ↦ ap f (meet_word w ws other n e) ∙ found ∙ ap Some (spelled_is n w e)
      ]
    ]

behind_keywords : (n : List ℕ) → IsFree n → undefined_name n ≡ word_or fixed_names (What.Name n) n
behind_keywords n free =
    ap (λ b. if b then What.Keyword else word_or fixed_keywords (word_or fixed_names (What.Name n) n) n) free.other
    ∙ pass_words fixed_keywords (word_or fixed_names (What.Name n) n) n free.fixed

pub free_usable : (n : List ℕ) → IsFree n → Usable n
free_usable n free = ap name_of (behind_keywords n free) ∙ found_in name_of (λ m. ⊥) n free.kept (λ x. x) (What.Name n) refl fixed_names
    (inr (inr refl), (inr (inr refl), (inr (inr refl), (inr (inr refl), (inl refl, (inl refl, (inl refl, (inl refl, (inl refl, (inl refl, (inl refl, (inl refl, (inl refl, (inl refl, (inl refl, (inl refl, (inl refl, (inl refl, (inl refl, (inl refl, (inl refl, (inl refl, (inl refl, (inl refl, (inl refl, (inl refl, (inl refl, tt)))))))))))))))))))))))))))

pub free_callable : (n : List ℕ) → IsFree n → Callable n
free_callable n free = ap callee (behind_keywords n free) ∙ found_in callee (λ m. ⊥) n free.kept (λ x. x) (What.Name n) refl fixed_names
    (inr (inr refl), (inr (inr refl), (inr (inr refl), (inr (inr refl), (inl refl, (inl refl, (inl refl, (inl refl, (inl refl, (inl refl, (inl refl, (inl refl, (inl refl, (inl refl, (inl refl, (inl refl, (inl refl, (inl refl, (inl refl, (inl refl, (inl refl, (inl refl, (inl refl, (inl refl, (inl refl, (inl refl, (inl refl, tt)))))))))))))))))))))))))))

pub free_declared : (n : List ℕ) → IsFree n → n ≢ main_name → UsableFunction n
free_declared n free other = ap function_name (behind_keywords n free) ∙ found_in function_name (λ m. m ≡ main_name) n free.kept other (What.Name n) refl fixed_names
    (inr (inl refl), (inr (inr refl), (inr (inr refl), (inr (inr refl), (inl refl, (inl refl, (inl refl, (inl refl, (inl refl, (inl refl, (inl refl, (inl refl, (inl refl, (inl refl, (inl refl, (inl refl, (inl refl, (inl refl, (inl refl, (inl refl, (inl refl, (inl refl, (inl refl, (inl refl, (inl refl, (inl refl, (inl refl, tt)))))))))))))))))))))))))))

-- ---- which names are free

-- each of these words is found as nothing
abbrev EachNothing : (What → Option (List ℕ)) → List FixedWord → Type 0
EachNothing f [] = ⊤
EachNothing f (w ∷ ws) = (f (What.Fixed w) ≡ None) × EachNothing f ws

none_spelled : (f : What → Option (List ℕ)) (n : List ℕ) (other : What) (ws : List FixedWord) → EachNothing f ws → f (word_or ws other n) ≡ Some n → NoneSpelled ws n
none_spelled f n other [] each found = tt
none_spelled f n other (w ∷ ws) each found = by (is_spelled n w) refl (none_spelled f n other ws each.1)
  where
    by : (b : Bool) → is_spelled n w ≡ b → (f (word_or ws other n) ≡ Some n → NoneSpelled ws n) → NoneSpelled (w ∷ ws) n
    by false e rest = (e, rest (sym (ap f (pass_word w ws other n e)) ∙ found))
    by true e rest = absurd (cc (each.0, ap f (meet_word w ws other n e), found))

-- a function that the grammar has a name for
pub declared_free : (n : List ℕ) → is_kept n ≡ false → UsableFunction n → IsFree n
declared_free n kept usable = by (list_any (bytes_eq n) other_keywords) refl
  where
    by : (b : Bool) → list_any (bytes_eq n) other_keywords ≡ b → IsFree n
    by true e = absurd (cc (ap (λ c. function_name (if c then What.Keyword else (word_or fixed_keywords (word_or fixed_names (What.Name n) n) n))) e, usable))
    by false e = record {
      kept = kept;
      other = e;
      fixed = none_spelled function_name n (word_or fixed_names (What.Name n) n) fixed_keywords (refl, (refl, (refl, (refl, (refl, (refl, (refl, (refl, (refl, tt)))))))))
          (sym (ap (λ c. function_name (if c then What.Keyword else (word_or fixed_keywords (word_or fixed_names (What.Name n) n) n))) e) ∙ usable);
    }

pub main_free : IsFree main_name
main_free = record { kept = refl; other = refl; fixed = (refl, (refl, (refl, (refl, (refl, (refl, (refl, (refl, (refl, tt))))))))) }

-- each of these names ends otherwise than that of a copy
abbrev EachWhole : List (List ℕ) → Type 0
EachWhole [] = ⊤
EachWhole (w ∷ ws) = (original w ≡ None) × EachWhole ws

none_among : (n : List ℕ) → is_some (original n) ≡ true → (ws : List (List ℕ)) → EachWhole ws → list_any (bytes_eq n) ws ≡ false
none_among n ends [] each = refl
none_among n ends (w ∷ ws) each = ap (λ b. b || list_any (bytes_eq n) ws) (by (bytes_eq n w) refl) ∙ none_among n ends ws each.1
  where
    by : (b : Bool) → bytes_eq n w ≡ b → bytes_eq n w ≡ false
    by false e = e
    by true e = absurd (cc (ends, ap (λ m. is_some (original m)) ((bytes_eq-Decides n w).0 e), ap is_some each.0))

abbrev EachWordWhole : List FixedWord → Type 0
EachWordWhole [] = ⊤
EachWordWhole (w ∷ ws) = (original (spelling w) ≡ None) × EachWordWhole ws

none_of_words : (n : List ℕ) → is_some (original n) ≡ true → (ws : List FixedWord) → EachWordWhole ws → NoneSpelled ws n
none_of_words n ends [] each = tt
none_of_words n ends (w ∷ ws) each = (by (is_spelled n w) refl, none_of_words n ends ws each.1)
  where
    by : (b : Bool) → is_spelled n w ≡ b → is_spelled n w ≡ false
    by false e = e
    by true e = absurd (cc (ends, ap (λ m. is_some (original m)) (spelled_is n w e), ap is_some each.0))

-- a name that ends as that of a copy
pub copy_free : (n : List ℕ) → is_kept n ≡ false → is_some (original n) ≡ true → IsFree n
copy_free n kept ends = record {
  kept = kept;
  other = none_among n ends other_keywords (refl, (refl, (refl, (refl, (refl, (refl, (refl, (refl, (refl, (refl, (refl, (refl, (refl, (refl, (refl, (refl, (refl, (refl, (refl, (refl, (refl, (refl, (refl, (refl, (refl, (refl, (refl, (refl, tt))))))))))))))))))))))))))));
  fixed = none_of_words n ends fixed_keywords (refl, (refl, (refl, (refl, (refl, (refl, (refl, (refl, (refl, tt)))))))));
}

-- ---- names for any program

pub allowed_not_kept : (n : List ℕ) → is_function_name mode.Any n ≡ true → is_kept n ≡ false
allowed_not_kept n e = go (is_kept n) _ e
  where
    go : (kept rest : Bool) → (not kept && rest) ≡ true → kept ≡ false
    go false rest e = refl
    go true rest e = absurd (cc e)

pub reserved_ends : (n : List ℕ) → is_kept n ≡ false → is_reserved n ≡ true → is_some (original n) ≡ true
reserved_ends n kept e = sym (ap (λ b. b || is_some (original n)) kept) ∙ e
