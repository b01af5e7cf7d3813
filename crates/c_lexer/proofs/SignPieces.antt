-- Signs, and bytes that are refused.
use Rattle.std.proofs.Common.{◌≡◌, ◌≢◌, ℕ, ◌<◌, ◌≤◌, Bool, true, false, cond, List, [], ◌∷◌, ◌++◌, length, get_or, Some, None, refl, ◌∙◌, ap, subst, arith}
use Rattle.std.specs.Prelude.{◌==◌}
use Rattle.std.proofs.lemmas.Bool.Decides.{nat_tests}
use Rattle.c_lexer.specs.declared.token.Sign.{Sign}
use Rattle.c_lexer.specs.declared.token.Sign.TheVariants as s
use Rattle.c_lexer.specs.Classes.{is_letter, is_digit, is_blank}
use Rattle.c_lexer.specs.Pieces.{Kind, Piece}
use Rattle.c_lexer.specs.Signs.{single, double, triple, three_bytes, sign_of, one_byte}
use Rattle.c_lexer.specs.Lexeme.{Longest, lexeme, IsCut, BySigns, slash_of}

-- ---- three bytes

pub triple_longest : (first : Bool) (b c d : ℕ) (rest : List ℕ) (sign : Sign) → BySigns (b ∷ c ∷ d ∷ rest) → triple b c d ≡ Some sign
    → Longest first (b ∷ c ∷ d ∷ []) rest (Piece.token (Kind.sign sign))
triple_longest first b c d rest sign by t = record {
  is = rw (by.is first b (c ∷ d ∷ []) rest refl, t);
  longer = λ i more after e. by.is first b (c ∷ d ∷ i ∷ more) after (ap (λ x. b ∷ c ∷ d ∷ x) e);
}

-- ---- two bytes

-- No sign of three bytes begins with one of two.
no_triple : (b c d : ℕ) (sign : Sign) → double b c ≡ Some sign → triple b c d ≡ None
unfolding double triple
no_triple b c d sign h = by (b == 46) refl
  where
    by : (x : Bool) → (b == 46) ≡ x → cond x (cond (c == 46) (cond (d == 46) (Some s.Ellipsis) None) None) None ≡ None
    by false e = refl
    by true e =
        let is : b ≡ 46 = grind (arith, nat_tests) in
        absurd (dots (c == 61) (46 == c) (subst (λ x. double x c ≡ Some sign) is h))
      where
        dots : (x y : Bool) → cond x None (cond y None None) ≡ Some sign → ⊥
        dots true y f = absurd cc
        dots false true f = absurd cc
        dots false false f = absurd cc

pub double_longest : (first : Bool) (b c : ℕ) (rest : List ℕ) (sign : Sign) → BySigns (b ∷ c ∷ rest) → double b c ≡ Some sign
    → Longest first (b ∷ c ∷ []) rest (Piece.token (Kind.sign sign))
double_longest first b c rest sign by t = record {
  is = rw (by.is first b (c ∷ []) rest refl, t);
  longer = λ d more after e. by.is first b (c ∷ d ∷ more) after (ap (λ x. b ∷ c ∷ x) e) ∙ no_more d more;
}
  where
    no_more : (d : ℕ) (more : List ℕ) → sign_of b (c ∷ d ∷ more) ≡ None
    no_more d [] = rw (no_triple b c d sign t)
    no_more d (i ∷ more) = refl

-- ---- one byte

-- The bytes that follow make no longer sign.
abbrev pub Apart : ℕ → List ℕ → Type 0
Apart b [] = Unit {0}
Apart b (c ∷ rest) = (double b c ≡ None) × (three_bytes (b ∷ c ∷ rest) ≡ None)

no_sign : (b c : ℕ) (more after : List ℕ) → Apart b (c ∷ (more ++ after)) → sign_of b (c ∷ more) ≡ None
no_sign b c [] after h = rw h.0
no_sign b c (d ∷ []) after h = let t : triple b c d ≡ None = h.1 in rw t
no_sign b c (d ∷ i ∷ more) after h = refl

pub single_longest : (first : Bool) (b : ℕ) (rest : List ℕ) → BySigns (b ∷ rest) → Apart b rest → Longest first (b ∷ []) rest (one_byte (single b))
single_longest first b rest by apart = record {
  is = by.is first b [] rest refl;
  longer = λ c more after e. by.is first b (c ∷ more) after (ap (λ x. b ∷ x) e) ∙ no_sign b c more after (subst (Apart b) e apart);
}

-- ---- the same at the front of a text

pub triple_cut : (first : Bool) (text : List ℕ) (sign : Sign) → BySigns text → three_bytes text ≡ Some sign
    → IsCut first text (Piece.token (Kind.sign sign)) 3
triple_cut first [] sign by t = absurd cc
triple_cut first (b ∷ []) sign by t = absurd cc
triple_cut first (b ∷ c ∷ []) sign by t = absurd cc
triple_cut first (b ∷ c ∷ d ∷ text) sign by t = record { within = omega arith; longest = triple_longest first b c d text sign by t }

pub double_cut : (first : Bool) (text : List ℕ) (sign : Sign) → 1 < length text → BySigns text → double (get_or text 0 0) (get_or text 1 0) ≡ Some sign
    → IsCut first text (Piece.token (Kind.sign sign)) 2
double_cut first [] sign some by d = absurd (omega arith)
double_cut first (b ∷ []) sign some by d = absurd (omega arith)
double_cut first (b ∷ c ∷ text) sign some by d = record { within = omega arith; longest = double_longest first b c text sign by d }

pub single_cut : (first : Bool) (text : List ℕ) → 0 < length text → BySigns text → (1 < length text → double (get_or text 0 0) (get_or text 1 0) ≡ None)
    → three_bytes text ≡ None → IsCut first text (one_byte (single (get_or text 0 0))) 1
single_cut first [] some by d t = absurd (omega arith)
single_cut first (b ∷ []) some by d t = record { within = omega arith; longest = single_longest first b [] by tt }
single_cut first (b ∷ c ∷ text) some by d t = record { within = omega arith; longest = single_longest first b (c ∷ text) by (d (omega arith), t) }

-- A text of at most one byte has no longer sign.
pub short : (text : List ℕ) → length text ≤ 1 → three_bytes text ≡ None
short [] h = refl
short (b ∷ []) h = refl
short (b ∷ c ∷ text) h = absurd (omega arith)

-- ---- where only a sign can begin

pub by_signs : (text : List ℕ) → 0 < length text → is_letter (get_or text 0 0) ≡ false → is_digit (get_or text 0 0) ≡ false → is_blank (get_or text 0 0) ≡ false
    → (get_or text 0 0 ≢ 34) → (get_or text 0 0 ≢ 35) → (get_or text 0 0 ≢ 47) → BySigns text
unfolding lexeme
by_signs [] some letter digit blank mark hash slash = absurd (omega arith)
by_signs (b ∷ text) some letter digit blank mark hash slash = record {
  is = λ first d w rest e.
      let same : b ≡ d = cc in
      let m : (b == 34) ≡ false = grind (arith, nat_tests) in
      let h : (b == 35) ≡ false = grind (arith, nat_tests) in
      let s : (b == 47) ≡ false = grind (arith, nat_tests) in
      rw (← same, letter, digit, blank, m, h, s);
}

pub slash_signs : (text : List ℕ) → 0 < length text → get_or text 0 0 ≡ 47 → (1 < length text → get_or text 1 0 ≢ 42) → (1 < length text → get_or text 1 0 ≢ 47) → BySigns text
unfolding lexeme
slash_signs [] some first star slash = absurd (omega arith)
slash_signs (b ∷ text) some first star slash = record { is = λ flag d w rest e. let same : d ≡ 47 = cc in rw same (by w rest (cc)) }
  where
    by : (w rest : List ℕ) → text ≡ w ++ rest → slash_of w rest ≡ sign_of 47 w
    by [] rest e = refl
    by (c ∷ w) rest e =
        let long : 1 < length (b ∷ text) = rw e (omega arith) in
        let n : get_or (b ∷ text) 1 0 ≡ c = rw e refl in
        let s = star long in
        let t = slash long in
        let h : (c == 42) ≡ false = grind (arith, nat_tests) in
        let g : (c == 47) ≡ false = grind (arith, nat_tests) in
        rw (h, g)
