-- A parted layout is read as its tokens.
use Rattle.std.proofs.Common.{◌≡◌, ℕ, Bool, true, false, List, [], ◌∷◌, ◌++◌, refl, sym, ◌∙◌, ap, subst, arith, append_assoc, append-nil, None}
use Rattle.std.specs.Prelude.{◌==◌, ◌||◌, ◌&&◌}
use Rattle.std.specs.List.{list_all}
use Rattle.std.proofs.lemmas.Bool.Decides.{nat_tests}
use Rattle.std.proofs.lemmas.List.Sums.{fold-append}
use Rattle.c_lexer.specs.Classes.{is_letter, is_digit, is_blank}
use Rattle.c_lexer.specs.Pieces.{Piece}
use Rattle.c_lexer.specs.Lexeme.{Longest}
use Rattle.c_lexer.specs.Tokens.{Word, Scan, ended, skip, word, Tokens, is_first}
use Rattle.c_lexer.proofs.WordPieces.{blank_longest}
use Rattle.c_layout.specs.Layout.{Item, token, gap, text, words, Separates, blanks, skipped, first_after, Parted}

-- ---- blanks

blank_by : (P : ℕ → Type 0) (b : ℕ) → is_blank b ≡ true → P 32 → P 9 → P 13 → P 10 → P b
blank_by P b h s t r n = by (b == 32) (b == 9) (b == 13) (b == 10) refl refl refl refl h
  where
    is : (k : ℕ) → (b == k) ≡ true → P k → P b
    is k e x = let same : k ≡ b = grind (arith, nat_tests) in subst P same x

    by : (w x y z : Bool) → (b == 32) ≡ w → (b == 9) ≡ x → (b == 13) ≡ y → (b == 10) ≡ z → (((w || x) || y) || z) ≡ true → P b
    by true x y z e f g i h = is 32 e s
    by false true y z e f g i h = is 9 f t
    by false false true z e f g i h = is 13 g r
    by false false false true e f g i h = is 10 i n
    by false false false false e f g i h = absurd (cc)

blank_skips : (first : Bool) (b : ℕ) (rest : List ℕ) → is_blank b ≡ true → Longest first (b ∷ []) rest Piece.skip
blank_skips first b rest h =
    blank_longest first b rest (blank_by (λ c. is_letter c ≡ false) b h refl refl refl refl) (blank_by (λ c. is_digit c ≡ false) b h refl refl refl refl) h

blanks_skip : (w before rest : List ℕ) (ts : List Word) → list_all is_blank w ≡ true → Scan (before ++ w) rest ts None → Scan before (w ++ rest) ts None
blanks_skip [] before rest ts h x = subst (λ b. Scan b rest ts None) (append-nil before) x
blanks_skip (b ∷ w) before rest ts h x = by (is_blank b) (list_all is_blank w) refl refl h (blanks_skip w (before ++ b ∷ []) rest ts)
  where
    by : (y z : Bool) → is_blank b ≡ y → list_all is_blank w ≡ z → (y && z) ≡ true
        → (list_all is_blank w ≡ true → Scan ((before ++ b ∷ []) ++ w) rest ts None → Scan (before ++ b ∷ []) (w ++ rest) ts None) → Scan before (b ∷ (w ++ rest)) ts None
    by true true e f g again =
        skip {w = b ∷ []} {rest = w ++ rest} refl (blank_skips (is_first before) b (w ++ rest) e)
        (again f (subst (λ y. Scan y rest ts None) (sym (append_assoc before (b ∷ []) w)) x))
    by true false e f g again = absurd (cc)
    by false z e f g again = absurd (cc)

gap_skips : (w before rest : List ℕ) (ts : List Word) → Separates (is_first before) w rest → Scan (before ++ w) rest ts None → Scan before (w ++ rest) ts None
gap_skips w before rest ts (blanks h) x = blanks_skip w before rest ts h x
gap_skips w before rest ts (skipped h) x = skip {w = w} {rest = rest} refl h x

-- ---- the law

first_then : (before w : List ℕ) → first_after (is_first before) w ≡ is_first (before ++ w)
unfolding is_first
first_then before w = sym (fold-append _ true before w)

pub reads : (items : List Item) (before rest : List ℕ) (ts : List Word) → Parted (is_first before) items rest → Scan (before ++ text items) rest ts None
    → Scan before (text items ++ rest) (words before items ++ ts) None
reads [] before rest ts h x = subst (λ b. Scan b rest ts None) (append-nil before) x
reads (token kind w ∷ items) before rest ts h x =
    word {w = w} {rest = text items ++ rest} (append_assoc w (text items) rest) h.0
    (reads items (before ++ w) rest ts (subst (λ f. Parted f items rest) (first_then before w) h.1)
    (subst (λ y. Scan y rest ts None) (sym (append_assoc before w (text items))) x))
reads (gap w ∷ items) before rest ts h x =
    subst (λ y. Scan before y (words (before ++ w) items ++ ts) None) (sym (append_assoc w (text items) rest))
    (gap_skips w before (text items ++ rest) (words (before ++ w) items ++ ts) h.0
    (reads items (before ++ w) rest ts (subst (λ f. Parted f items rest) (first_then before w) h.1)
    (subst (λ y. Scan y rest ts None) (sym (append_assoc before w (text items))) x)))

nothing_before : is_first [] ≡ true
unfolding is_first
nothing_before = refl

pub reading : (items : List Item) → Parted true items [] → Tokens (text items) (words [] items)
reading items h =
    subst (λ x. Tokens x (words [] items)) (append-nil (text items))
    (subst (λ x. Tokens (text items ++ []) x) (append-nil (words [] items))
    (reads items [] [] [] (subst (λ f. Parted f items []) (sym nothing_before) h) ended))

-- ---- parts

pub text_append : (a b : List Item) → text (a ++ b) ≡ text a ++ text b
text_append [] b = refl
text_append (token kind w ∷ a) b = ap (λ x. w ++ x) (text_append a b) ∙ sym (append_assoc w (text a) (text b))
text_append (gap w ∷ a) b = ap (λ x. w ++ x) (text_append a b) ∙ sym (append_assoc w (text a) (text b))

-- A layout is parted wherever it stands on its line.
abbrev pub Joins : List Item → List ℕ → Type 0
Joins items rest = (first : Bool) → Parted first items rest

pub parted_append : (a b : List Item) (rest : List ℕ) (first : Bool) → Parted first a (text b ++ rest) → Joins b rest → Parted first (a ++ b) rest
parted_append [] b rest first h g = g first
parted_append (token kind w ∷ a) b rest first h g =
    let same : text (a ++ b) ++ rest ≡ text a ++ (text b ++ rest) = ap (λ x. x ++ rest) (text_append a b) ∙ append_assoc (text a) (text b) rest in
    (subst (λ x. Longest first w x (Piece.token kind)) (sym same) h.0, parted_append a b rest (first_after first w) h.1 g)
parted_append (gap w ∷ a) b rest first h g =
    let same : text (a ++ b) ++ rest ≡ text a ++ (text b ++ rest) = ap (λ x. x ++ rest) (text_append a b) ∙ append_assoc (text a) (text b) rest in
    (subst (λ x. Separates first w x) (sym same) h.0, parted_append a b rest (first_after first w) h.1 g)

pub joins_append : (a b : List Item) (rest : List ℕ) → Joins a (text b ++ rest) → Joins b rest → Joins (a ++ b) rest
joins_append a b rest h g = λ first. parted_append a b rest first (h first) g
