-- Where each kind of piece ends.
use Rattle.std.proofs.Common.{◌≡◌, ℕ, suc, ◌<◌, ◌≤◌, Bool, true, false, ◌&&◌, List, [], ◌∷◌, ◌++◌, length, take, drop, take-append-drop, append_assoc, Some, None, refl, sym, ◌∙◌, ap, subst, arith, length-append}
use Rattle.std.specs.Prelude.{◌==◌}
use Rattle.std.specs.List.{list_all}
use Rattle.std.proofs.lemmas.Bool.Decides.{nat_tests}
use Rattle.c_lexer.specs.Pieces.{Piece, Found, up_to}
use Rattle.c_lexer.specs.Lexeme.{Longest, lexeme, IsCut}

-- ---- bytes that fail a test

-- The text ends, or its first byte fails the test.
abbrev pub Stops : (ℕ → Bool) → List ℕ → Type 0
Stops test [] = Unit {0}
Stops test (c ∷ rest) = test c ≡ false

pub all_past : (test : ℕ → Bool) (w : List ℕ) (c : ℕ) (more : List ℕ) → test c ≡ false → list_all test (w ++ c ∷ more) ≡ false
all_past test [] c more h = rw h
all_past test (b ∷ w) c more h = rw (all_past test w c more h) (by (test b))
  where
    by : (x : Bool) → (x && false) ≡ false
    by true = refl
    by false = refl

pub stops_at : (test : ℕ → Bool) (rest : List ℕ) (c : ℕ) (more after : List ℕ) → Stops test rest → rest ≡ c ∷ (more ++ after) → test c ≡ false
stops_at test [] c more after h e = absurd (cc)
stops_at test (d ∷ rest) c more after h e = let same : d ≡ c = cc in subst (λ x. test x ≡ false) same h

-- ---- a reading of a text is as long as it says, and neither longer nor shorter

up_to_here : (rest : List ℕ) (piece : Piece) → up_to rest (record { piece = piece; left = rest }) ≡ Some piece
up_to_here rest piece = let same : (length rest == length rest) ≡ true = grind (arith, nat_tests) in rw same refl

up_to_later : (left rest : List ℕ) (piece : Piece) → length rest < length left → up_to rest (record { piece = piece; left = left }) ≡ None
up_to_later left rest piece h = let other : (length left == length rest) ≡ false = grind (arith, nat_tests) in rw other refl

-- What begins with these bytes is what a reading of all that follows them finds.
abbrev pub IsRead : Bool → List ℕ → (List ℕ → Found) → Type 0
IsRead first front read = (w rest : List ℕ) → lexeme first (front ++ w) rest ≡ up_to rest (read (w ++ rest))

pub reading_longest : (first : Bool) (front : List ℕ) (read : List ℕ → Found) (w rest : List ℕ) (piece : Piece) → IsRead first front read
    → read (w ++ rest) ≡ record { piece = piece; left = rest } → Longest first (front ++ w) rest piece
reading_longest first front read w rest piece same reads = record {
  is = same w rest ∙ ap (up_to rest) reads ∙ up_to_here rest piece;
  longer = λ c more after e.
      let text : (w ++ c ∷ more) ++ after ≡ w ++ rest = append_assoc w (c ∷ more) after ∙ ap (λ x. w ++ x) (sym e) in
      let size : length rest ≡ suc (length (more ++ after)) = ap length e in
      let shorter : length after < length rest = omega (arith, length-append more after) in
      rw (append_assoc front w (c ∷ more), same (w ++ c ∷ more) after, text, reads) (up_to_later rest after piece shorter);
}

-- The same after one byte, and after two.
pub reading_cut : (first : Bool) (b : ℕ) (read : List ℕ → Found) (text : List ℕ) (n : ℕ) (piece : Piece) → IsRead first (b ∷ []) read → n ≤ length text
    → read text ≡ record { piece = piece; left = drop n text } → IsCut first (b ∷ text) piece (suc n)
reading_cut first b read text n piece same within reads = record {
  within = omega arith;
  longest = reading_longest first (b ∷ []) read (take n text) (drop n text) piece same (ap read (take-append-drop n text) ∙ reads);
}

pub reading_cut_two : (first : Bool) (b c : ℕ) (read : List ℕ → Found) (text : List ℕ) (n : ℕ) (piece : Piece) → IsRead first (b ∷ c ∷ []) read → n ≤ length text
    → read text ≡ record { piece = piece; left = drop n text } → IsCut first (b ∷ c ∷ text) piece (suc (suc n))
reading_cut_two first b c read text n piece same within reads = record {
  within = omega arith;
  longest = reading_longest first (b ∷ c ∷ []) read (take n text) (drop n text) piece same (ap read (take-append-drop n text) ∙ reads);
}
