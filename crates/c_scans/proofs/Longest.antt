-- Each text that isn't empty begins with a longest piece.
use Rattle.std.proofs.Common.{◌≡◌, ◌⊎◌, ℕ, zero, suc, ◌<◌, ◌≤◌, ◌+◌, Bool, List, [], ◌∷◌, ◌++◌, length, take, drop, take-append-drop, append_assoc, length-append, Option, Some, None, refl, sym, ap, subst, ◌∙◌, inl, inr, arith}
use Rattle.std.proofs.Math.Seq.{take-append_seam, drop-append_seam}
use Rattle.std.proofs.lemmas.List.{length-take-le}
use Rattle.std.proofs.lemmas.Bool.{cases_lt}
use Rattle.c_lexer.specs.Pieces.{Piece}
use Rattle.c_lexer.specs.Lexeme.{lexeme, Longest}
use Rattle.c_scans.proofs.Fronts.{Begins, begins}

-- a text begins with this longest piece
pub record HasLongest (first : Bool) (text : List ℕ) : Type 0 where
  pub front : List ℕ
  pub rest : List ℕ
  pub piece : Piece
  pub splits : text ≡ front ++ rest
  pub some : length rest < length text
  pub longest : Longest first front rest piece

module _ (first : Bool) (text : List ℕ) where
  abbrev at : ℕ → Option Piece
  at n = lexeme first (take n text) (drop n text)

  -- more bytes than these are no piece
  abbrev NoneBeyond : ℕ → Type 0
  NoneBeyond n = (m : ℕ) → n < m → m ≤ length text → at m ≡ None

  cut : (n : ℕ) (piece : Piece) → 0 < n → n ≤ length text → at n ≡ Some piece → NoneBeyond n → HasLongest first text
  cut n piece some within is none = record {
    front = take n text;
    rest = drop n text;
    piece = piece;
    splits = sym (take-append-drop n text);
    some = omega (arith, some, within, ap length (take-append-drop n text), length-append (take n text) (drop n text), length-take-le n text within);
    longest = record {
      is = is;
      longer = λ c more after e.
          let front : List ℕ = take n text ++ c ∷ more in
          let whole : text ≡ front ++ after = sym (take-append-drop n text) ∙ ap (λ x. take n text ++ x) e ∙ sym (append_assoc (take n text) (c ∷ more) after) in
          let size : length front ≡ length (take n text) + suc (length more) = length-append (take n text) (c ∷ more) in
          let all : length text ≡ length front + length after = ap length whole ∙ length-append front after in
          let taken : take (length front) text ≡ front = ap (take (length front)) whole ∙ take-append_seam front after in
          let dropped : drop (length front) text ≡ after = ap (drop (length front)) whole ∙ drop-append_seam front after in
          let nothing : at (length front) ≡ None = none (length front) (omega (arith, size, length-take-le n text within)) (omega (arith, all)) in
          subst (λ (x : List ℕ). lexeme first x after ≡ None) taken (subst (λ (y : List ℕ). lexeme first (take (length front) text) y ≡ None) dropped nothing);
    };
  }

  beyond : (n : ℕ) → at (suc n) ≡ None → NoneBeyond (suc n) → NoneBeyond n
  beyond n stops none m lt le = by (cases_lt (suc n) m)
    where
      by : (suc n < m) ⊎ (m ≤ suc n) → at m ≡ None
      by (inl further) = none m further le
      by (inr here) = let same : suc n ≡ m = omega (arith, here, lt) in subst (λ (k : ℕ). at k ≡ None) same stops

  lower : (n : ℕ) (b : Begins first text) → b.size ≤ suc n → at (suc n) ≡ None → b.size ≤ n
  lower n b le stops = by (cases_lt n b.size)
    where
      different : b.size ≡ suc n → ⊥
      different e = let both : at (suc n) ≡ Some b.piece = subst (λ (k : ℕ). at k ≡ Some b.piece) e b.is in absurd (cc)

      by : (n < b.size) ⊎ (b.size ≤ n) → b.size ≤ n
      by (inl more) = absurd (different (omega (arith, more, le)))
      by (inr fits) = fits

  abbrev Search : ℕ → Type 0
  Search n = (b : Begins first text) → b.size ≤ n → n ≤ length text → NoneBeyond n → HasLongest first text

  step : (n : ℕ) (o : Option Piece) → at (suc n) ≡ o → Search n → Search (suc n)
  step n (Some piece) e more b le within none = cut (suc n) piece (omega arith) within e none
  step n None e more b le within none = more b (lower n b le e) (omega (arith, within)) (beyond n e none)

  search : (n : ℕ) → Search n
  search zero b le within none = absurd (omega (arith, b.some, le))
  search (suc n) b le within none = step n (at (suc n)) refl (search n) b le within none

pub has_longest : (first : Bool) (b : ℕ) (text : List ℕ) → HasLongest first (b ∷ text)
has_longest first b text =
    let some = begins first b text in
    search first (b ∷ text) (length (b ∷ text)) some some.within (omega arith) (λ m lt le. absurd (omega (arith, lt, le)))
