-- One thing is found next in a text, and a text has one list of tokens.
use Rattle.std.proofs.Common.{◌≡◌, ℕ, Bool, List, [], ◌∷◌, ◌++◌, Option, Some, refl, sym, ◌∙◌, ap, subst}
use Rattle.std.specs.Prelude.{Result}
use Rattle.c_lexer.specs.declared.token.Token.{Token}
use Rattle.c_lexer.specs.declared.token.Span.{Span}
use Rattle.c_lexer.specs.declared.token.LexError.{LexError}
use Rattle.c_lexer.specs.Pieces.{Piece}
use Rattle.c_lexer.specs.Lexeme.{Longest, lexeme}
use Rattle.c_lexer.specs.Tokens.{Next, none, past, here, Scan, ended, refused, skip, word, Word, line, error_of}

-- Two ways to cut a list in two are the same, or one of them cuts later.
pub data Cuttings (w rest v other : List ℕ) : Type 0 where
  same : w ≡ v → rest ≡ other → Cuttings w rest v other
  later : (c : ℕ) (more : List ℕ) → v ≡ w ++ c ∷ more → rest ≡ c ∷ (more ++ other) → Cuttings w rest v other
  sooner : (c : ℕ) (more : List ℕ) → w ≡ v ++ c ∷ more → other ≡ c ∷ (more ++ rest) → Cuttings w rest v other

more_cuts : (a : ℕ) (w rest v other : List ℕ) → Cuttings w rest v other → Cuttings (a ∷ w) rest (a ∷ v) other
more_cuts a w rest v other (same e f) = same (ap (λ x. a ∷ x) e) f
more_cuts a w rest v other (later c more e f) = later c more (ap (λ x. a ∷ x) e) f
more_cuts a w rest v other (sooner c more e f) = sooner c more (ap (λ x. a ∷ x) e) f

cuttings : (w rest v other : List ℕ) → w ++ rest ≡ v ++ other → Cuttings w rest v other
cuttings [] rest [] other e = same refl e
cuttings [] rest (c ∷ v) other e = later c v refl e
cuttings (c ∷ w) rest [] other e = sooner c w refl (sym e)
cuttings (c ∷ w) rest (d ∷ v) other e =
    let head : c ≡ d = cc in
    let tail : w ++ rest ≡ v ++ other = cc in
    subst (λ x. Cuttings (c ∷ w) rest (x ∷ v) other) head (more_cuts c w rest v other (cuttings w rest v other tail))

-- Two longest pieces at one place are the same.
pub record Same (w rest v other : List ℕ) (a b : Piece) : Type 0 where
  pub bytes : w ≡ v
  pub after : rest ≡ other
  pub piece : a ≡ b

pub one_piece : (first : Bool) (w rest v other : List ℕ) (a b : Piece) → w ++ rest ≡ v ++ other → Longest first w rest a → Longest first v other b → Same w rest v other a b
one_piece first w rest v other a b e x y = by (cuttings w rest v other e)
  where
    by : Cuttings w rest v other → Same w rest v other a b
    by (same g h) =
        let i : lexeme first v other ≡ Some a = subst (λ z. lexeme first v z ≡ Some a) h (subst (λ z. lexeme first z rest ≡ Some a) g x.is) in
        let p : a ≡ b = cc (i, y.is) in record { bytes = g; after = h; piece = p }
    by (later c more g h) = absurd (let no_longer = x.longer c more other h in let i = subst (λ z. lexeme first z other ≡ Some b) g y.is in cc)
    by (sooner c more g h) = absurd (let no_longer = y.longer c more rest h in let i = subst (λ z. lexeme first z rest ≡ Some a) g x.is in cc)

-- No piece is empty.
pub no_piece : (first : Bool) (w rest : List ℕ) (a : Piece) → [] ≡ w ++ rest → Longest first w rest a → ⊥
unfolding lexeme
no_piece first [] rest a e x = let i = x.is in cc
no_piece first (c ∷ w) rest a e x = cc

pub one_next : {before all : List ℕ} {found other : Result (Option (Token × Span)) LexError} → Next before all found → Next before all other → found ≡ other
one_next none none = refl
one_next none (past {w = v} {rest = s} f m k) = absurd (no_piece _ v s _ f m)
one_next none (here {w = v} {rest = s} f m k) = absurd (no_piece _ v s _ f m)
one_next (past {w = v} {rest = s} f m k) none = absurd (no_piece _ v s _ f m)
one_next (here {w = v} {rest = s} f m k) none = absurd (no_piece _ v s _ f m)
one_next (past {before} {w = w} {rest = r} e l n) (past {w = v} {rest = s} {found = q} f m k) =
    let same = one_piece _ w r v s _ _ (sym e ∙ f) l m in
    one_next n (subst (λ x. Next (before ++ x) r q) (sym same.bytes) (subst (λ x. Next (before ++ v) x q) (sym same.after) k))
one_next (past {w = w} {rest = r} e l n) (here {w = v} {rest = s} f m k) =
    let same = one_piece _ w r v s _ _ (sym e ∙ f) l m in absurd (cc)
one_next (here {w = w} {rest = r} e l n) (past {w = v} {rest = s} f m k) =
    let same = one_piece _ w r v s _ _ (sym e ∙ f) l m in absurd (cc)
one_next (here {w = w} {rest = r} e l n) (here {w = v} {rest = s} f m k) =
    let same = one_piece _ w r v s _ _ (sym e ∙ f) l m in cc

-- A list of tokens and its end.
abbrev pub Both : List Word → List Word → Option LexError → Option LexError → Type 0
Both words others end last = (words ≡ others) × (end ≡ last)

pub one_scan : {before all : List ℕ} {words others : List Word} {end last : Option LexError} → Scan before all words end → Scan before all others last → Both words others end last
one_scan ended ended = (refl, refl)
one_scan ended (refused {w = v} {rest = s} f m) = absurd (no_piece _ v s _ f m)
one_scan ended (skip {w = v} {rest = s} f m k) = absurd (no_piece _ v s _ f m)
one_scan ended (word {w = v} {rest = s} f m k) = absurd (no_piece _ v s _ f m)
one_scan (refused {w = v} {rest = s} f m) ended = absurd (no_piece _ v s _ f m)
one_scan (skip {w = v} {rest = s} f m k) ended = absurd (no_piece _ v s _ f m)
one_scan (word {w = v} {rest = s} f m k) ended = absurd (no_piece _ v s _ f m)
one_scan (refused {before} {w = w} {rest = r} {fault = a} e l) (refused {w = v} {rest = s} {fault = b} f m) =
    let same = one_piece _ w r v s _ _ (sym e ∙ f) l m in
    let fault : a ≡ b = cc in (refl, ap (λ x. Some (error_of x (line before))) fault)
one_scan (refused {w = w} {rest = r} e l) (skip {w = v} {rest = s} f m k) =
    let same = one_piece _ w r v s _ _ (sym e ∙ f) l m in absurd (cc)
one_scan (refused {w = w} {rest = r} e l) (word {w = v} {rest = s} f m k) =
    let same = one_piece _ w r v s _ _ (sym e ∙ f) l m in absurd (cc)
one_scan (skip {w = w} {rest = r} e l n) (refused {w = v} {rest = s} f m) =
    let same = one_piece _ w r v s _ _ (sym e ∙ f) l m in absurd (cc)
one_scan (word {w = w} {rest = r} e l n) (refused {w = v} {rest = s} f m) =
    let same = one_piece _ w r v s _ _ (sym e ∙ f) l m in absurd (cc)
one_scan (skip {before} {w = w} {rest = r} e l n) (skip {w = v} {rest = s} {words = us} {end = q} f m k) =
    let same = one_piece _ w r v s _ _ (sym e ∙ f) l m in
    one_scan n (subst (λ x. Scan (before ++ x) r us q) (sym same.bytes) (subst (λ x. Scan (before ++ v) x us q) (sym same.after) k))
one_scan (skip {w = w} {rest = r} e l n) (word {w = v} {rest = s} f m k) =
    let same = one_piece _ w r v s _ _ (sym e ∙ f) l m in absurd (cc)
one_scan (word {w = w} {rest = r} e l n) (skip {w = v} {rest = s} f m k) =
    let same = one_piece _ w r v s _ _ (sym e ∙ f) l m in absurd (cc)
one_scan (word {before} {w = w} {rest = r} {kind = a} {words = ts} e l n) (word {w = v} {rest = s} {kind = b} {words = us} {end = q} f m k) =
    let same = one_piece _ w r v s _ _ (sym e ∙ f) l m in
    let others = one_scan n (subst (λ x. Scan (before ++ x) r us q) (sym same.bytes) (subst (λ x. Scan (before ++ v) x us q) (sym same.after) k)) in
    let kind : a ≡ b = cc in
    let list : ts ≡ us = others.0 in
    (rw (kind, list, same.bytes) refl, others.1)
