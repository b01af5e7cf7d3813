-- The parser of programs answers the same on the marked tokens of a text and on its words.
use Rattle.std.proofs.Common.{◌≡◌, ℕ, zero, suc, true, List, [], ◌∷◌, length, Option, Some, None, refl, sym, ap, subst, ◌∙◌}
use Rattle.std.specs.Prelude.{nat_le}
use Rattle.c_lexer.specs.Pieces.{Kind}
use Rattle.c_lexer.specs.Words.{largest}
use Rattle.c_lexer.specs.Tokens.{Word}
use Rattle.c_tree.specs.Lined.{Program}
use Rattle.c_grammar.specs.declared.words.FixedWord.{FixedWord}
use Rattle.c_grammar.specs.declared.words.FixedWord.TheVariants as w
use Rattle.c_grammar.specs.Items.{What, Item, at, Defined, definition_of, what_is, first_or_repeated, defined_by}
use Rattle.c_grammar.specs.Levels.{Tall}
use Rattle.c_grammar.specs.Programs.{empty_program}
use Rattle.parse_laws.specs.Parser.{Outcome, Got, Failed, Parser, and_then, ◌>>=◌, pure, Move, Stop, Deep, Go, moved, and_go, loop, loop_from}
use Rattle.parse_laws.proofs.Alike.{Along, token, barred, Both, option_alike}
use Rattle.c_expressions.specs.declared.token.Marked.{Marked}
use Rattle.c_expressions.specs.Parsers.{what_at, seen}
use Rattle.c_expressions.proofs.Same.{clear, bars}
use Rattle.c_declarations.specs.Words.{int_holds, line_in}
use Rattle.c_declarations.specs.Parsers.{line}
use Rattle.c_programs.specs.declared.token.Opening.{Opening}
use Rattle.c_programs.specs.declared.token.Opening.TheVariants as o
use Rattle.c_programs.specs.declared.token.Free.{Free}
use Rattle.c_programs.specs.Words.{outer_opening}
use Rattle.c_programs.specs.Parsers.{Reading, read, outer_by, turn_by, turn, first_by, first_part, program}
use Rattle.c_programs.specs.Lexed.{word_views}
use Rattle.c_programs.specs.Gives.{views, after_what}
use Rattle.c_tokens.specs.Marks.{AllMarked, AreSmall, TellsWord}
use Rattle.c_alike.specs.Alike.{LeftAlike, SameOutcome}
use Rattle.c_alike.proofs.Free.{left_by, left_after}
use Rattle.c_alike.proofs.Along.{AreLow, found_low, Later, as_long, code, theory, W, clear_named, clear_bars, to_along, from_along}
use Rattle.c_alike.proofs.Outer.{S, SM, any, by_opening, ints_same, outer_same}

module _ (text : List ℕ) (room : ℕ) where
  abbrev mine : Reading Free → Marked → Move Marked (Reading Free)
  mine = turn (views text) room

  abbrev its : Reading (List Defined) → Word → Move Word (Reading (List Defined))
  its = turn word_views room

  -- the same program and tokens left that are alike, whatever the definitions
  abbrev Alike : Outcome Marked (Reading Free) → Outcome Word (Reading (List Defined)) → Type 0
  Alike (Got a x) (Got b y) = (a.program ≡ b.program) × LeftAlike text x y
  Alike (Failed f x) (Failed g y) = (f ≡ g) × LeftAlike text x y
  Alike (Got a x) (Failed g y) = ⊥
  Alike (Failed f x) (Got b y) = ⊥

  -- what turns go on to, after these definitions
  abbrev From : ℕ → Type 0
  From n = (d : List Defined) (p : Tall Program) (x : List Marked) (y : List Word) → AreLow d → Later text d x y → Alike (loop_from n mine (read (left_by d) p) x) (loop_from n its (read d p) y)

  -- ---- a turn that isn't a definition

  module _ (n : ℕ) (next : From n) (d : List Defined) (p : Tall Program) (low : AreLow d) where
    abbrev first_rest : Tall Program → Parser Marked (Reading Free)
    first_rest q = loop_from n mine (read (left_by d) q)

    abbrev second_rest : Tall Program → Parser Word (Reading (List Defined))
    second_rest q = loop_from n its (read d q)

    after : (a : Outcome Marked (Tall Program)) (b : Outcome Word (Tall Program)) → Both (W text d) a b
        → Alike (and_then (and_then a (λ p. pure (read (left_by d) p))) (loop_from n mine)) (and_then (and_then b (λ p. pure (read d p))) (loop_from n its))
    after (Got a x) (Got b y) z = subst (λ (q : Tall Program). Alike (loop_from n mine (read (left_by d) q) x) (loop_from n its (read d b) y)) (sym z.0) (next d b x y low (from_along text d z.1))
    after (Failed f x) (Failed g y) z = (z.0, (d, (from_along text d z.1).0))
    after (Got a x) (Failed g y) z = absurd z
    after (Failed f x) (Got b y) z = absurd z

    -- by what the token does outside functions
    done : (k : Move Marked (Tall Program)) (m : Move Word (Tall Program)) (u : Marked) (t : Word) (x : List Marked) (y : List Word) → SM text d room k m → Later text d (u ∷ x) (t ∷ y) → Along (W text d) x y
        → Alike (moved (and_go (and_go k (λ p. pure (read (left_by d) p))) (loop_from n mine)) (pure (read (left_by d) p)) u x) (moved (and_go (and_go m (λ p. pure (read d p))) (loop_from n its)) (pure (read d p)) t y)
    done Stop Stop u t x y s h a = (refl, (d, h.0))
    done Deep Deep u t x y s h a = (refl, (d, h.0))
    done (Go f) (Go g) u t x y s h a = after (f x) (g y) (s x y a)
    done Stop Deep u t x y s h a = absurd s
    done Stop (Go g) u t x y s h a = absurd s
    done Deep Stop u t x y s h a = absurd s
    done Deep (Go g) u t x y s h a = absurd s
    done (Go f) Stop u t x y s h a = absurd s
    done (Go f) Deep u t x y s h a = absurd s

  -- ---- one turn

  module _ (n : ℕ) (next : From n) (d : List Defined) (p : Tall Program) (low : AreLow d) (u : Marked) (t : Word) (x : List Marked) (y : List Word) where
    -- where the tokens open this
    abbrev Turn : Opening → Opening → Type 0
    Turn e f =
        Alike (moved (and_go (turn_by (views text) room (read (left_by d) p) u e) (loop_from n mine)) (pure (read (left_by d) p)) u x)
        (moved (and_go (turn_by word_views room (read d p) t f) (loop_from n its)) (pure (read d p)) t y)

    abbrev code_move : Opening → Move Marked (Tall Program)
    code_move e = outer_by (code text d) int_holds room p (line (code text d) u) e

    abbrev word_move : Opening → Move Word (Tall Program)
    word_move e = outer_by (theory text d) (any text d room) room p (line (theory text d) t) e

    outer : (e : Opening) → line (code text d) u ≡ line (theory text d) t → SM text d room (code_move e) (word_move e)
    outer e l = subst (λ (k : ℕ). SM text d room (outer_by (code text d) int_holds room p k e) (word_move e)) (sym l) (outer_same text d room p (line (theory text d) t) e)

    by_outer : (e : Opening) → (e ≡ o.Definition → ⊥) → line (code text d) u ≡ line (theory text d) t → Later text d (u ∷ x) (t ∷ y) → Along (W text d) x y → Turn e e
    by_outer o.Definition k l h a = absurd (k refl)
    by_outer o.Int k l h a = done n next d p low (code_move o.Int) (word_move o.Int) u t x y (outer o.Int l) h a
    by_outer o.Void k l h a = done n next d p low (code_move o.Void) (word_move o.Void) u t x y (outer o.Void l) h a
    by_outer o.Mutex k l h a = done n next d p low (code_move o.Mutex) (word_move o.Mutex) u t x y (outer o.Mutex l) h a
    by_outer o.Condition k l h a = done n next d p low (code_move o.Condition) (word_move o.Condition) u t x y (outer o.Condition l) h a
    by_outer o.Thread k l h a = done n next d p low (code_move o.Thread) (word_move o.Thread) u t x y (outer o.Thread l) h a
    by_outer o.Static k l h a = done n next d p low (code_move o.Static) (word_move o.Static) u t x y (outer o.Static l) h a
    by_outer o.Other k l h a = (refl, (d, h.0))

    by_items : (e f : Opening) → outer_opening (seen (code text d) u) ≡ e → outer_opening (seen (theory text d) t) ≡ f → Turn e f → Turn (outer_opening (seen (code text d) u)) (outer_opening (seen (theory text d) t))
    by_items e f c h k = subst (λ (a : Opening). Turn a (outer_opening (seen (theory text d) t))) (sym c) (subst (λ (b : Opening). Turn e b) (sym h) k)

    no_definition : (l : ℕ) (a : What) → clear (at l a) ≡ true → outer_opening a ≡ o.Definition → ⊥
    no_definition l What.Definition c e = absurd cc
    no_definition l (What.Fixed word) c e = fixed word e
      where
        fixed : (word : FixedWord) → outer_opening (What.Fixed word) ≡ o.Definition → ⊥
        fixed w.Int e = absurd cc
        fixed w.Void e = absurd cc
        fixed w.Mutex e = absurd cc
        fixed w.Condition e = absurd cc
        fixed w.Thread e = absurd cc
        fixed w.Static e = absurd cc
        fixed _ e = absurd cc
    no_definition l (What.Name name) c e = absurd cc
    no_definition l (What.Number value) c e = absurd cc
    no_definition l (What.Text format) c e = absurd cc
    no_definition l (What.Sign sign) c e = absurd cc
    no_definition l What.Keyword c e = absurd cc
    no_definition l What.Repeated c e = absurd cc

    cleared : (i : Item) → clear i ≡ true → outer_opening (what_at i) ≡ o.Definition → ⊥
    cleared (at l a) c e = no_definition l a c e

    -- no definition comes
    by_token : (code text d).item u ≡ (theory text d).item t → clear ((theory text d).item t) ≡ true → Later text d (u ∷ x) (t ∷ y) → Along (W text d) x y → Turn (outer_opening (seen (code text d) u)) (outer_opening (seen (theory text d) t))
    by_token e c h a =
        by_items (outer_opening (seen (theory text d) t)) (outer_opening (seen (theory text d) t)) (ap (λ (i : Item). outer_opening (what_at i)) e) refl
        (by_outer (outer_opening (seen (theory text d) t)) (cleared ((theory text d).item t) c) (ap line_in e) h a)

    -- one comes
    by_definition : (name : List ℕ) (value : ℕ) (found : Option Defined) → definition_of d name ≡ found → (code text d).item u ≡ (theory text d).item t → (theory text d).item t ≡ at t.line (first_or_repeated (definition_of d name))
        → TellsWord d (Kind.define name value) u.what → nat_le value largest ≡ true → Later text d (u ∷ x) (t ∷ y) → Later text (record { name = name; value = value } ∷ d) x y
        → defined_by d t.kind ≡ record { name = name; value = value } ∷ d
        → Turn (outer_opening (seen (code text d) u)) (outer_opening (seen (theory text d) t))
    by_definition name value None q e i tells s h a g =
        let after : after_what (left_by d) u.what ≡ left_by (record { name = name; value = value } ∷ d) = subst (λ w. after_what (left_by d) w ≡ left_by (record { name = name; value = value } ∷ d)) (sym (tells q)) (left_after d name value) in
        let opens : outer_opening (seen (theory text d) t) ≡ o.Definition = ap (λ (i : Item). outer_opening (what_at i)) i ∙ ap (λ (f : Option Defined). outer_opening (first_or_repeated f)) q in
        by_items o.Definition o.Definition (ap (λ (i : Item). outer_opening (what_at i)) e ∙ opens) opens
        (subst (λ (f : Free). Alike (loop_from n mine (read f p) x) (loop_from n its (read (defined_by d t.kind) p) y)) (sym after)
        (subst (λ (k : List Defined). Alike (loop_from n mine (read (left_by (record { name = name; value = value } ∷ d)) p) x) (loop_from n its (read k p) y)) (sym g)
        (next (record { name = name; value = value } ∷ d) p x y (s, low) a)))
    by_definition name value (Some found) q e i tells s h a g =
        let opens : outer_opening (seen (theory text d) t) ≡ o.Other = ap (λ (i : Item). outer_opening (what_at i)) i ∙ ap (λ (f : Option Defined). outer_opening (first_or_repeated f)) q in
        by_items o.Other o.Other (ap (λ (i : Item). outer_opening (what_at i)) e ∙ opens) opens (refl, (d, h.0))

  -- ---- all turns

  module _ (n : ℕ) (next : From n) (d : List Defined) (p : Tall Program) (low : AreLow d) (u : Marked) (x : List Marked) (y : List Word) where
    clear_name : (bytes : List ℕ) (l : ℕ) → clear (at l (what_is d Kind.name bytes)) ≡ true
    clear_name bytes l = clear_named text d l bytes (definition_of d bytes) (λ z e. found_low d bytes z low e)

    by_bar : (kind : Kind) (bytes : List ℕ) (l : ℕ) → (code text d).item u ≡ at l (what_is d kind bytes) → bars (at l (what_is d kind bytes)) ≡ true → Later text d (u ∷ x) (record { kind = kind; bytes = bytes; line = l } ∷ y)
        → Turn n next d p low u (record { kind = kind; bytes = bytes; line = l }) x y (outer_opening (seen (code text d) u)) (outer_opening (seen (theory text d) (record { kind = kind; bytes = bytes; line = l })))
    by_bar (Kind.define name value) bytes l e b k =
        by_definition n next d p low u (record { kind = Kind.define name value; bytes = bytes; line = l }) x y name value (definition_of d name) refl e refl k.0.0.tells k.1.0 k (k.0.1, k.1.1) refl
    by_bar Kind.name bytes l e b k = absurd (clear_bars (at l (what_is d Kind.name bytes)) (clear_name bytes l) b)
    by_bar (Kind.number v) bytes l e b k = absurd cc
    by_bar Kind.text bytes l e b k = absurd cc
    by_bar (Kind.sign s) bytes l e b k = absurd cc

    by_along : (t : Word) → Later text d (u ∷ x) (t ∷ y) → Along (W text d) (u ∷ x) (t ∷ y) → Turn n next d p low u t x y (outer_opening (seen (code text d) u)) (outer_opening (seen (theory text d) t))
    by_along t h (token e c a) = by_token n next d p low u t x y e c h a
    by_along t h (barred e b k) = by_bar t.kind t.bytes t.line e b h

  turns : (n : ℕ) → From n
  unfolding loop_from
  turns zero d p x y low h = (refl, (d, h.0))
  turns (suc n) d p [] [] low h = (refl, (d, h.0))
  turns (suc n) d p [] (t ∷ y) low h = absurd h.0
  turns (suc n) d p (u ∷ x) [] low h = absurd h.0
  turns (suc n) d p (u ∷ x) (t ∷ y) low h = by_along n (turns n) d p low u x y t h (to_along text d low (u ∷ x) (t ∷ y) h)

  -- ---- programs

  finish : (a : Outcome Marked (Reading Free)) (b : Outcome Word (Reading (List Defined))) → Alike a b → SameOutcome text (and_then a (λ r. pure r.program)) (and_then b (λ r. pure r.program))
  finish (Got a x) (Got b y) z = z
  finish (Failed f x) (Failed g y) z = z
  finish (Got a x) (Failed g y) z = absurd z
  finish (Failed f x) (Got b y) z = absurd z

  looped : (d : List Defined) (p : Tall Program) (x : List Marked) (y : List Word) → AreLow d → Later text d x y → Alike (loop mine (read (left_by d) p) x) (loop its (read d p) y)
  unfolding loop
  looped d p x y low h = subst (λ (n : ℕ). Alike (loop_from (length x) mine (read (left_by d) p) x) (loop_from n its (read d p) y)) (as_long text d x y h) (turns (length x) d p x y low h)

  first_moves : (p : Tall Program) (l : ℕ) (e : Opening) → SM text [] room (first_by (views text) room p l e) (first_by word_views room p l e)
  first_moves p l o.Int = ints_same text [] room true l p
  first_moves p l _ = tt

  first_same : (p : Tall Program) → S text [] room (first_part (views text) room p) (first_part word_views room p)
  unfolding first_part
  first_same p =
      option_alike (W text []) (λ u. first_by (views text) room p (line (code text []) u) (outer_opening (seen (code text []) u))) (λ t. first_by word_views room p (line (theory text []) t) (outer_opening (seen (theory text []) t))) p
      (by_opening text [] room (first_by (views text) room p) (first_by word_views room p) (first_moves p) (λ l. tt) (λ l. tt))

  behind : (a : Outcome Marked (Tall Program)) (b : Outcome Word (Tall Program)) → Both (W text []) a b
      → SameOutcome text (and_then a (λ p. loop mine (read (left_by []) p) >>= λ r. pure r.program)) (and_then b (λ p. loop its (read [] p) >>= λ r. pure r.program))
  behind (Got a x) (Got b y) z =
      subst (λ (q : Tall Program). SameOutcome text (and_then (loop mine (read (left_by []) q) x) (λ r. pure r.program)) (and_then (loop its (read [] b) y) (λ r. pure r.program))) (sym z.0)
      (finish (loop mine (read (left_by []) b) x) (loop its (read [] b) y) (looped [] b x y tt (from_along text [] z.1)))
  behind (Failed f x) (Failed g y) z = (z.0, ([], (from_along text [] z.1).0))
  behind (Got a x) (Failed g y) z = absurd z
  behind (Failed f x) (Got b y) z = absurd z

  pub programs_same : (end : ℕ) (words : List Word) (tokens : List Marked) → AllMarked text [] words tokens → AreSmall words → SameOutcome text (program (views text) room end tokens) (program word_views room end words)
  unfolding program
  programs_same end words tokens all small =
      behind (first_part (views text) room (empty_program end) tokens) (first_part word_views room (empty_program end) words) (first_same (empty_program end) tokens words (to_along text [] tt tokens words (all, small)))
