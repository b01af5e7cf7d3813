-- Behind the capacities and the declarations with them, no further one comes of `gd_cond_wait`.
use Rattle.std.proofs.Common.{◌≡◌, ℕ, Bool, true, false, cond, List, [], ◌∷◌, map, refl, sym, ap, ◌∙◌, inl, inr, ◌⊎◌}
use Rattle.c_lexer.specs.declared.token.Sign.TheVariants as s
use Rattle.c_tree.specs.Lined.{Program}
use Rattle.c_tree.specs.declared.program.Object.{Object}
use Rattle.c_tree.specs.declared.program.Slot.{Slot}
use Rattle.c_grammar.specs.declared.words.FixedWord.TheVariants as w
use Rattle.c_grammar.specs.Items.{Item, at, sign, fixed}
use Rattle.c_grammar.specs.Levels.{Tall}
use Rattle.c_grammar.specs.Commas as comma
use Rattle.c_grammar.specs.Commas.{Commas}
use Rattle.c_grammar.specs.Statements as st
use Rattle.c_grammar.specs.Statements.{SpellsStatic, SpellsSlots}
use Rattle.c_grammar.specs.Declarations as g
use Rattle.c_grammar.specs.Declarations.{SpellsCells, SpellsObjects, SpellsParameter, SpellsParameters, SpellsHead, SpellsFunction}
use Rattle.c_grammar.specs.Programs as programs
use Rattle.c_grammar.specs.Programs.{SpellsOuter}
use Rattle.c_expressions.specs.Parsers.{Sight, what_at, is}
use Rattle.c_declarations.specs.Parsers.{line, is_fixed, is_at, comes_then, type_comes, open_comes, word_comes, wait_comes}
use Rattle.c_declarations.specs.Words.{is_word}
use Rattle.c_expressions.specs.Words.{is_sign}
use Rattle.c_declarations.proofs.Tokens.{fixed_at, sign_at}
use Rattle.c_fronts.specs.Fronts.{is_plain}
use Rattle.c_programs.specs.Parsers.{Views}
use Rattle.c_programs.proofs.Sounds.{running}

-- the tokens with which the declaration begins
abbrev BeginsWait : List Item → Type 0
BeginsWait ts = (a b c d : ℕ) × (later : List Item) × (ts ≡ fixed a w.Void ∷ fixed b w.ControlledWait ∷ sign c s.LeftParenthesis ∷ fixed d w.Condition ∷ later)

-- ---- nothing else begins so

static_apart : {ts hd : List Item} → SpellsStatic ts hd → (BeginsWait hd → ⊥) → BeginsWait ts → ⊥
static_apart st.absent h y = h y
static_apart st.present h y = let e = y.5 in cc

cells_apart : {before after : List Item} {all : List g.Declared} → SpellsCells before after all → BeginsWait before → ⊥
cells_apart (g.cells x d) y = static_apart x (λ z. let e = z.5 in cc) y

objects_apart : {before after : List Item} {o : g.Sort} {all : List Object} → SpellsObjects o before after all → BeginsWait before → ⊥
objects_apart (g.objects {o = g.mutex} x d) y = static_apart x (λ z. let e = z.5 in cc) y
objects_apart (g.objects {o = g.condition} x d) y = static_apart x (λ z. let e = z.5 in cc) y

slots_apart : {before after : List Item} {all : List Slot} → SpellsSlots before after all → BeginsWait before → ⊥
slots_apart (st.slots x d) y = static_apart x (λ z. let e = z.5 in cc) y

parameters_front : {before after : List Item} {all : List (List ℕ)} → Commas SpellsParameter before after all → (l : ℕ) × (ts : List Item) × (before ≡ fixed l w.Int ∷ ts)
parameters_front (comma.one (g.parameter {l = l} {m = m} {a = a} {rest = rest} d)) = (l, at m a ∷ rest, refl)
parameters_front (comma.more d i) = parameters_front d

parameters_apart : {m d : ℕ} {before after later : List Item} {all : List (List ℕ)} → SpellsParameters before (sign m s.RightParenthesis ∷ after) all → before ≡ fixed d w.Condition ∷ later → ⊥
parameters_apart g.nothing e = cc
parameters_apart g.void e = cc
parameters_apart {d = d} {later = later} (g.ints x) e = let y = parameters_front x in differs y.0 y.1 (sym y.2 ∙ e)
  where
    differs : (l : ℕ) (ts : List Item) → fixed l w.Int ∷ ts ≡ fixed d w.Condition ∷ later → ⊥
    differs l ts e = cc

head_apart : {before after : List Item} {h : g.Head} → SpellsHead before after h → BeginsWait before → ⊥
head_apart (g.main x) y = let e = y.5 in cc
head_apart (g.int_function p x) y = let e = y.5 in cc
head_apart (g.void_function {ts = ts} p x) y = let e = y.5 in let q : ts ≡ fixed y.3 w.Condition ∷ y.4 = cc in parameters_apart x q
head_apart (g.thread_function p q) y = let e = y.5 in cc

function_apart : {before after : List Item} {f : Tall g.Defined} → SpellsFunction before after f → BeginsWait before → ⊥
function_apart (g.function x h b) y = static_apart x (head_apart h) y

-- where a program goes on, or ends
abbrev Apart : List Item → List Item → Type 0
Apart before after = (before ≡ after) ⊎ (BeginsWait before → ⊥)

then_apart : {before mid after : List Item} → Apart before mid → (BeginsWait mid → ⊥) → Apart before after
then_apart (inl e) h = inr (λ y. h (y.0, y.1, y.2, y.3, y.4, sym e ∙ y.5))
then_apart (inr x) h = inr x

outer_apart : {start p : Tall Program} {before after : List Item} → SpellsOuter start before after p → Apart before after
outer_apart programs.none = inl refl
outer_apart (programs.then_definition d) = then_apart (outer_apart d) (λ y. let e = y.5 in cc)
outer_apart (programs.then_cells d x) = then_apart (outer_apart d) (cells_apart x)
outer_apart (programs.then_objects d x) = then_apart (outer_apart d) (objects_apart x)
outer_apart (programs.then_slots d x) = then_apart (outer_apart d) (slots_apart x)
outer_apart (programs.then_function d x) = then_apart (outer_apart d) (function_apart x)

-- ---- by the tokens

four : (a b c d : Bool) → cond a (cond b (cond c d false) false) false ≡ true → (a ≡ true) × (b ≡ true) × (c ≡ true) × (d ≡ true)
four true true true true e = (refl, refl, refl, refl)
four true true true false e = absurd cc
four true true false d e = absurd cc
four true false c d e = absurd cc
four false b c d e = absurd cc

module _ {Token : Type 0} (v : Sight Token) where
  at_alike : (g : Item → Bool) (x y : List Token) → map v.item x ≡ map v.item y → is_at (λ u. g (v.item u)) x ≡ is_at (λ u. g (v.item u)) y
  at_alike g [] [] e = refl
  at_alike g [] (t ∷ y) e = absurd cc
  at_alike g (u ∷ x) [] e = absurd cc
  at_alike g (u ∷ x) (t ∷ y) e = let p : v.item u ≡ v.item t = cc in ap g p

  then_alike : (g : Item → Bool) (more : List Token → Bool) → ((x y : List Token) → map v.item x ≡ map v.item y → more x ≡ more y) → (x y : List Token) → map v.item x ≡ map v.item y → comes_then (λ u. g (v.item u)) more x ≡ comes_then (λ u. g (v.item u)) more y
  then_alike g more h [] [] e = refl
  then_alike g more h [] (t ∷ y) e = absurd cc
  then_alike g more h (u ∷ x) [] e = absurd cc
  then_alike g more h (u ∷ x) (t ∷ y) e = let p : v.item u ≡ v.item t = cc in let q : map v.item x ≡ map v.item y = cc in rw (p, h x y q) refl

  -- tokens that are seen alike wait alike
  pub comes_alike : (x y : List Token) → map v.item x ≡ map v.item y → wait_comes v x ≡ wait_comes v y
  comes_alike =
      then_alike (λ t. is_word w.Void (what_at t)) (word_comes v)
      (then_alike (λ t. is_word w.ControlledWait (what_at t)) (open_comes v) (then_alike (λ t. is_sign s.LeftParenthesis (what_at t)) (type_comes v) (at_alike (λ t. is_word w.Condition (what_at t)))))

module _ {Token Definitions : Type 0} (views : Views Token Definitions) (still : (d : Definitions) (u : Token) → is_plain ((views.sight d).item u) ≡ true → views.then d u ≡ d) where
  abbrev v0 : Sight Token
  v0 = views.sight views.none

  -- a token that is no definition, and those behind it
  run_one : (u : Token) (t : Item) (ts : List Token) → v0.item u ≡ t → is_plain t ≡ true → running views views.none (u ∷ ts) ≡ t ∷ running views views.none ts
  run_one u t ts e p = rw (still views.none u (ap is_plain e ∙ p), e) refl

  waits_so : (ts : List Token) → wait_comes v0 ts ≡ true → BeginsWait (running views views.none ts)
  waits_so [] e = absurd cc
  waits_so (u1 ∷ []) e = absurd (shut (is_fixed v0 w.Void u1) false false false e)
    where
      shut : (a b c d : Bool) → cond a false false ≡ true → ⊥
      shut true b c d e = cc
      shut false b c d e = cc
  waits_so (u1 ∷ u2 ∷ []) e = let x = four (is_fixed v0 w.Void u1) (is_fixed v0 w.ControlledWait u2) false false e in absurd (differs x.2)
    where
      differs : false ≡ true → ⊥
      differs e = cc
  waits_so (u1 ∷ u2 ∷ u3 ∷ []) e = let x = four (is_fixed v0 w.Void u1) (is_fixed v0 w.ControlledWait u2) (is v0 s.LeftParenthesis u3) false e in absurd (differs x.3)
    where
      differs : false ≡ true → ⊥
      differs e = cc
  waits_so (u1 ∷ u2 ∷ u3 ∷ u4 ∷ ts) e =
      let x = four (is_fixed v0 w.Void u1) (is_fixed v0 w.ControlledWait u2) (is v0 s.LeftParenthesis u3) (is_fixed v0 w.Condition u4) e in (
        line v0 u1,
        line v0 u2,
        line v0 u3,
        line v0 u4,
        running views views.none ts,
        run_one u1 (fixed (line v0 u1) w.Void) (u2 ∷ u3 ∷ u4 ∷ ts) (fixed_at v0 u1 w.Void x.0) refl
            ∙ ap (λ (r : List Item). fixed (line v0 u1) w.Void ∷ r) (run_one u2 (fixed (line v0 u2) w.ControlledWait) (u3 ∷ u4 ∷ ts) (fixed_at v0 u2 w.ControlledWait x.1) refl
            ∙ ap (λ (r : List Item). fixed (line v0 u2) w.ControlledWait ∷ r) (run_one u3 (sign (line v0 u3) s.LeftParenthesis) (u4 ∷ ts) (sign_at v0 u3 s.LeftParenthesis x.2) refl
            ∙ ap (λ (r : List Item). sign (line v0 u3) s.LeftParenthesis ∷ r) (run_one u4 (fixed (line v0 u4) w.Condition) ts (fixed_at v0 u4 w.Condition x.3) refl))),
      )

  -- behind the capacities of a program no further declaration comes
  pub nothing_waits : {start p : Tall Program} {mid : List Item} → SpellsOuter start mid [] p → (ts : List Token) → running views views.none ts ≡ mid → wait_comes v0 ts ≡ false
  nothing_waits {mid = mid} d ts e = go (wait_comes v0 ts) refl
    where
      empty : BeginsWait [] → ⊥
      empty y = let e = y.5 in cc

      never : Apart mid [] → BeginsWait mid → ⊥
      never (inl q) y = empty (y.0, y.1, y.2, y.3, y.4, sym q ∙ y.5)
      never (inr h) y = h y

      go : (b : Bool) → wait_comes v0 ts ≡ b → b ≡ false
      go false q = refl
      go true q = let y = waits_so ts q in absurd (never (outer_apart d) (y.0, y.1, y.2, y.3, y.4, sym e ∙ y.5))
