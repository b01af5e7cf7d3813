-- What the grammar spells, from what is known of single tokens.
use Rattle.std.proofs.Common.{rules, ◌≡◌, ℕ, suc, Bool, true, false, nat_eq, if◌then◌else◌, List, ◌∷◌, Option, Some, None, refl, sym, ap, subst}
use Rattle.std.proofs.lemmas.Bool.{eqb-true}
use denote.Enum.Bare.{same_true}
use Rattle.c_lexer.specs.contracts.token.Sign.{the_type}
use Rattle.c_lexer.specs.declared.token.Sign.{Sign}
use Rattle.c_lexer.specs.declared.token.Sign.TheVariants as s
use Rattle.c_tree.specs.declared.expr.Op.{Op}
use Rattle.c_tree.specs.Expressions as tree
use Rattle.c_tree.specs.Expressions.{Expr, Place}
use Rattle.c_grammar.specs.declared.words.FixedWord.TheVariants as w
use Rattle.c_grammar.specs.Items.{What, Item, at, sign, fixed, name_of, spelling}
use Rattle.c_grammar.specs.Levels.{Tall, over}
use Rattle.c_grammar.specs.Expressions as g
use Rattle.c_grammar.specs.Expressions.{operator, looseness, loosest, joined, SpellsCast, SpellsPrimary, SpellsUnary, SpellsExpression, SpellsPlace, SpellsAddress}
use Rattle.c_expressions.specs.declared.token.Inner.TheVariants as i
use Rattle.c_expressions.specs.Words.{same_sign, is_sign, Head, head, by_name, inner}
use Rattle.c_expressions.specs.Parsers.{what_at, is_cast_inner, operator_of, if_loose, argument_of, negation, opposite, wrapped, element, pointer_name, scalar, member}

sign_is : (a b : Sign) → same_sign a b ≡ true → a ≡ b
unfolding same_sign
sign_is a b e = same_true the_type (search rules) a b e

-- a sign by its test
pub is_sign_only : (x : Sign) (a : What) → is_sign x a ≡ true → a ≡ What.Sign x
is_sign_only x (What.Sign z) e = ap (λ (w : Sign). What.Sign w) (sym (sign_is x z e))
is_sign_only x _ e = absurd cc

-- ---- heads

named_word : (o : Option (List ℕ)) (n : List ℕ) → by_name o ≡ Head.Word n → o ≡ Some n
named_word None n e = absurd cc
named_word (Some m) n e = cc

not_named : (o : Option (List ℕ)) (h : Head) → by_name o ≡ h → (h ≡ Head.Open → ⊥) × (h ≡ Head.Not → ⊥) × (h ≡ Head.Minus → ⊥)
not_named None h e = (λ d. cc, λ d. cc, λ d. cc)
not_named (Some n) h e = (λ d. cc, λ d. cc, λ d. cc)

pub head_value : (a : What) (n : ℕ) → head a ≡ Head.Value n → a ≡ What.Number n
head_value (What.Number m) n e = cc
head_value (What.Sign s.LeftParenthesis) n e = absurd cc
head_value (What.Sign s.Not) n e = absurd cc
head_value (What.Sign s.Minus) n e = absurd cc
head_value a n e = absurd (differ (name_of a) e)
  where
    differ : (o : Option (List ℕ)) → by_name o ≡ Head.Value n → ⊥
    differ None e = cc
    differ (Some m) e = cc

pub head_word : (a : What) (n : List ℕ) → head a ≡ Head.Word n → name_of a ≡ Some n
head_word (What.Number m) n e = absurd cc
head_word (What.Sign s.LeftParenthesis) n e = absurd cc
head_word (What.Sign s.Not) n e = absurd cc
head_word (What.Sign s.Minus) n e = absurd cc
head_word a n e = named_word (name_of a) n e

pub head_open : (a : What) → head a ≡ Head.Open → a ≡ What.Sign s.LeftParenthesis
head_open (What.Number m) e = absurd cc
head_open (What.Sign s.LeftParenthesis) e = refl
head_open (What.Sign s.Not) e = absurd cc
head_open (What.Sign s.Minus) e = absurd cc
head_open a e = absurd ((not_named (name_of a) Head.Open e).0 refl)

pub head_not : (a : What) → head a ≡ Head.Not → a ≡ What.Sign s.Not
head_not (What.Number m) e = absurd cc
head_not (What.Sign s.LeftParenthesis) e = absurd cc
head_not (What.Sign s.Not) e = refl
head_not (What.Sign s.Minus) e = absurd cc
head_not a e = absurd ((not_named (name_of a) Head.Not e).1 refl)

pub head_minus : (a : What) → head a ≡ Head.Minus → a ≡ What.Sign s.Minus
head_minus (What.Number m) e = absurd cc
head_minus (What.Sign s.LeftParenthesis) e = absurd cc
head_minus (What.Sign s.Not) e = absurd cc
head_minus (What.Sign s.Minus) e = refl
head_minus a e = absurd ((not_named (name_of a) Head.Minus e).2 refl)

pub inner_int : (a : What) → inner a ≡ i.Int → a ≡ What.Fixed w.Int
inner_int (What.Fixed w.Int) e = refl
inner_int _ e = absurd cc

pub inner_long : (a : What) → inner a ≡ i.Long → a ≡ What.Fixed w.Long
inner_long (What.Fixed w.Long) e = refl
inner_long _ e = absurd cc

pub inner_pointer : (a : What) → inner a ≡ i.Pointer → a ≡ What.Fixed w.IntPointer
inner_pointer (What.Fixed w.IntPointer) e = refl
inner_pointer _ e = absurd cc

-- ---- casts

pub cast_spelled : (l m : ℕ) (t : Item) (rest : List Item) → is_cast_inner (inner (what_at t)) ≡ true → SpellsCast (sign l s.LeftParenthesis ∷ t ∷ sign m s.RightParenthesis ∷ rest) rest
cast_spelled l m (at k (What.Fixed w.Long)) rest e = g.long
cast_spelled l m (at k (What.Fixed w.IntPointer)) rest e = g.int_pointer
cast_spelled l m (at k _) rest e = absurd cc

pub int_spelled : (l m : ℕ) (t1 t2 t3 t4 t5 : Item) (rest : List Item) (n : List ℕ) → is_sign s.RightParenthesis (what_at t1) ≡ true → is_sign s.LeftParenthesis (what_at t2) ≡ true
    → is_cast_inner (inner (what_at t3)) ≡ true → is_sign s.RightParenthesis (what_at t4) ≡ true → name_of (what_at t5) ≡ Some n
    → SpellsPrimary (sign l s.LeftParenthesis ∷ fixed m w.Int ∷ t1 ∷ t2 ∷ t3 ∷ t4 ∷ t5 ∷ rest) rest (argument_of n)
int_spelled l m (at l1 a1) (at l2 a2) t3 (at l4 a4) (at l5 a5) rest n e1 e2 e3 e4 e5 =
    rw (is_sign_only s.RightParenthesis a1 e1, is_sign_only s.LeftParenthesis a2 e2, is_sign_only s.RightParenthesis a4 e4)
    (g.int_argument (cast_spelled l2 l4 t3 (at l5 a5 ∷ rest) e3) e5)

pub argument_spelled : (l : ℕ) (t1 t2 t3 : Item) (rest : List Item) (n : List ℕ) → is_cast_inner (inner (what_at t1)) ≡ true → is_sign s.RightParenthesis (what_at t2) ≡ true → name_of (what_at t3) ≡ Some n
    → SpellsPrimary (sign l s.LeftParenthesis ∷ t1 ∷ t2 ∷ t3 ∷ rest) rest (argument_of n)
argument_spelled l t1 (at l2 a2) (at l3 a3) rest n e1 e2 e3 = rw (is_sign_only s.RightParenthesis a2 e2) (g.argument (cast_spelled l l2 t1 (at l3 a3 ∷ rest) e1) e3)

-- ---- parentheses and names

pub name_spelled : (t : Item) (rest : List Item) (n : List ℕ) → name_of (what_at t) ≡ Some n → SpellsPrimary (t ∷ rest) rest (over (tree.Name n) 0)
name_spelled (at l a) rest n e = g.name e

-- an operand is an expression
pub whole : (ts rest : List Item) (e : Tall Expr) → SpellsUnary ts rest e → SpellsExpression loosest ts rest e
whole ts rest e d = g.tighter (g.tighter (g.tighter (g.tighter (g.tighter (g.tighter (g.unary d))))))

pub parentheses_spelled : (l : ℕ) (t : Item) (ts rest : List Item) (e : Tall Expr) → is_sign s.RightParenthesis (what_at t) ≡ true → SpellsExpression loosest ts (t ∷ rest) e
    → SpellsPrimary (sign l s.LeftParenthesis ∷ ts) rest (wrapped e)
parentheses_spelled l (at m a) ts rest e q d = g.parentheses (subst (λ (x : What). SpellsExpression loosest ts (at m x ∷ rest) e) (is_sign_only s.RightParenthesis a q) d)

pub pointer_spelled : (l : ℕ) (t1 t2 : Item) (rest : List Item) → what_at t1 ≡ What.Fixed w.IntPointer → is_sign s.RightParenthesis (what_at t2) ≡ true
    → SpellsPrimary (sign l s.LeftParenthesis ∷ t1 ∷ t2 ∷ rest) rest pointer_name
pointer_spelled l (at l1 a1) t2 rest e1 e2 =
    parentheses_spelled l t2 (at l1 a1 ∷ t2 ∷ rest) rest (over (tree.Name (spelling w.IntPointer)) 0) e2
    (rw e1 (whole (at l1 (What.Fixed w.IntPointer) ∷ t2 ∷ rest) (t2 ∷ rest) (over (tree.Name (spelling w.IntPointer)) 0) (g.primary (g.name refl))))

pub element_spelled : (t1 t2 t3 : Item) (ts rest : List Item) (n : List ℕ) (e : Tall Expr) → name_of (what_at t1) ≡ Some n → is_sign s.LeftBracket (what_at t2) ≡ true → is_sign s.RightBracket (what_at t3) ≡ true
    → SpellsExpression loosest ts (t3 ∷ rest) e → SpellsPrimary (t1 ∷ t2 ∷ ts) rest (element n e)
element_spelled (at l1 a1) (at l2 a2) (at l3 a3) ts rest n e e1 e2 e3 d = rw (is_sign_only s.LeftBracket a2 e2) (g.element e1 (subst (λ (x : What). SpellsExpression loosest ts (at l3 x ∷ rest) e) (is_sign_only s.RightBracket a3 e3) d))

-- ---- tokens as heads

pub number_spelled : (t : Item) (rest : List Item) (n : ℕ) → head (what_at t) ≡ Head.Value n → SpellsUnary (t ∷ rest) rest (over (tree.Number n) 0)
number_spelled (at l a) rest n e = rw (head_value a n e) (g.primary g.number)

pub opened_spelled : (t : Item) (ts rest : List Item) (e : Tall Expr) → head (what_at t) ≡ Head.Open → ((l : ℕ) → SpellsPrimary (sign l s.LeftParenthesis ∷ ts) rest e) → SpellsUnary (t ∷ ts) rest e
opened_spelled (at l a) ts rest e q d = rw (head_open a q) (g.primary (d l))

pub not_spelled : (t : Item) (ts rest : List Item) (e : Tall Expr) → head (what_at t) ≡ Head.Not → SpellsUnary ts rest e → SpellsUnary (t ∷ ts) rest (negation e)
not_spelled (at l a) ts rest e q d = rw (head_not a q) (g.not d)

pub minus_spelled : (t : Item) (ts rest : List Item) (e : Tall Expr) → head (what_at t) ≡ Head.Minus → SpellsUnary ts rest e → SpellsUnary (t ∷ ts) rest (opposite e)
minus_spelled (at l a) ts rest e q d = rw (head_minus a q) (g.minus d)

-- ---- operators

loose_is : (k : ℕ) (m : Option Op) (o : Op) → if_loose k m ≡ Some o → (m ≡ Some o) × (looseness o ≡ suc k)
loose_is k None o e = absurd cc
loose_is k (Some p) o e = go (nat_eq (looseness p) (suc k)) refl e
  where
    go : (b : Bool) → nat_eq (looseness p) (suc k) ≡ b → (if b then Some p else None) ≡ Some o → (Some p ≡ Some o) × (looseness o ≡ suc k)
    go true q e = let same : p ≡ o = cc in (e, rw (sym same) (eqb-true (looseness p) (suc k) q))
    go false q e = absurd cc

pub binary_spelled : (k : ℕ) (t : Item) (ts mid rest : List Item) (a b : Tall Expr) (o : Op) → if_loose k (operator_of (what_at t)) ≡ Some o
    → SpellsExpression (suc k) ts (t ∷ mid) a → SpellsExpression k mid rest b → SpellsExpression (suc k) ts rest (joined o a b)
binary_spelled k (at l (What.Sign x)) ts mid rest a b o e d f = let p = loose_is k (operator x) o e in g.binary d p.0 p.1 f
binary_spelled k (at l _) ts mid rest a b o e d f = absurd cc

-- ---- places

pub scalar_spelled : (t : Item) (rest : List Item) (n : List ℕ) → name_of (what_at t) ≡ Some n → SpellsPlace (t ∷ rest) rest (scalar n)
scalar_spelled (at l a) rest n e = g.scalar e

pub member_spelled : (t1 t2 t3 : Item) (ts rest : List Item) (n : List ℕ) (e : Tall Expr) → name_of (what_at t1) ≡ Some n → is_sign s.LeftBracket (what_at t2) ≡ true → is_sign s.RightBracket (what_at t3) ≡ true
    → SpellsExpression loosest ts (t3 ∷ rest) e → SpellsPlace (t1 ∷ t2 ∷ ts) rest (member n e)
member_spelled (at l1 a1) (at l2 a2) (at l3 a3) ts rest n e e1 e2 e3 d =
    rw (is_sign_only s.LeftBracket a2 e2) (g.member e1 (subst (λ (x : What). SpellsExpression loosest ts (at l3 x ∷ rest) e) (is_sign_only s.RightBracket a3 e3) d))

pub address_spelled : (t : Item) (ts rest : List Item) (p : Tall Place) → is_sign s.Ampersand (what_at t) ≡ true → SpellsPlace ts rest p → SpellsAddress (t ∷ ts) rest p
address_spelled (at l a) ts rest p e d = rw (is_sign_only s.Ampersand a e) (g.address d)
