-- The layouts of expressions and places are parted.
use Rattle.std.proofs.Common.{◌≡◌, ℕ, ◌<◌, Bool, true, false, List, [], ◌∷◌, ◌++◌, codes, length, refl, sym, subst, arith, append_assoc, Option, Some, None}
use Rattle.std.specs.Prelude.{◌≤◌, ◌&&◌, nat_lt, nat_le}
use Rattle.std.specs.List.{list_all}
use Rattle.std.specs.Fmt.{decimal}
use Rattle.std.proofs.lemmas.Fmt.{decimal_nonempty}
use Rattle.c_lexer.specs.declared.token.Sign.{Sign}
use Rattle.c_lexer.specs.declared.token.Sign.TheVariants as s
use Rattle.c_lexer.specs.Classes.{is_letter, is_digit, is_word}
use Rattle.c_lexer.specs.Words.{largest}
use Rattle.c_layout.specs.Layout.{Item, text, word, sign, space, IsName}
use Rattle.c_layout.specs.Laws.{Stops, goes_on}
use Rattle.c_layout.proofs.Fitting.{both, numeral, digit_facts}
use Rattle.c_tree.specs.declared.expr.Op.{Op}
use Rattle.c_tree.specs.declared.expr.Op.TheVariants as op
use Rattle.c_tree.specs.Expressions.{Expr, Exprs, Number, Name, Element, Arg, Not, Minus, Binary, Place}
use Rattle.c_tree.specs.Expressions as tree
use Rattle.c_canonical.specs.Expressions.{expression, expressions, wrapped, in_brackets, spaced, is_binary, is_minus, operator, sign_of, strength, binding, index, place, followed, separated}
use Rattle.c_canonical.specs.Writable.{IsWritable, AreWritable, IsWritableIfAny, IsWritablePlace}
use Rattle.c_canonical.proofs.Parts.{Joins, joins_append, nothing, word_then, number_then, sign_then, free_then, gap_then, Quiet, quiet_stops, BeforeWords, not_before, minus_before}

-- ---- what a word begins with

pub name_stops : (x : Sign) (w rest : List ℕ) → BeforeWords x → IsName w → Stops (goes_on x) (w ++ rest)
unfolding is_word
name_stops x [] rest b n = absurd (cc)
name_stops x (c ∷ w) rest b n =
    let outer = both (is_letter c && list_all is_word (c ∷ w)) _ n in
    let inner = both (is_letter c) (list_all is_word (c ∷ w)) outer.0 in
    b c ((both (is_word c) (list_all is_word w) inner.1).0)

pub number_stops : (x : Sign) (n : ℕ) (rest : List ℕ) → BeforeWords x → n ≤ largest → Stops (goes_on x) (decimal n ++ rest)
number_stops x n rest b h = by (decimal n) (decimal_nonempty n (omega arith)) (numeral n (omega arith)).digits
  where
    by : (w : List ℕ) → 0 < length w → list_all is_digit w ≡ true → Stops (goes_on x) (w ++ rest)
    by [] some all = absurd (omega arith)
    by (d ∷ w) some all = b d (digit_facts d (both (is_digit d) (list_all is_digit w) all).0).1

-- ---- parentheses and brackets

pub wrapped_joins : (x : Bool) (items : List Item) (rest : List ℕ) → Quiet rest → ((r : List ℕ) → Quiet r → Joins items r) → Joins (wrapped x items) rest
wrapped_joins false items rest q h = h rest q
wrapped_joins true items rest q h =
    free_then s.LeftParenthesis (λ c. refl) (items ++ sign s.RightParenthesis ∷ []) rest
    (joins_append items (sign s.RightParenthesis ∷ []) rest (h (41 ∷ rest) refl) (free_then s.RightParenthesis (λ c. refl) [] rest (nothing rest)))

pub brackets_join : (items : List Item) (rest : List ℕ) → Joins items (93 ∷ rest) → Joins (in_brackets items) rest
brackets_join items rest h =
    free_then s.LeftBracket (λ c. refl) (items ++ sign s.RightBracket ∷ []) rest
    (joins_append items (sign s.RightBracket ∷ []) rest h (free_then s.RightBracket (λ c. refl) [] rest (nothing rest)))

-- ---- the sign before an operand

not_stops : (a : Expr) (rest : List ℕ) → IsWritable a → Stops (goes_on s.Not) (text (wrapped (is_binary a) (expression a)) ++ rest)
not_stops (Number n) rest f = subst (Stops (goes_on s.Not)) (sym (append_assoc (decimal n) [] rest)) (number_stops s.Not n ([] ++ rest) not_before f)
not_stops (Name x) rest f = subst (Stops (goes_on s.Not)) (sym (append_assoc x [] rest)) (name_stops s.Not x ([] ++ rest) not_before f)
not_stops (Element x i) rest f = subst (Stops (goes_on s.Not)) (sym (append_assoc x (text (in_brackets (expression i))) rest)) (name_stops s.Not x (text (in_brackets (expression i)) ++ rest) not_before f.0)
not_stops (Arg x) rest f = refl
not_stops (Not a) rest f = refl
not_stops (Minus a) rest f = refl
not_stops (Binary o a b) rest f = refl

minus_stops : (a : Expr) (rest : List ℕ) → IsWritable a → is_minus a ≡ false → Stops (goes_on s.Minus) (text (wrapped (is_binary a) (expression a)) ++ rest)
minus_stops (Number n) rest f m = subst (Stops (goes_on s.Minus)) (sym (append_assoc (decimal n) [] rest)) (number_stops s.Minus n ([] ++ rest) minus_before f)
minus_stops (Name x) rest f m = subst (Stops (goes_on s.Minus)) (sym (append_assoc x [] rest)) (name_stops s.Minus x ([] ++ rest) minus_before f)
minus_stops (Element x i) rest f m = subst (Stops (goes_on s.Minus)) (sym (append_assoc x (text (in_brackets (expression i))) rest)) (name_stops s.Minus x (text (in_brackets (expression i)) ++ rest) minus_before f.0)
minus_stops (Arg x) rest f m = refl
minus_stops (Not a) rest f m = refl
minus_stops (Minus a) rest f m = absurd (cc)
minus_stops (Binary o a b) rest f m = refl

minus_joins : (a : Expr) (rest : List ℕ) (again : Bool) → is_minus a ≡ again → IsWritable a → Joins (wrapped (is_binary a) (expression a)) rest
    → Joins (sign s.Minus ∷ spaced again (wrapped (is_binary a) (expression a))) rest
minus_joins a rest true e f h = sign_then s.Minus (space ∷ wrapped (is_binary a) (expression a)) rest refl (gap_then (codes " ") (wrapped (is_binary a) (expression a)) rest refl h)
minus_joins a rest false e f h = sign_then s.Minus (wrapped (is_binary a) (expression a)) rest (minus_stops a rest f e) h

-- ---- operators

before_space : (o : Op) → goes_on (sign_of o) 32 ≡ false
before_space op.Or = refl
before_space op.And = refl
before_space op.Eq = refl
before_space op.Ne = refl
before_space op.Lt = refl
before_space op.Le = refl
before_space op.Gt = refl
before_space op.Ge = refl
before_space op.Add = refl
before_space op.Sub = refl
before_space op.Mul = refl
before_space op.Div = refl
before_space op.Rem = refl

operator_joins : (o : Op) (items : List Item) (rest : List ℕ) → Joins items rest → Joins (operator o ++ items) rest
operator_joins o items rest h =
    gap_then (codes " ") (sign (sign_of o) ∷ space ∷ items) rest refl
    (sign_then (sign_of o) (space ∷ items) rest (before_space o) (gap_then (codes " ") items rest refl h))

-- ---- all

pub expression_joins : (e : Expr) (rest : List ℕ) → IsWritable e → Quiet rest → Joins (expression e) rest
unfolding is_word
expression_joins (Number n) rest f q = number_then n [] rest f (quiet_stops rest q) (nothing rest)
expression_joins (Name x) rest f q = word_then x [] rest f (quiet_stops rest q) (nothing rest)
expression_joins (Element x i) rest f q =
    word_then x (in_brackets (expression i)) rest f.0 refl (brackets_join (expression i) rest (expression_joins i (93 ∷ rest) f.1 refl))
expression_joins (Arg x) rest f q =
    free_then s.LeftParenthesis (λ c. refl) _ rest (word_then (codes "int") _ rest refl refl (free_then s.RightParenthesis (λ c. refl) _ rest
    (free_then s.LeftParenthesis (λ c. refl) _ rest (word_then (codes "long") _ rest refl refl (free_then s.RightParenthesis (λ c. refl) _ rest
    (word_then x [] rest f (quiet_stops rest q) (nothing rest)))))))
expression_joins (Not a) rest f q =
    sign_then s.Not (wrapped (is_binary a) (expression a)) rest (not_stops a rest f) (wrapped_joins (is_binary a) (expression a) rest q (λ r k. expression_joins a r f k))
expression_joins (Minus a) rest f q =
    minus_joins a rest (is_minus a) refl f (wrapped_joins (is_binary a) (expression a) rest q (λ r k. expression_joins a r f k))
expression_joins (Binary o a b) rest f q =
    let right = wrapped (nat_le (strength b) (binding o)) (expression b) in
    joins_append (wrapped (nat_lt (strength a) (binding o)) (expression a)) (operator o ++ right) rest
    (wrapped_joins (nat_lt (strength a) (binding o)) (expression a) (text (operator o ++ right) ++ rest) refl (λ r k. expression_joins a r f.0 k))
    (operator_joins o right rest (wrapped_joins (nat_le (strength b) (binding o)) (expression b) rest q (λ r k. expression_joins b r f.1 k)))

-- ---- places

named_joins : (name : List ℕ) (i : Option Expr) (rest : List ℕ) → IsName name → IsWritableIfAny i → Quiet rest → Joins (word name ∷ index i) rest
unfolding is_word
named_joins name None rest n f q = word_then name [] rest n (quiet_stops rest q) (nothing rest)
named_joins name (Some e) rest n f q = word_then name (in_brackets (expression e)) rest n refl (brackets_join (expression e) rest (expression_joins e (93 ∷ rest) f refl))

pub place_joins : (p : Place) (rest : List ℕ) → IsWritablePlace p → Quiet rest → Joins (place p) rest
place_joins p rest f q = named_joins p.name p.index rest f.0 f.1 q

pub place_stops : (x : Sign) (p : Place) (rest : List ℕ) → BeforeWords x → IsWritablePlace p → Stops (goes_on x) (text (place p) ++ rest)
place_stops x p rest b f = subst (Stops (goes_on x)) (sym (append_assoc p.name (text (index p.index)) rest)) (name_stops x p.name (text (index p.index) ++ rest) b f.0)

-- ---- lists

pub followed_quiet : (es : Exprs) (rest : List ℕ) → Quiet rest → Quiet (text (followed (expressions es)) ++ rest)
followed_quiet tree.Nil rest q = q
followed_quiet (tree.Cons e es) rest q = refl

pub followed_joins : (es : Exprs) (rest : List ℕ) → AreWritable es → Quiet rest → Joins (followed (expressions es)) rest
followed_joins tree.Nil rest f q = nothing rest
followed_joins (tree.Cons e es) rest f q =
    free_then s.Comma (λ c. refl) _ rest (gap_then (codes " ") _ rest refl
    (joins_append (expression e) (followed (expressions es)) rest
    (expression_joins e (text (followed (expressions es)) ++ rest) f.0 (followed_quiet es rest q)) (followed_joins es rest f.1 q)))

pub separated_joins : (es : Exprs) (rest : List ℕ) → AreWritable es → Quiet rest → Joins (separated (expressions es)) rest
separated_joins tree.Nil rest f q = nothing rest
separated_joins (tree.Cons e es) rest f q =
    joins_append (expression e) (followed (expressions es)) rest
    (expression_joins e (text (followed (expressions es)) ++ rest) f.0 (followed_quiet es rest q)) (followed_joins es rest f.1 q)
