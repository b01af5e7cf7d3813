-- Where more is known, what was constant is so, with the same value.
use Rattle.std.specs.Prelude.{◌≡◌, ℕ, ℤ, Bool, true, false, is_some, if◌then◌else◌, List, [], ◌∷◌, bytes_eq, Some, None, option_map, option_and_then, ⊤}
use Rattle.std.specs.declared.option.Option.{Option}
use Rattle.std.proofs.Common.{refl, ap, ◌∙◌}
use Rattle.c_tree.specs.declared.expr.Op.{Op}
use Rattle.c_tree.specs.declared.expr.Op.TheVariants as op
use Rattle.c_tree.specs.Expressions as tree
use Rattle.c_tree.specs.Expressions.{Expr, Exprs, Number, Name, Element, Arg, Not, Minus, Binary, Place}
use Rattle.c_tree.specs.Values.{Values, value, combined, strict, applied, truth, is_true}
use Rattle.c_tree.specs.Bare as bare
use Rattle.c_tree.specs.Numbering.{mutex_of}
use Rattle.c_tree.specs.Lined.{Stmt, Stmts, Nil, Cons, Declare}
use Rattle.c_meaning.proofs.Reading.{both_true, and_of}
use Rattle.contexts.specs.Constants.{Constants, Weaker, among, is_built, constant_in, constant_values, with_value, without, known_declared, known_after, known_end, declared}
use Rattle.contexts.specs.Resolved.{resolved, known_index, constants_of, passed}

-- ---- values

-- what is defined is so in more
abbrev pub Grows : Option ℤ → Option ℤ → Type 0
Grows a b = (z : ℤ) → a ≡ Some z → b ≡ Some z

pub then_grows : (f : ℤ → Option ℤ) (a b : Option ℤ) → Grows a b → Grows (option_and_then f a) (option_and_then f b)
then_grows f None b grows z e = absurd (cc e)
then_grows f (Some x) b grows z e = ap (option_and_then f) (grows x refl) ∙ e

pub map_grows : (f : ℤ → ℤ) (a b : Option ℤ) → Grows a b → Grows (option_map f a) (option_map f b)
map_grows f None b grows z e = absurd (cc e)
map_grows f (Some x) b grows z e = ap (option_map f) (grows x refl) ∙ e

if_grows : (c : Bool) (a b a' b' : Option ℤ) → Grows a a' → Grows b b' → Grows (if c then a else b) (if c then a' else b')
if_grows true a b a' b' ga gb = ga
if_grows false a b a' b' ga gb = gb

itself : (a : Option ℤ) → Grows a a
itself a z e = e

strict_grows : (o : Op) (l r l' r' : Option ℤ) → Grows l l' → Grows r r' → Grows (strict o l r) (strict o l' r')
strict_grows o None r l' r' gl gr z e = absurd (cc e)
strict_grows o (Some a) r l' r' gl gr z e = ap (λ l. strict o l r') (gl a refl) ∙ then_grows (applied o a) r r' gr z e

combined_grows : (o : Op) (l r l' r' : Option ℤ) → Grows l l' → Grows r r' → Grows (combined o l r) (combined o l' r')
combined_grows op.Or None r l' r' gl gr z e = absurd (cc e)
combined_grows op.Or (Some a) r l' r' gl gr z e =
    ap (λ l. combined op.Or l r') (gl a refl) ∙ if_grows (is_true a) _ _ _ _ (itself _) (map_grows (λ b. truth (is_true b)) r r' gr) z e
combined_grows op.And None r l' r' gl gr z e = absurd (cc e)
combined_grows op.And (Some a) r l' r' gl gr z e =
    ap (λ l. combined op.And l r') (gl a refl) ∙ if_grows (is_true a) _ _ _ _ (map_grows (λ b. truth (is_true b)) r r' gr) (itself _) z e
combined_grows o l r l' r' gl gr z e = strict_grows o l r l' r' gl gr z e

-- in any values where the names that are known have theirs
pub value_grows : (known : Constants) (w : Values) (x : Expr) → ((name : List ℕ) → Grows (known name) (w.scalar name)) → Grows (value (constant_values known) x) (value w x)
value_grows known w (Number k) more = itself _
value_grows known w (Name name) more = more name
value_grows known w (Element name index) more = λ z e. absurd (nothing (value (constant_values known) index) z e)
  where
    nothing : (o : Option ℤ) (z : ℤ) → option_and_then (λ i. None) o ≡ Some z → ⊥
    nothing None z e = cc e
    nothing (Some i) z e = cc e
value_grows known w (Arg name) more = more name
value_grows known w (Not x) more = map_grows _ _ _ (value_grows known w x more)
value_grows known w (Minus x) more = then_grows _ _ _ (value_grows known w x more)
value_grows known w (Binary o l r) more = combined_grows o _ _ _ _ (value_grows known w l more) (value_grows known w r more)

-- ---- constants

some_grows : (a b : Option ℤ) → Grows a b → is_some a ≡ true → is_some b ≡ true
some_grows None b grows e = absurd (cc e)
some_grows (Some z) b grows e = ap is_some (grows z refl)

built_grows : (less known : Constants) → Weaker less known → (x : Expr) → is_built less x ≡ true → is_built known x ≡ true
built_grows less known w (Number n) e = refl
built_grows less known w (Name name) e = some_grows (less name) (known name) (w name) e
built_grows less known w (Element name index) e = absurd (cc e)
built_grows less known w (Arg name) e = some_grows (less name) (known name) (w name) e
built_grows less known w (Not x) e = built_grows less known w x e
built_grows less known w (Minus x) e = built_grows less known w x e
built_grows less known w (Binary o l r) e =
    let parts = both_true (is_built less l) (is_built less r) e in
    and_of (is_built known l) (is_built known r) (built_grows less known w l parts.0) (built_grows less known w r parts.1)

-- the value of what is constant
pub constant_value : (known : Constants) (x : Expr) (z : ℤ) → constant_in known x ≡ Some z → value (constant_values known) x ≡ Some z
constant_value known x z e = by (is_built known x) e
  where
    by : (b : Bool) → (if b then value (constant_values known) x else None) ≡ Some z → value (constant_values known) x ≡ Some z
    by true e = e
    by false e = absurd (cc e)

pub constant_grows : (less known : Constants) → Weaker less known → (x : Expr) → Grows (constant_in less x) (constant_in known x)
constant_grows less known w x z e = by (is_built less x) refl e
  where
    by : (b : Bool) → is_built less x ≡ b → (if b then value (constant_values less) x else None) ≡ Some z → constant_in known x ≡ Some z
    by true is e = ap (λ b. if b then value (constant_values known) x else None) (built_grows less known w x is) ∙ value_grows less (constant_values known) x w z e
    by false is e = absurd (cc e)

pub resolved_grows : (p : bare.Program) (less known : Constants) → Weaker less known → (place : Place) (r : ℕ) → resolved p less place ≡ Some r → resolved p known place ≡ Some r
resolved_grows p less known w place r e = by place.index e
  where
    found : (x : Expr) (o : Option ℤ) → constant_in less x ≡ o → option_and_then (mutex_of p place.name) (option_map (λ z. Some z) o) ≡ Some r
        → option_and_then (mutex_of p place.name) (known_index known (Some x)) ≡ Some r
    found x None is e = absurd (cc e)
    found x (Some z) is e = ap (λ o. option_and_then (mutex_of p place.name) (option_map (λ z. Some z) o)) (constant_grows less known w x z is) ∙ e

    by : (index : Option Expr) → option_and_then (mutex_of p place.name) (known_index less index) ≡ Some r
        → option_and_then (mutex_of p place.name) (known_index known index) ≡ Some r
    by None e = e
    by (Some x) e = found x (constant_in less x) refl e

-- ---- what is known behind statements

pub with_grows : (less known : Constants) → Weaker less known → (name : List ℕ) (a b : Option ℤ) → Grows a b → Weaker (with_value less name a) (with_value known name b)
with_grows less known w name a b grows q z e = by (bytes_eq q name) e
  where
    by : (c : Bool) → (if c then a else less q) ≡ Some z → (if c then b else known q) ≡ Some z
    by true e = grows z e
    by false e = w q z e

pub without_grows : (names : List (List ℕ)) (less known : Constants) → Weaker less known → Weaker (without names less) (without names known)
without_grows names less known w q z e = if_grows (among names q) None (less q) None (known q) (itself None) (w q) z e

masked : (c : Bool) (a b : Option ℤ) → Grows a b → Grows (if c then None else a) (if c then None else b)
masked c a b grows = if_grows c None a None b (itself None) grows

declared_grows : (writes : List (List ℕ)) (less known : Constants) → Weaker less known → (name : List ℕ) (e : Option Expr) → Grows (known_declared writes less name e) (known_declared writes known name e)
declared_grows writes less known w name None z e = e
declared_grows writes less known w name (Some x) z e = masked (among writes name) _ _ (constant_grows less known w x) z e

pub after_grows : (writes : List (List ℕ)) (less known : Constants) → Weaker less known → (s : Stmt) → Weaker (known_after writes less s) (known_after writes known s)
after_grows writes less known w (Declare line name e) = with_grows less known w name _ _ (declared_grows writes less known w name e)
after_grows writes less known w s = without_grows (declared s) less known w

pub end_grows : (writes : List (List ℕ)) (less known : Constants) → Weaker less known → (ss : Stmts) → Weaker (known_end writes less ss) (known_end writes known ss)
end_grows writes less known w Nil = w
end_grows writes less known w (Cons s rest) = end_grows writes (known_after writes less s) (known_after writes known s) (after_grows writes less known w s) rest

-- ---- arguments

-- each argument that is constant is so with more
abbrev pub GrowAll : List (Option ℤ) → List (Option ℤ) → Type 0
GrowAll [] [] = ⊤
GrowAll [] (y ∷ ys) = ⊥
GrowAll (x ∷ xs) [] = ⊥
GrowAll (x ∷ xs) (y ∷ ys) = Grows x y × GrowAll xs ys

pub args_grow : (less known : Constants) → Weaker less known → (es : Exprs) → GrowAll (constants_of less es) (constants_of known es)
args_grow less known w tree.Nil = tt
args_grow less known w (tree.Cons e es) = (constant_grows less known w e, args_grow less known w es)

pub passed_grow : (writes names : List (List ℕ)) (xs ys : List (Option ℤ)) → GrowAll xs ys → Weaker (passed writes names xs) (passed writes names ys)
passed_grow writes [] xs ys grow = λ name z e. e
passed_grow writes (name ∷ names) [] [] grow = λ name z e. e
passed_grow writes (name ∷ names) [] (y ∷ ys) grow = absurd grow
passed_grow writes (name ∷ names) (x ∷ xs) [] grow = absurd grow
passed_grow writes (name ∷ names) (x ∷ xs) (y ∷ ys) grow =
    with_grows _ _ (passed_grow writes names xs ys grow.1) name _ _ (masked (among writes name) x y grow.0)
