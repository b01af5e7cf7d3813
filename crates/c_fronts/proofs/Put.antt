-- Tokens that are put before others, none of them a definition.
use Rattle.std.proofs.Common.{◌≡◌, ℕ, Bool, true, false, ◌&&◌, List, [], ◌∷◌, ◌++◌, Some, refl, ap, sym, subst, ◌∙◌, append_assoc}
use Rattle.c_lexer.specs.declared.token.Sign.TheVariants as s
use Rattle.c_grammar.specs.Items.{What, Item, at, sign, name_of, callee, cell_name, function_name}
use Rattle.c_grammar.specs.Commas.{Commas, one, more}
use Rattle.c_fronts.specs.Fronts.{is_plain, all_plain, Takes}

pub both_plain : (a b : List Item) → all_plain a ≡ true → all_plain b ≡ true → all_plain (a ++ b) ≡ true
both_plain [] b p q = q
both_plain (t ∷ a) b p q = go (is_plain t) p (λ h. both_plain a b h q)
  where
    go : (x : Bool) → (x && all_plain a) ≡ true → (all_plain a ≡ true → all_plain (a ++ b) ≡ true) → (x && all_plain (a ++ b)) ≡ true
    go true p h = h p
    go false p h = absurd cc

pub one_plain : (t : Item) (a : List Item) → is_plain t ≡ true → all_plain a ≡ true → all_plain (t ∷ a) ≡ true
one_plain t a p q = rw (p, q) refl

pub record Put : Type 0 where
  pub put : List Item → List Item
  pub front : List Item
  pub plain : all_plain front ≡ true
  pub same : (z : List Item) → put z ≡ front ++ z

abbrev pub nothing : Put
nothing = record { put = λ z. z; front = []; plain = refl; same = λ z. refl }

-- a token, and others
abbrev pub token : (t : Item) → is_plain t ≡ true → Put → Put
token t h p = record { put = λ z. t ∷ p.put z; front = t ∷ p.front; plain = one_plain t p.front h p.plain; same = λ z. ap (λ (w : List Item). t ∷ w) (p.same z) }

-- one after the other
abbrev pub both : Put → Put → Put
both p q = record { put = λ z. p.put (q.put z); front = p.front ++ q.front; plain = both_plain p.front q.front p.plain q.plain; same = λ z. p.same (q.put z) ∙ ap (λ (w : List Item). p.front ++ w) (q.same z) ∙ sym (append_assoc p.front q.front z) }

-- What is spelled takes what is put before the rest.
pub record Taken (R : List Item → List Item → Type 0) (before after : List Item) : Type 0 where
  pub p : Put
  pub parts : before ≡ p.put after
  pub again : (z : List Item) → R (p.put z) z

abbrev pub taken : {R : List Item → List Item → Type 0} {before after : List Item} (p : Put) → before ≡ p.put after → ((z : List Item) → R (p.put z) z) → Taken R before after
taken p e h = record { p = p; parts = e; again = h }

pub takes : {R : List Item → List Item → Type 0} {before after : List Item} → Taken R before after → Takes R before after
takes {R} {before} {after} x = record { front = x.p.front; plain = x.p.plain; parts = x.parts ∙ x.p.same after; again = λ z. subst (λ (w : List Item). R w z) (x.p.same z) (x.again z) }

-- ---- names

pub named : (l : ℕ) (a : What) (n : List ℕ) → name_of a ≡ Some n → is_plain (at l a) ≡ true
named l What.Definition n e = absurd cc
named l What.Repeated n e = absurd cc
named l _ n e = refl

pub called : (l : ℕ) (a : What) (n : List ℕ) → callee a ≡ Some n → is_plain (at l a) ≡ true
called l What.Definition n e = absurd cc
called l What.Repeated n e = absurd cc
called l _ n e = refl

pub celled : (l : ℕ) (a : What) (n : List ℕ) → cell_name a ≡ Some n → is_plain (at l a) ≡ true
celled l What.Definition n e = absurd cc
celled l What.Repeated n e = absurd cc
celled l _ n e = refl

pub functioned : (l : ℕ) (a : What) (n : List ℕ) → function_name a ≡ Some n → is_plain (at l a) ≡ true
functioned l What.Definition n e = absurd cc
functioned l What.Repeated n e = absurd cc
functioned l _ n e = refl

-- ---- lists with commas

pub commas_taken : {A : Type 0} (R : List Item → List Item → A → Type 0) → ((before after : List Item) (x : A) → R before after x → Taken (λ b c. R b c x) before after)
    → {before after : List Item} {all : List A} → Commas R before after all → Taken (λ b c. Commas R b c all) before after
commas_taken R h (one d) = let x = h _ _ _ d in taken x.p x.parts (λ z. one (x.again z))
commas_taken R h (more {l = l} d i) =
    let x = commas_taken R h d in
    let y = h _ _ _ i in
    taken (both x.p (token (sign l s.Comma) refl y.p)) (x.parts ∙ ap (λ (w : List Item). x.p.put (sign l s.Comma ∷ w)) y.parts) (λ z. more (x.again (sign l s.Comma ∷ y.p.put z)) (y.again z))
