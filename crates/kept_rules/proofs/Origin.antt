-- Each site of an edited program is like a site of the program, or a take or a give of a monitor.
use Rattle.std.proofs.Common.{Bool, List, [], false, inl, inr, refl, subst, ℕ, ◌∷◌, ◌≡◌}
use Rattle.std.specs.Prelude.{Contains, IsTrue}
use Rattle.std.specs.List.{enumerate_from}
use Rattle.c_tree.specs.Lined.{Function, Program}
use Rattle.c_rules.specs.Sites.{Site, lines_where, sites, sites_from, sites_in}
use Rattle.c_rules.proofs.Members.{From, In, contains_of, from, from_flat_map, in_flat_map, in_of}
use Rattle.rule_facts.proofs.Tests.{none_listed, none_there}
use Rattle.kept_rules.proofs.Like.{monitor_of}
use Rattle.kept_rules.proofs.Sited.{EditBefore, Like, Sits}
use Rattle.kept_rules.proofs.Sits.{sites_sit}
use Rattle.kept_rules.specs.Edit.{Way, is_monitor_call, puts}
use Rattle.kept_rules.specs.Programs.{AreEdits, IsFunctionEdit}

-- what a site of q comes from
pub data Origin (r : Way) (place : ℕ → ℕ) (p : Program) (x : Site) : Type 0 where
  put : IsTrue (puts r x.stmt) → Origin r place p x
  like : (g : ℕ × Function) (f : Function) (y : Site) → In (place g.0, f) (enumerate_from 0 p.functions) → IsFunctionEdit r g.1 f → In y (sites p)
      → Like r g (place g.0, f) x y → Origin r place p x

-- a site among those that sit beside others
pub data Beside (r : Way) (g f : ℕ × Function) (ys : List Site) (x : Site) : Type 0 where
  put : IsTrue (puts r x.stmt) → Beside r g f ys x
  like : (y : Site) → In y ys → Like r g f x y → Beside r g f ys x

more : (r : Way) (g f : ℕ × Function) (y : Site) (ys : List Site) (x : Site) → Beside r g f ys x → Beside r g f (y ∷ ys) x
more r g f y ys x (Beside.put is) = Beside.put is
more r g f y ys x (Beside.like z at same) = Beside.like z (inr at) same

beside : (r : Way) (g f : ℕ × Function) (xs ys : List Site) (x : Site) → Sits r g f xs ys → In x xs → Beside r g f ys x
beside r g f xs ys x Sits.none at = absurd at
beside r g f xs ys x (Sits.put z us vs is sits) (inl e) = Beside.put (subst (λ s. IsTrue (puts r s.stmt)) e is)
beside r g f xs ys x (Sits.put z us vs is sits) (inr at) = beside r g f us vs x sits at
beside r g f xs ys x (Sits.keep z y us vs same sits) (inl e) = Beside.like y (inl refl) (subst (λ s. Like r g f s y) e same)
beside r g f xs ys x (Sits.keep z y us vs same sits) (inr at) = more r g f y vs x (beside r g f us vs x sits at)

from_beside : (r : Way) (place : ℕ → ℕ) (p : Program) (g : ℕ × Function) (f : Function) (x : Site) → In (place g.0, f) (enumerate_from 0 p.functions)
    → IsFunctionEdit r g.1 f → Beside r g (place g.0, f) (sites_in (place g.0, f)) x → Origin r place p x
from_beside r place p g f x at e (Beside.put is) = Origin.put is
from_beside r place p g f x at e (Beside.like y in_f same) =
    Origin.like g f y at e (in_flat_map sites_in (enumerate_from 0 p.functions) (place g.0, f) y at in_f) same

-- the sites of functions on the same parameters
function_sits : (r : Way) (g f : ℕ × Function) → IsFunctionEdit r g.1 f.1 → Sits r g f (sites_in g) (sites_in f)
function_sits r g f e =
    subst (λ ps. Sits r g f (sites_in g) (sites_from f [] ps f.1.body)) e.params (sites_sit r g f [] [] g.1.params g.1.body f.1.body EditBefore.none e.body)

pub origin : (r : Way) (place : ℕ → ℕ) (q p : Program) (x : Site) → AreEdits r place q p → In x (sites q) → Origin r place p x
origin r place q p x e at = of (from_flat_map sites_in (enumerate_from 0 q.functions) x at)
  where
    of : From sites_in (enumerate_from 0 q.functions) x → Origin r place p x
    of (from g among here) =
        let s = e g (contains_of (enumerate_from 0 q.functions) g among) in
        from_beside r place p g s.function x (in_of (enumerate_from 0 p.functions) (place g.0, s.function) s.listed) s.edit
        (beside r g (place g.0, s.function) (sites_in g) (sites_in (place g.0, s.function)) x (function_sits r g (place g.0, s.function) s.edit) here)

-- ---- lines of sites that pass a test

-- a test that no take and no give passes, and no site that is like one that doesn't pass
pub kept_where : (r : Way) (place : ℕ → ℕ) (q p : Program) → AreEdits r place q p → (test other : Site → Bool)
    → ((x : Site) → In x (sites q) → IsTrue (is_monitor_call x.stmt) → test x ≡ false)
    → ((g f : ℕ × Function) (x y : Site) → In x (sites q) → In y (sites p) → IsFunctionEdit r g.1 f.1 → Like r g f x y → other y ≡ false → test x ≡ false)
    → ((line : ℕ) → Contains (lines_where other p) line → ⊥) → (line : ℕ) → Contains (lines_where test q) line → ⊥
kept_where r place q p e test other at_put at_like free = none_listed test q (λ x at. at_site x at (origin r place q p x e at))
  where
    at_site : (x : Site) → In x (sites q) → Origin r place p x → test x ≡ false
    at_site x at (Origin.put is) = at_put x at (monitor_of r x.stmt is)
    at_site x at (Origin.like g f y among fe in_p same) = at_like g (place g.0, f) x y at in_p fe same (none_there other p free y in_p)
