-- What changes along an edge.
use Rattle.std.proofs.Common.{◌≡◌, ◌≢◌, ℕ, zero, suc, ◌<◌, ◌≤◌, ◌↔◌, Bool, true, false, ◌⊎◌, inl, inr, refl, sym, ap, ◌∙◌, subst, ⊎_elim, arith}
use Rattle.std.specs.Prelude.{IsTrue, IsFalse}
use Rattle.std.proofs.lemmas.Bool.{cases_Bool, cases_eq, cond-true, cond-false, eqb-true, eq-eqb, false≢true, false_from_ne_true}
use Rattle.edges.specs.declared.EdgeOp.{EdgeOp}
use Rattle.edges.specs.declared.EdgeOp.TheVariants.{Plain, Acquire, Try, Reacquire, Release}
use Rattle.edges.specs.declared.Edge.{Edge}
use Rattle.edges.specs.Ops.{takes, gives}
use Rattle.net_laws.specs.Net.{Net, IsNet, IsShaped, HasEdge, one}
use Rattle.net_laws.specs.Siphons.{InSiphon, TakesNone, TakesOne, GivesOne}
use Rattle.net_laws.specs.Lines.{total, held_of}
use Rattle.net_laws.proofs.Sums.{total_same, total_positive}
use Rattle.net_laws.proofs.Least.{other, gives-takes, holds}
use Rattle.net_laws.proofs.Decided.{Decided, in_siphon}
use Rattle.weight_laws.specs.Weights.{IsMarked}

-- one term is one more, and the others are the same
pub bump : (k : ℕ) (R : ℕ → Bool) (f g : ℕ → ℕ) (r : ℕ) → r < k → R r ≡ true → f r ≡ suc (g r) → ((s : ℕ) → R s ≡ true → s ≢ r → f s ≡ g s) → total k R f ≡ suc (total k R g)
bump zero R f g r lt in_R more same = absurd (omega arith)
bump (suc k) R f g r lt in_R more same =
    ⊎_elim
    (λ e. let here : R k ≡ true = subst (λ x. R x ≡ true) e in_R in
    let more_k : f k ≡ suc (g k) = subst (λ x. f x ≡ suc (g x)) e more in
    omega (arith, more_k, cond-true (R k) (f k) 0 here, cond-true (R k) (g k) 0 here, total_same k R f g (λ s below in_s. same s in_s (λ x. omega arith))))
    (λ ne. let before = bump k R f g r (omega arith) in_R more same in
    ⊎_elim
    (λ on. omega (arith, before, same k on (λ x. ne (sym x)), cond-true (R k) (f k) 0 on, cond-true (R k) (g k) 0 on))
    (λ off. omega (arith, before, cond-false (R k) (f k) 0 off, cond-false (R k) (g k) 0 off))
    (cases_Bool (R k)))
    (cases_eq r k)

abbrev pub GivesNone : (ℕ → Bool) → Edge → Type 0
GivesNone R e = (r : ℕ) → IsTrue (R r) → IsFalse (gives e.op r)

pub gives_some : (o : EdgeOp) (R : ℕ → Bool) → ((r : ℕ) × IsTrue (R r) × IsTrue (gives o r)) ⊎ ((r : ℕ) → IsTrue (R r) → IsFalse (gives o r))
gives_some Plain R = inr (λ r in_R. refl)
gives_some (Acquire q) R = inr (λ r in_R. refl)
gives_some (Try q) R = inr (λ r in_R. refl)
gives_some (Reacquire q) R = inr (λ r in_R. refl)
gives_some (Release q) R = ⊎_elim (λ in_R. inl (q, in_R, eq-eqb q q refl)) (λ out. inr (λ r in_R. other q R r out in_R)) (cases_Bool (R q))

takes_same : (o : EdgeOp) (r s : ℕ) → takes o r ≡ true → takes o s ≡ true → s ≡ r
takes_same Plain r s a b = absurd (false≢true a)
takes_same (Acquire q) r s a b = sym (eqb-true q s b) ∙ eqb-true q r a
takes_same (Try q) r s a b = sym (eqb-true q s b) ∙ eqb-true q r a
takes_same (Reacquire q) r s a b = sym (eqb-true q s b) ∙ eqb-true q r a
takes_same (Release q) r s a b = absurd (false≢true a)

gives_same : (o : EdgeOp) (r s : ℕ) → gives o r ≡ true → gives o s ≡ true → s ≡ r
gives_same Plain r s a b = absurd (false≢true a)
gives_same (Acquire q) r s a b = absurd (false≢true a)
gives_same (Try q) r s a b = absurd (false≢true a)
gives_same (Reacquire q) r s a b = absurd (false≢true a)
gives_same (Release q) r s a b = sym (eqb-true q s b) ∙ eqb-true q r a

-- an edge that takes one of the set raises what is held of it by one
pub up : (n : Net) → IsNet n → (R : ℕ → Bool) → ((r : ℕ) → IsTrue (R r) → r < n.resources) → (e : Edge) → HasEdge n e → TakesOne R e → held_of n R e.to ≡ suc (held_of n R e.from)
up n net R named e has t =
    let r = t.0 in
    let none : (s : ℕ) → one (gives e.op s) ≡ 0 = λ s. ap one (false_from_ne_true (gives e.op s) (λ g. gives-takes e.op s r g t.2)) in
    bump n.resources R (n.held e.to) (n.held e.from) r (named r t.1) t.1
    (omega (arith, net.accounts e r has, none r, ap one t.2))
    (λ s in_s ne. omega (arith, net.accounts e s has, none s, ap one (false_from_ne_true (takes e.op s) (λ x. ne (takes_same e.op r s t.2 x)))))

-- an edge that gives one of the set lowers it by one
pub down : (n : Net) → IsNet n → (R : ℕ → Bool) → ((r : ℕ) → IsTrue (R r) → r < n.resources) → (e : Edge) → HasEdge n e → GivesOne R e → held_of n R e.from ≡ suc (held_of n R e.to)
down n net R named e has g =
    let r = g.0 in
    let none : (s : ℕ) → one (takes e.op s) ≡ 0 = λ s. ap one (false_from_ne_true (takes e.op s) (λ t. gives-takes e.op r s g.2 t)) in
    bump n.resources R (n.held e.from) (n.held e.to) r (named r g.1) g.1
    (omega (arith, net.accounts e r has, none r, ap one g.2))
    (λ s in_s ne. omega (arith, net.accounts e s has, none s, ap one (false_from_ne_true (gives e.op s) (λ x. ne (gives_same e.op r s g.2 x)))))

pub level : (n : Net) → IsNet n → (R : ℕ → Bool) → (e : Edge) → HasEdge n e → TakesNone R e → GivesNone R e → held_of n R e.to ≡ held_of n R e.from
level n net R e has t g = total_same n.resources R (n.held e.to) (n.held e.from) (λ s lt in_s. omega (arith, net.accounts e s has, ap one (t s in_s), ap one (g s in_s)))

-- a point of the siphon holds something
pub held_there : (n : Net) → IsNet n → (R S : ℕ → Bool) → IsMarked n R S → (p : ℕ) → InSiphon n R p → 0 < held_of n R p
held_there n net R S marked p l =
    let h = holds n net R l.0 p l.1 in
    total_positive n.resources R (n.held p) h.0 (marked.named h.0 h.1) h.1 h.2

-- an edge that takes nothing of the set leads from a point of the siphon, where it leads to one
pub backward : (n : Net) (R S : ℕ → Bool) → IsMarked n R S → (e : Edge) → HasEdge n e → TakesNone R e → one (S e.to) ≤ one (S e.from)
backward n R S marked e has none =
    ⊎_elim
    (λ in_q. let l = (marked.exact e.to).0 in_q in
    let in_p : S e.from ≡ true = (marked.exact e.from).1 (suc l.0, (e, has, refl, none, l.1)) in
    omega (arith, ap one in_p, ap one in_q))
    (λ out. omega (arith, ap one out))
    (cases_Bool (S e.to))

is_so : {P : Type 0} → Decided P → Bool
is_so (inl p) = true
is_so (inr off) = false

so_is : {P : Type 0} (d : Decided P) → IsTrue (is_so d) ↔ P
unfolding is_so
so_is (inl p) = ((λ _. p), (λ _. refl))
so_is (inr off) = ((λ on. absurd (false≢true on)), (λ p. absurd (off p)))

-- which points are in the least siphon of a set
pub marks : (n : Net) (R : ℕ → Bool) → IsShaped n → ((r : ℕ) → IsTrue (R r) → r < n.resources) → (S : ℕ → Bool) × IsMarked n R S
marks n R shaped named = (
  (λ p. is_so (in_siphon n shaped R p)),
  record { named = named; exact = λ p. so_is (in_siphon n shaped R p) },
)
