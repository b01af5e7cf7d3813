-- What is held in a net with a monitor more.
use Rattle.std.proofs.Common.{◌≡◌, ◌≢◌, ℕ, zero, suc, ◌+◌, ◌-◌, ◌<◌, ◌≤◌, Bool, false, ◌==◌, refl, sym, ap, ◌∙◌, subst, ⊎_elim, arith}
use Rattle.std.proofs.lemmas.Bool.{cases_eq, cond-true, cond-false, eq-eqb, ne_eqb, false_from_ne_true}
use Rattle.edges.specs.declared.Edge.{Edge}
use Rattle.edges.specs.Ops.{takes, gives}
use Rattle.net_laws.specs.Net.{Net, IsNet, IsFitting, HasEdge, one}
use Rattle.net_laws.specs.Candidates.{IsCandidate}
use Rattle.net_laws.specs.Lines.{tokens_of}
use Rattle.weight_laws.specs.Flow.{Path, IsFlow}
use Rattle.weight_laws.specs.Weights.{IsMarked, IsMoved, IsEntry}
use Rattle.weight_laws.specs.Inserted.{Origins, Takes, Gives, Keeps, IsInserted, counted, IsCounted, IsHeld, Begins}
use Rattle.weight_laws.proofs.Capacity.{moved_below, empty}

pub at_new : (n : Net) (m : ℕ → ℕ) (o : Origins) (p : ℕ) → counted n m o p n.resources ≡ m (o.origin p) + o.takes p + o.gives p
at_new n m o p = cond-true (n.resources == n.resources) _ _ (eq-eqb n.resources n.resources refl)

pub at_old : (n : Net) (m : ℕ → ℕ) (o : Origins) (p r : ℕ) → r ≢ n.resources → counted n m o p r ≡ n.held (o.origin p) r
at_old n m o p r ne = cond-false (r == n.resources) _ _ (ne_eqb r n.resources ne)

off : (c r : ℕ) → r ≢ c → (c == r) ≡ false
off c r ne = ne_eqb c r (λ e. ne (sym e))

pub accounts : (n : Net) (m entry : ℕ → ℕ) (capacity : ℕ) (o : Origins) (new : Net) → IsNet n → IsEntry n m entry → IsInserted n m entry capacity o new → (e : Edge) (r : ℕ) → HasEdge new e → counted n m o e.to r + one (gives e.op r) ≡ counted n m o e.from r + one (takes e.op r)
accounts n m entry capacity o new net ent ins e r has = ⊎_elim took (λ x. ⊎_elim gave kept x) (ins.edges e has)
  where
    c : ℕ
    c = n.resources

    Goal : Type 0
    Goal = counted n m o e.to r + one (gives e.op r) ≡ counted n m o e.from r + one (takes e.op r)

    took : Takes o c e → Goal
    took t =
        let m_same : m (o.origin e.to) ≡ m (o.origin e.from) = ap m t.same in
        let none : one (gives e.op r) ≡ 0 = ap (λ x. one (gives x r)) t.op in
        ⊎_elim
        (λ is. let to : counted n m o e.to r ≡ m (o.origin e.to) + o.takes e.to + o.gives e.to = ap (counted n m o e.to) is ∙ at_new n m o e.to in
        let from : counted n m o e.from r ≡ m (o.origin e.from) + o.takes e.from + o.gives e.from = ap (counted n m o e.from) is ∙ at_new n m o e.from in
        let one_taken : one (takes e.op r) ≡ 1 = ap (λ x. one (takes x r)) t.op ∙ ap one (eq-eqb c r (sym is)) in
        omega (arith, to, from, one_taken, none, m_same, t.more, t.before, t.after))
        (λ ne. let none_taken : one (takes e.op r) ≡ 0 = ap (λ x. one (takes x r)) t.op ∙ ap one (off c r ne) in
        omega (arith, at_old n m o e.to r ne, at_old n m o e.from r ne, ap (λ x. n.held x r) t.same, none_taken, none))
        (cases_eq r c)

    gave : Gives o c e → Goal
    gave g =
        let m_same : m (o.origin e.to) ≡ m (o.origin e.from) = ap m g.same in
        let none : one (takes e.op r) ≡ 0 = ap (λ x. one (takes x r)) g.op in
        ⊎_elim
        (λ is. let to : counted n m o e.to r ≡ m (o.origin e.to) + o.takes e.to + o.gives e.to = ap (counted n m o e.to) is ∙ at_new n m o e.to in
        let from : counted n m o e.from r ≡ m (o.origin e.from) + o.takes e.from + o.gives e.from = ap (counted n m o e.from) is ∙ at_new n m o e.from in
        let one_given : one (gives e.op r) ≡ 1 = ap (λ x. one (gives x r)) g.op ∙ ap one (eq-eqb c r (sym is)) in
        omega (arith, to, from, one_given, none, m_same, g.fewer, g.before, g.after))
        (λ ne. let none_given : one (gives e.op r) ≡ 0 = ap (λ x. one (gives x r)) g.op ∙ ap one (off c r ne) in
        omega (arith, at_old n m o e.to r ne, at_old n m o e.from r ne, ap (λ x. n.held x r) g.same, none_given, none))
        (cases_eq r c)

    kept : Keeps n m entry o e → Goal
    kept k =
        let old = k.old in
        let no_take : one (takes old.op c) ≡ 0 = ap one (false_from_ne_true (takes old.op c) (λ t. let lt = net.taken old c k.has t in omega (arith, lt))) in
        let no_gift : one (gives old.op c) ≡ 0 = ap one (false_from_ne_true (gives old.op c) (λ g. let lt = net.given old c k.has g in omega (arith, lt))) in
        ⊎_elim
        (λ is. let to : counted n m o e.to r ≡ m (o.origin e.to) + o.takes e.to + o.gives e.to = ap (counted n m o e.to) is ∙ at_new n m o e.to in
        let from : counted n m o e.from r ≡ m (o.origin e.from) + o.takes e.from + o.gives e.from = ap (counted n m o e.from) is ∙ at_new n m o e.from in
        let taken : one (takes e.op r) ≡ 0 = ap (λ x. one (takes x r)) (sym k.op) ∙ ap (λ x. one (takes old.op x)) is ∙ no_take in
        let given : one (gives e.op r) ≡ 0 = ap (λ x. one (gives x r)) (sym k.op) ∙ ap (λ x. one (gives old.op x)) is ∙ no_gift in
        omega (arith, to, from, taken, given, ap m k.from, ap m k.to, k.takes_before, k.gives_before, k.takes_after, k.gives_after, ent.own old.from, ent.next old k.has))
        (λ ne. let taken : one (takes e.op r) ≡ one (takes old.op r) = ap (λ x. one (takes x r)) (sym k.op) in
        let given : one (gives e.op r) ≡ one (gives old.op r) = ap (λ x. one (gives x r)) (sym k.op) in
        omega (arith, at_old n m o e.to r ne, at_old n m o e.from r ne, ap (λ x. n.held x r) k.from, ap (λ x. n.held x r) k.to, taken, given, net.accounts old r k.has))
        (cases_eq r c)

-- counts that agree at a point agree at each that it leads to
along : (new : Net) (h : ℕ → ℕ → ℕ) → ((e : Edge) (r : ℕ) → HasEdge new e → new.held e.to r + one (gives e.op r) ≡ new.held e.from r + one (takes e.op r)) → ((e : Edge) (r : ℕ) → HasEdge new e → h e.to r + one (gives e.op r) ≡ h e.from r + one (takes e.op r)) → (k p q : ℕ) → Path new p q k → ((r : ℕ) → new.held p r ≡ h p r) → (r : ℕ) → new.held q r ≡ h q r
along new h a b zero p q path same r = subst (λ x. new.held x r ≡ h x r) path (same r)
along new h a b (suc k) p q path same r =
    let e = path.0 in
    along new h a b k e.to q path.3 (λ s. omega (arith, a e s path.1, b e s path.1, subst (λ x. new.held x s ≡ h x s) (sym path.2) (same s))) r

pub counts : (n : Net) (R S : ℕ → Bool) (m entry : ℕ → ℕ) (capacity : ℕ) (o : Origins) (new : Net) (first : ℕ → Bool) → IsNet n → IsMoved n R S m → IsEntry n m entry → IsInserted n m entry capacity o new → Begins n o first → IsHeld new first → IsCounted n m o new
counts n R S m entry capacity o new first net moved ent ins begins held p r lt =
    let way = held.reached p lt in
    let q = way.1 in
    let b = begins q way.2 in
    let none = empty n R S m net moved (o.origin q) b.0 in
    along new (counted n m o) held.accounts (λ e s has. accounts n m entry capacity o new net ent ins e s has) way.0 q p way.3
    (λ s. ⊎_elim
    (λ is. let new_is : counted n m o q s ≡ m (o.origin q) + o.takes q + o.gives q = ap (counted n m o q) is ∙ at_new n m o q in
    omega (arith, held.starts q s way.2, new_is, none, b.1, b.2))
    (λ ne. omega (arith, held.starts q s way.2, at_old n m o q s ne, b.0 s))
    (cases_eq s n.resources))
    r

pub within_capacity : (n : Net) (R S : ℕ → Bool) (m entry : ℕ → ℕ) (o : Origins) (new : Net) → IsFlow n → IsMarked n R S → IsMoved n R S m → IsEntry n m entry → IsCandidate n R → IsInserted n m entry (tokens_of n R - 1) o new → (p : ℕ) → p < new.points → counted n m o p n.resources ≤ tokens_of n R - 1
within_capacity n R S m entry o new flow marked moved ent candidate ins p lt =
    let T = tokens_of n R in
    let small : (q : ℕ) → q < n.points → m q < T = moved_below n R S m flow marked moved candidate.some in
    let small_entry : (q : ℕ) → q < n.points → entry q < T =
    λ q lt. ⊎_elim
    (λ own. omega (arith, own, small q lt))
    (λ e. omega (arith, e.3, small e.0.to (flow.shaped.leads e.0 e.1).1))
    (ent.met q) in
    let here = ins.origins p lt in
    let value = at_new n m o p in
    ⊎_elim
    (λ no_takes. ⊎_elim
    (λ no_gives. omega (arith, value, no_takes, no_gives, small (o.origin p) here))
    (λ g. omega (arith, value, no_takes, g.3, ap m g.2, ent.next g.0 g.1, small_entry g.0.from (flow.shaped.leads g.0 g.1).0))
    (ins.few_gives p lt))
    (λ no_gives. omega (arith, value, no_gives, ins.few_takes p lt, ent.own (o.origin p), small_entry (o.origin p) here))
    (ins.apart p lt)

pub fitting : (n : Net) (R S : ℕ → Bool) (m entry : ℕ → ℕ) (o : Origins) (new : Net) → IsFlow n → IsMarked n R S → IsMoved n R S m → IsEntry n m entry → IsCandidate n R → IsInserted n m entry (tokens_of n R - 1) o new → IsCounted n m o new → IsFitting new
fitting n R S m entry o new flow marked moved ent candidate ins held = record {
  fits = λ p r lt lt_r.
      let here = held p r lt in
      ⊎_elim
      (λ is. let value : counted n m o p r ≡ counted n m o p n.resources = ap (counted n m o p) is in
      let tokens : new.tokens r ≡ new.tokens n.resources = ap new.tokens is in
      omega (arith, here, value, tokens, ins.new_tokens, within_capacity n R S m entry o new flow marked moved ent candidate ins p lt))
      (λ ne. let old : r < n.resources = omega (arith, lt_r, ins.resources, ne) in
      omega (arith, here, at_old n m o p r ne, ins.tokens r old, flow.fitting.fits (o.origin p) r (ins.origins p lt) old))
      (cases_eq r n.resources);
}
