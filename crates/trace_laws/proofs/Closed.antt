-- Among sets of threads that are closed under what their threads are blocked for, one is the largest.
use Rattle.std.proofs.Common.{◌≡◌, ◌≢◌, ◌<◌, ◌≤◌, ◌==◌, ◌||◌, ℕ, zero, suc, Bool, true, false, List, [], ◌∷◌, length, Some, None, ◌⊎◌, inl, inr, ⊎_elim, refl, sym, ap, subst, ◌∙◌, arith}
use Rattle.std.specs.Prelude.{IsTrue, Option, if◌then◌else◌}
use Rattle.std.proofs.lemmas.Bool.{cases_eq, eq-eqb, ne_eqb, eqb-true, cases_Bool}
use Rattle.c_meaning.specs.Closed.{has, Stays, IsClosed}
use Rattle.net_laws.proofs.Masks.{mask, members-mask}

-- ---- sets as lists

abbrev mem : List ℕ → ℕ → Bool
mem [] t = false
mem (x ∷ xs) t = (x == t) || mem xs t

abbrev without : ℕ → List ℕ → List ℕ
without t [] = []
without t (x ∷ xs) = if x == t then without t xs else x ∷ without t xs

abbrev below : ℕ → List ℕ
below zero = []
below (suc n) = n ∷ below n

in_below : (n t : ℕ) → t < n → mem (below n) t ≡ true
in_below zero t low = absurd (omega (arith, low))
in_below (suc n) t low = ⊎_elim
    (λ same. rw (eq-eqb n t same) refl)
    (λ other. rw (ne_eqb n t other, in_below n t (omega (arith, low, other))) refl)
    (cases_eq n t)

without_le : (t : ℕ) (xs : List ℕ) → length (without t xs) ≤ length xs
without_le t [] = omega arith
without_le t (x ∷ xs) = ⊎_elim
    (λ on. rw on (omega (arith, without_le t xs)))
    (λ off. rw off (omega (arith, without_le t xs)))
    (cases_Bool (x == t))

without_lt : (t : ℕ) (xs : List ℕ) → mem xs t ≡ true → length (without t xs) < length xs
without_lt t [] is = absurd cc
without_lt t (x ∷ xs) is = ⊎_elim
    (λ on. rw on (omega (arith, without_le t xs)))
    (λ off. let more : mem xs t ≡ true = rw off at is in rw off (omega (arith, without_lt t xs more)))
    (cases_Bool (x == t))

-- another one stays
stays_in : (t u : ℕ) (xs : List ℕ) → u ≢ t → mem xs u ≡ true → mem (without t xs) u ≡ true
stays_in t u [] other is = absurd cc
stays_in t u (x ∷ xs) other is = ⊎_elim
    (λ on. let gone : (x == u) ≡ false = ne_eqb x u (λ e. other (sym e ∙ eqb-true x t on)) in
    let more : mem xs u ≡ true = rw gone at is in rw on (stays_in t u xs other more))
    (λ off. rw off (⊎_elim
    (λ here. ap (λ b. b || mem (without t xs) u) here)
    (λ later. let more : mem xs u ≡ true = rw later at is in ap (λ b. b || mem (without t xs) u) later ∙ stays_in t u xs other more)
    (cases_Bool (x == u))))
    (cases_Bool (x == t))

-- ---- closed sets

module _ (blocked : ℕ → Option ℕ) (holder : ℕ → ℕ → Bool) (most : ℕ) (few : (u r : ℕ) → IsTrue (holder u r) → u < most)
    (low : (t r : ℕ) → blocked t ≡ Some r → t < most) where
  record Fails (xs : List ℕ) (r : ℕ) : Type 0 where
    thread : ℕ
    holds : holder thread r ≡ true
    out : mem xs thread ≡ false

  -- all holders below a bound are in a set, or one isn't
  inside_or : (xs : List ℕ) (r n : ℕ) → ((u : ℕ) → u < n → IsTrue (holder u r) → mem xs u ≡ true) ⊎ Fails xs r
  inside_or xs r zero = inl (λ u less holds. absurd (omega (arith, less)))
  inside_or xs r (suc n) = ⊎_elim
      (λ rest. ⊎_elim
      (λ holds. ⊎_elim
      (λ is. inl (λ u less held. ⊎_elim (λ same. subst (λ x. mem xs x ≡ true) (sym same) is) (λ other. rest u (omega (arith, less, other)) held) (cases_eq u n)))
      (λ out. inr (record { thread = n; holds = holds; out = out }))
      (cases_Bool (mem xs n)))
      (λ free. inl (λ u less held. ⊎_elim
      (λ same. let both : false ≡ true = sym free ∙ subst (λ x. holder x r ≡ true) same held in absurd cc)
      (λ other. rest u (omega (arith, less, other)) held)
      (cases_eq u n)))
      (cases_Bool (holder n r)))
      (λ fails. inr fails)
      (inside_or xs r n)

  -- a thread stays in a set, or it is blocked for nothing or for what another one holds
  data Leaves (xs : List ℕ) (t : ℕ) : Type 0 where
    free : blocked t ≡ None → Leaves xs t
    outside : (r : ℕ) → blocked t ≡ Some r → Fails xs r → Leaves xs t

  stays_by : (xs : List ℕ) (t : ℕ) (o : Option ℕ) → blocked t ≡ o → Stays blocked holder (mem xs) t ⊎ Leaves xs t
  stays_by xs t None e = inr (Leaves.free e)
  stays_by xs t (Some r) e = ⊎_elim
      (λ all. inl (record { resource = r; waits = e; inside = λ u holds. all u (few u r holds) holds }))
      (λ fails. inr (Leaves.outside r e fails))
      (inside_or xs r most)

  record Leaver (xs ys : List ℕ) : Type 0 where
    thread : ℕ
    is : mem ys thread ≡ true
    leaves : Leaves xs thread

  all_or : (xs ys : List ℕ) → ((t : ℕ) → IsTrue (mem ys t) → Stays blocked holder (mem xs) t) ⊎ Leaver xs ys
  all_or xs [] = inl (λ t is. absurd cc)
  all_or xs (y ∷ ys) = ⊎_elim
      (λ stays. ⊎_elim
      (λ rest. inl (λ t is. ⊎_elim
      (λ here. subst (λ x. Stays blocked holder (mem xs) x) (eqb-true y t here) stays)
      (λ later. let more : mem ys t ≡ true = rw later at is in rest t more)
      (cases_Bool (y == t))))
      (λ leaver. inr (record {
        thread = leaver.thread;
        is = ⊎_elim (λ on. rw on refl) (λ off. rw (off, leaver.is) refl) (cases_Bool (y == leaver.thread));
        leaves = leaver.leaves;
      }))
      (all_or xs ys))
      (λ leaves. inr (record { thread = y; is = rw (eq-eqb y y refl) refl; leaves = leaves }))
      (stays_by xs y (blocked y) refl)

  -- a thread that leaves is in no closed set inside this one
  no_leaver : (xs : List ℕ) (t : ℕ) (threads : ℕ → Bool) → Leaves xs t → IsClosed blocked holder threads → ((u : ℕ) → IsTrue (threads u) → mem xs u ≡ true) → IsTrue (threads t) → ⊥
  no_leaver xs t threads (Leaves.free e) closed within is =
      let s = closed.stays t is in
      let f : None ≡ Some s.resource = sym e ∙ s.waits in absurd (cc f)
  no_leaver xs t threads (Leaves.outside r e fails) closed within is =
      let s = closed.stays t is in
      let same : r ≡ s.resource = cc (sym e ∙ s.waits) in
      let inside : mem xs fails.thread ≡ true = within fails.thread (s.inside fails.thread (subst (λ x. IsTrue (holder fails.thread x)) same fails.holds)) in
      let f : false ≡ true = sym fails.out ∙ inside in absurd (cc f)

  -- the largest closed set
  record IsLargest (f : ℕ → Bool) : Type 0 where
    closed : IsClosed blocked holder f
    each : (threads : ℕ → Bool) → IsClosed blocked holder threads → (t : ℕ) → IsTrue (threads t) → IsTrue (f t)

  abbrev HoldsAll : List ℕ → Type 0
  HoldsAll xs = (threads : ℕ → Bool) → IsClosed blocked holder threads → (t : ℕ) → IsTrue (threads t) → mem xs t ≡ true

  shrunk : (fuel : ℕ) (xs : List ℕ) → length xs ≤ fuel → HoldsAll xs → (f : ℕ → Bool) × IsLargest f
  shrunk zero [] small all = (mem [], record { closed = record { stays = λ t is. absurd cc }; each = all })
  shrunk zero (x ∷ xs) small all = absurd (omega (arith, small))
  shrunk (suc fuel) xs small all = ⊎_elim
      (λ stays. (mem xs, record { closed = record { stays = stays }; each = all }))
      (λ leaver. shrunk fuel (without leaver.thread xs) (omega (arith, small, without_lt leaver.thread xs leaver.is))
      (λ threads closed t is. stays_in leaver.thread t xs
      (λ same. no_leaver xs leaver.thread threads leaver.leaves closed (all threads closed) (subst (λ x. IsTrue (threads x)) same is))
      (all threads closed t is)))
      (all_or xs xs)

  -- as the bits of a number
  pub largest : (set : ℕ) × IsClosed blocked holder (has set) × ((threads : ℕ → Bool) → IsClosed blocked holder threads → (t : ℕ) → IsTrue (threads t) → IsTrue (has set t))
  largest =
      let first : HoldsAll (below most) = λ threads closed t is. in_below most t (low t _ (closed.stays t is).waits) in
      let found = shrunk (length (below most)) (below most) (omega arith) first in
      let same : has (mask most found.0) ≡ found.0 = members-mask most found.0 (λ r on. low r _ (found.1.closed.stays r on).waits) in (
        mask most found.0,
        subst (λ f. IsClosed blocked holder f) (sym same) found.1.closed,
        λ threads closed t is. subst (λ f. IsTrue (f t)) (sym same) (found.1.each threads closed t is),
      )
