use Rattle.std.proofs.Common.{◌≡◌, ℕ, ◌↔◌, IsTrue, false, nat_eq, nat_lt, arith, refl, sym, ap, subst, ◌∙◌, inl, inr}
use Rattle.edges.specs.declared.EdgeOp.{EdgeOp}
use Rattle.edges.specs.declared.EdgeOp.TheVariants.{Acquire, Try, Reacquire, Release}
use Rattle.edges.specs.Ops.{takes, gives}
use Rattle.flow_checks.specs.Checks.{IsNamed}
use Rattle.std.proofs.lemmas.Bool.{false≢true, eqb-true, eq-eqb, ltb-true, lt-ltb}
use Rattle.flow_checks.proofs.edge.is_named.Goals as goal

takes_named : (op : EdgeOp) (r n : ℕ) → takes op ≡ nat_eq r → ((q : ℕ) → gives op q ≡ false) → IsTrue (nat_lt r n) ↔ IsNamed op n
takes_named op r n takes_it gives_none = (
  λ below. record {
    taken = λ q taken. omega (arith, eqb-true r q (sym (ap (λ f. f q) takes_it) ∙ taken), ltb-true r n below);
    given = λ q given. absurd (false≢true (sym (gives_none q) ∙ given));
  },
  λ named. lt-ltb r n (named.taken r (ap (λ f. f r) takes_it ∙ eq-eqb r r refl)),
)

gives_named : (op : EdgeOp) (r n : ℕ) → gives op ≡ nat_eq r → ((q : ℕ) → takes op q ≡ false) → IsTrue (nat_lt r n) ↔ IsNamed op n
gives_named op r n gives_it takes_none = (
  λ below. record {
    taken = λ q taken. absurd (false≢true (sym (takes_none q) ∙ taken));
    given = λ q given. omega (arith, eqb-true r q (sym (ap (λ f. f q) gives_it) ∙ given), ltb-true r n below);
  },
  λ named. lt-ltb r n (named.given r (ap (λ f. f r) gives_it ∙ eq-eqb r r refl)),
)

pub returns-in-Acquire : goal.returns-in-Acquire
returns-in-Acquire c =
    let r = c.in-Acquire.r in
    let n = c.args.resources in
    elim c.in-Acquire.is [
      | inl is ↦ subst (λ op. IsTrue (nat_lt r n) ↔ IsNamed op n) (sym is) (takes_named (Acquire r) r n refl (λ q. refl))
      | inr later ↦ elim later [
        | inl is ↦ subst (λ op. IsTrue (nat_lt r n) ↔ IsNamed op n) (sym is) (takes_named (Try r) r n refl (λ q. refl))
        | inr last ↦ elim last [
          | inl is ↦ subst (λ op. IsTrue (nat_lt r n) ↔ IsNamed op n) (sym is) (takes_named (Reacquire r) r n refl (λ q. refl))
          | inr is ↦ subst (λ op. IsTrue (nat_lt r n) ↔ IsNamed op n) (sym is) (gives_named (Release r) r n refl (λ q. refl))
        ]
      ]
    ]
