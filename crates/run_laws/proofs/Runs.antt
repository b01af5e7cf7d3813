-- What is kept along runs, and runs that go along with others.
use Rattle.std.proofs.Common.{◌≡◌, List, [], ◌∷◌, ◌++◌, Option, Some, None, refl, sym, ap, ◌∙◌, subst}
use Rattle.std.specs.Prelude.{option_and_then}
use Rattle.std.proofs.lemmas.Option.{same_Some}
use Rattle.run_laws.specs.Runs.{run, in_front, behind, matched, IsKept, Follows, IsSimulation, Arrives}

-- where one step and then others lead somewhere, the one step leads somewhere
pub one_step : {S A : Type 0} (o : Option S) (go : S → Option A) (x : A) (R : Type 0) → ((mid : S) → o ≡ Some mid → go mid ≡ Some x → R) → option_and_then go o ≡ Some x → R
one_step None go x R then e = absurd (cc e)
one_step (Some mid) go x R then e = then mid refl e

pub invariant_holds : {S E : Type 0} (step : E → S → Option S) (holds : S → Type 0) → IsKept step holds → (es : List E) (s next : S) → run step es s ≡ Some next → holds s → holds next
invariant_holds step holds kept [] s next e h = subst holds (same_Some s next e) h
invariant_holds step holds kept (event ∷ es) s next e h =
    one_step (step event s) (run step es) next (holds next) (λ mid is more. invariant_holds step holds kept es mid next more (kept event s mid is h)) e

pub run_on : {S E : Type 0} (step : E → S → Option S) (es fs : List E) (s : S) → run step (es ++ fs) s ≡ option_and_then (run step fs) (run step es s)
run_on step [] fs s = refl
run_on {S = S} step (event ∷ es) fs s = by (step event s) (run_on step es fs)
  where
    by : (o : Option S) → ((mid : S) → run step (es ++ fs) mid ≡ option_and_then (run step fs) (run step es mid))
        → option_and_then (run step (es ++ fs)) o ≡ option_and_then (run step fs) (option_and_then (run step es) o)
    by None more = refl
    by (Some mid) more = more mid

-- what follows an event, and then what follows those behind it
follows_on : {T F : Type 0} (other : F → T → Option T) (near far : T → Type 0) (fs : List F) (t : T) (o : Option F) → Follows other near t o
    → ((mid : T) → near mid → Arrives other far fs mid) → Arrives other far (in_front o fs) t
follows_on other near far fs t None h go = go t h
follows_on other near far fs t (Some f) h go = let more = go h.0 h.2 in (more.0, ap (option_and_then (run other fs)) h.1 ∙ more.1, more.2)

pub simulated : {S E T F : Type 0} (step : E → S → Option S) (other : F → T → Option T) (match_of : E → S → Option F) (related : S → T → Type 0)
    → IsSimulation step other match_of related → (es : List E) (s next : S) (t : T) → run step es s ≡ Some next → related s t
    → Arrives other (related next) (matched step match_of es s) t
simulated step other match_of related follows [] s next t e r = (t, refl, subst (λ x. related x t) (same_Some s next e) r)
simulated step other match_of related follows (event ∷ es) s next t e r =
    one_step (step event s) (run step es) next (Arrives other (related next) (matched step match_of (event ∷ es) s) t)
    (λ mid is more. subst (λ o. Arrives other (related next) (in_front (match_of event s) (behind (matched step match_of es) o)) t) (sym is)
    (follows_on other (related mid) (related next) (matched step match_of es mid) t (match_of event s) (follows event s mid t is r)
    (λ u same. simulated step other match_of related follows es mid next u more same)))
    e
