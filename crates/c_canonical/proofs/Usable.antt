-- A name that is seen can be used, and written.
use Rattle.std.proofs.Common.{◌≡◌, ℕ, Bool, true, false, List, Some, None, refl, sym, subst, ◌∙◌, ap}
use Rattle.std.specs.Prelude.{if◌then◌else◌}
use Rattle.c_lexer.specs.Classes.{is_word}
use Rattle.c_layout.specs.Layout.{IsName}
use Rattle.c_grammar.specs.declared.words.FixedWord.{FixedWord}
use Rattle.c_grammar.specs.declared.words.FixedWord.TheVariants as w
use Rattle.c_grammar.specs.Items.{What, undefined_name, spelling, is_keyword, name_of, callee}
use Rattle.c_canonical.specs.Shaped.{Usable, Callable}
use Rattle.c_canonical.proofs.Seen.{Genuine}

-- each word that the grammar spells out is that word
pub fixed_is : (x : FixedWord) → undefined_name (spelling x) ≡ What.Fixed x
fixed_is w.Int = refl
fixed_is w.Void = refl
fixed_is w.Static = refl
fixed_is w.Long = refl
fixed_is w.If = refl
fixed_is w.Else = refl
fixed_is w.While = refl
fixed_is w.For = refl
fixed_is w.Return = refl
fixed_is w.Main = refl
fixed_is w.Parameter = refl
fixed_is w.ConditionParameter = refl
fixed_is w.MutexParameter = refl
fixed_is w.Null = refl
fixed_is w.IntPointer = refl
fixed_is w.Print = refl
fixed_is w.Scan = refl
fixed_is w.Thread = refl
fixed_is w.Mutex = refl
fixed_is w.Condition = refl
fixed_is w.MutexInitializer = refl
fixed_is w.ConditionInitializer = refl
fixed_is w.Create = refl
fixed_is w.Join = refl
fixed_is w.InitMutex = refl
fixed_is w.InitCondition = refl
fixed_is w.Lock = refl
fixed_is w.TryLock = refl
fixed_is w.Unlock = refl
fixed_is w.Wait = refl
fixed_is w.Signal = refl
fixed_is w.Broadcast = refl
fixed_is w.Capacities = refl
fixed_is w.Take = refl
fixed_is w.Give = refl
fixed_is w.ControlledWait = refl

fixed_named : (x : FixedWord) → IsName (spelling x)
unfolding is_word
fixed_named w.Int = refl
fixed_named w.Void = refl
fixed_named w.Static = refl
fixed_named w.Long = refl
fixed_named w.If = refl
fixed_named w.Else = refl
fixed_named w.While = refl
fixed_named w.For = refl
fixed_named w.Return = refl
fixed_named w.Main = refl
fixed_named w.Parameter = refl
fixed_named w.ConditionParameter = refl
fixed_named w.MutexParameter = refl
fixed_named w.Null = refl
fixed_named w.IntPointer = refl
fixed_named w.Print = refl
fixed_named w.Scan = refl
fixed_named w.Thread = refl
fixed_named w.Mutex = refl
fixed_named w.Condition = refl
fixed_named w.MutexInitializer = refl
fixed_named w.ConditionInitializer = refl
fixed_named w.Create = refl
fixed_named w.Join = refl
fixed_named w.InitMutex = refl
fixed_named w.InitCondition = refl
fixed_named w.Lock = refl
fixed_named w.TryLock = refl
fixed_named w.Unlock = refl
fixed_named w.Wait = refl
fixed_named w.Signal = refl
fixed_named w.Broadcast = refl
fixed_named w.Capacities = refl
fixed_named w.Take = refl
fixed_named w.Give = refl
fixed_named w.ControlledWait = refl

same_name : (m n : List ℕ) → Some m ≡ Some n → m ≡ n
same_name m n e = cc

pub name_known : {Bounded : Type 0} (a : What) (n : List ℕ) → Genuine Bounded a → name_of a ≡ Some n → Usable n × (Bounded → IsName n)
name_known (What.Name m) n g e = let same = same_name m n e in (subst Usable same (ap name_of g.0), λ u. subst IsName same (g.1 u))
name_known {Bounded = Bounded} (What.Fixed x) n g e = go (is_keyword x) e
  where
    go : (b : Bool) → (if b then None else Some (spelling x)) ≡ Some n → Usable n × (Bounded → IsName n)
    go true d = absurd cc
    go false d =
        let same = same_name (spelling x) n d in
        (ap (λ (m : List ℕ). name_of (undefined_name m)) (sym same) ∙ ap name_of (fixed_is x) ∙ e, λ u. subst IsName same (fixed_named x))
name_known _ n g e = absurd cc

pub callee_known : {Bounded : Type 0} (a : What) (n : List ℕ) → Genuine Bounded a → callee a ≡ Some n → Callable n × (Bounded → IsName n)
callee_known (What.Name m) n g e = let same = same_name m n e in (subst Callable same (ap callee g.0), λ u. subst IsName same (g.1 u))
callee_known (What.Fixed w.Main) n g e = let same = same_name (spelling w.Main) n e in (subst Callable same refl, λ u. subst IsName same (fixed_named w.Main))
callee_known (What.Fixed w.Parameter) n g e = let same = same_name (spelling w.Parameter) n e in (subst Callable same refl, λ u. subst IsName same (fixed_named w.Parameter))
callee_known (What.Fixed w.ConditionParameter) n g e = let same = same_name (spelling w.ConditionParameter) n e in (subst Callable same refl, λ u. subst IsName same (fixed_named w.ConditionParameter))
callee_known (What.Fixed w.MutexParameter) n g e = let same = same_name (spelling w.MutexParameter) n e in (subst Callable same refl, λ u. subst IsName same (fixed_named w.MutexParameter))
callee_known _ n g e = absurd cc
