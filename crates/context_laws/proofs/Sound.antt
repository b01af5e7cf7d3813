-- The walk of a whole program stands in the relation.
use Rattle.std.specs.Prelude.{◌≡◌, ◌≤◌, ℕ, ℤ, suc, Bool, true, false, ◌||◌, if◌then◌else◌, nat_lt, nat_eq, List, [], ◌∷◌, length, bytes_eq, Some, ⊤, map}
use Rattle.std.specs.declared.option.Option.{Option}
use Rattle.std.proofs.Common.{arith, ◌<◌, refl, ap, subst, sym, ◌∙◌}
use Rattle.std.proofs.lemmas.Bool.{ltb-true, eqb-true, eq-eqb, ne_eqb}
use Rattle.c_tree.specs.Values.{constant}
use Rattle.c_tree.specs.Numbering.{Creation, creations}
use Rattle.c_tree.specs.Lined.{Function, Program, bare_program}
use Rattle.c_meaning.proofs.Reading.{same_bytes}
use Rattle.outlines.specs.Outline as outline
use Rattle.outlines.specs.Outline.{Part, Parts, Thread, joined}
use Rattle.rule_facts.specs.FromLast.{StartsNamed, HasRegularNames, from_last, function_in, named_in}
use Rattle.rule_facts.specs.Regular.{Regular}
use Rattle.rule_facts.proofs.Behind.{regular_names}
use Rattle.contexts.specs.Resolved.{passed, writes_of}
use Rattle.contexts.specs.Walk.{Found, TooMany, then_walk, walk_all, Above, part}
use Rattle.contexts.specs.Bears.{bears_all}
use Rattle.contexts.specs.Outlines.{entered, entered_as, above_of, outlines, walk_starts, starts}
use Rattle.contexts.specs.Outlined.{Code}
use Rattle.contexts.specs.Numbered.{NumberedAll}
use Rattle.contexts.specs.Threads.{context_in, code_of, Threads, Outlines, contexts_end}
use Rattle.contexts.specs.Firsts.{HasFirstParts}
use Rattle.context_laws.proofs.Found.{found_behind, carry}
use Rattle.context_laws.proofs.Numbers.{Knows, numbered_joined, after_joined}
use Rattle.context_laws.proofs.Steady.{Steady, SteadyBehind, steady}
use Rattle.context_laws.proofs.Stands.{scene_of, Stands, IsEntered, IsSound}
use Rattle.context_laws.proofs.WalkOutlined.{walk_list}

-- ---- functions and those above them

-- these functions are those of the program, for the names among them
pub record Matches (code : Code) (fs : List (ℕ × Function)) : Type 0 where
  pub bears : (name : List ℕ) → named_in fs name ≡ true → (above_of code.program fs).bears name ≡ code.bears name
  pub function : (name : List ℕ) → named_in fs name ≡ true → function_in fs name ≡ code.function name

-- a name among those above isn't this function's
other_name : (f : ℕ × Function) (fs : List (ℕ × Function)) (name : List ℕ) → named_in fs f.1.name ≡ false → named_in fs name ≡ true → bytes_eq f.1.name name ≡ false
other_name f fs name new ok = go (bytes_eq f.1.name name) refl
  where
    go : (b : Bool) → bytes_eq f.1.name name ≡ b → bytes_eq f.1.name name ≡ false
    go true e = absurd (let there : false ≡ true = sym new ∙ ap (named_in fs) (same_bytes f.1.name name e) ∙ ok in cc there)
    go false e = e

behind_name : (f : ℕ × Function) (fs : List (ℕ × Function)) (name : List ℕ) → named_in fs name ≡ true → named_in (f ∷ fs) name ≡ true
behind_name f fs name ok = go (bytes_eq f.1.name name)
  where
    go : (b : Bool) → (b || named_in fs name) ≡ true
    go true = refl
    go false = ok

pub matches_above : (code : Code) (f : ℕ × Function) (fs : List (ℕ × Function)) → named_in fs f.1.name ≡ false → Matches code (f ∷ fs) → Matches code fs
matches_above code f fs new there = record {
  bears = λ name ok. subst (λ b. (if b then bears_all (above_of code.program fs).bears f.1.body else (above_of code.program fs).bears name) ≡ code.bears name)
      (other_name f fs name new ok) (there.bears name (behind_name f fs name ok));
  function = λ name ok. subst (λ b. (if b then Some f else function_in fs name) ≡ code.function name)
      (other_name f fs name new ok) (there.function name (behind_name f fs name ok));
}

first_entered : (code : Code) (f : ℕ × Function) (fs : List (ℕ × Function)) → IsSound code (above_of code.program fs) (named_in fs) → Steady code.program (named_in fs) (writes_of code.program f.1) f.1.body
    → (name : List ℕ) → code.function name ≡ Some f → (args : List (Option ℤ)) (n : List ℕ) (e : Thread) (m : List ℕ) → (b : Bool) → nat_lt (length n) 256 ≡ b
    → (if b then then_walk (walk_all (scene_of code (above_of code.program fs) (writes_of code.program f.1)) (passed (writes_of code.program f.1) f.1.params args) f.1.body (f.0 ∷ n)) (entered_as f.1 n) else TooMany)
    ≡ Found e m → IsEntered code name args n e m
first_entered code f fs sound calls name is args n e m false test found = cc found
first_entered code f fs sound calls name is args n e m true test found =
    found_behind (walk_all (scene_of code (above_of code.program fs) (writes_of code.program f.1)) (passed (writes_of code.program f.1) f.1.params args) f.1.body (f.0 ∷ n)) (entered_as f.1 n) e m found
    (λ xs k e1 e2. carry (λ d l. IsEntered code name args n d l) (record { context = length n; line = f.1.line; end_line = f.1.end_line; body = joined xs (part (outline.Leave f.1.end_line)) }) e k m e2
    (made xs k (walk_list code (above_of code.program fs) (writes_of code.program f.1) (named_in fs) sound f.1.body (passed (writes_of code.program f.1) f.1.params args) (f.0 ∷ n) xs k calls e1)))
  where
    made : (xs : Parts) (k : List ℕ) → Stands code (writes_of code.program f.1) (passed (writes_of code.program f.1) f.1.params args) f.1.body (f.0 ∷ n) xs k
        → IsEntered code name args n (record { context = length n; line = f.1.line; end_line = f.1.end_line; body = joined xs (part (outline.Leave f.1.end_line)) }) k
    made xs k r =
        let numbers : NumberedAll (joined xs (part (outline.Leave f.1.end_line))) (suc (length n)) = numbered_joined xs (part (outline.Leave f.1.end_line)) (suc (length n)) r.goes.numbered (tt, tt) in
        record {
          context = refl;
          numbered = numbers;
          behind = r.goes.behind ∙ sym (after_joined xs (part (outline.Leave f.1.end_line)) (suc (length n)));
          knows = λ h. (r.goes.knows h).1;
          few = λ h. r.goes.few (ltb-true (length n) 256 test);
          thread = λ h. record {
            place = f.0;
            f = f.1;
            is = is;
            line = refl;
            end_line = refl;
            context = refl;
            known = (r.goes.knows h).0;
            outlined = r.outlined h (Some f.1.end_line);
            numbered = numbers;
          };
        }

entered_in : (code : Code) (f : ℕ × Function) (fs : List (ℕ × Function)) → Matches code (f ∷ fs) → IsSound code (above_of code.program fs) (named_in fs)
    → Steady code.program (named_in fs) (writes_of code.program f.1) f.1.body → (name : List ℕ) → (b : Bool) → bytes_eq f.1.name name ≡ b → (b || named_in fs name) ≡ true
    → (args : List (Option ℤ)) (n : List ℕ) (e : Thread) (m : List ℕ)
    → (if b then entered code.program (above_of code.program fs) f args n else (above_of code.program fs).enter name args n) ≡ Found e m → IsEntered code name args n e m
entered_in code f fs there sound calls name true is ok args n e m found =
    first_entered code f fs sound calls name
    (sym (subst (λ b. (if b then Some f else function_in fs name) ≡ code.function name) is (there.function name (ap (λ b. b || named_in fs name) is)))) args n e m (nat_lt (length n) 256) refl found
entered_in code f fs there sound calls name false is ok args n e m found = sound.enters name ok args n e m found

pub sound_of : (code : Code) (fs : List (ℕ × Function)) → SteadyBehind code.program fs → Matches code fs → IsSound code (above_of code.program fs) (named_in fs)
sound_of code [] all there = record { bears = there.bears; enters = λ name ok. absurd (cc ok) }
sound_of code (f ∷ fs) all there = record {
  bears = there.bears;
  enters = λ name ok args n e m. entered_in code f fs there (sound_of code fs all.2 (matches_above code f fs all.1 there)) all.0 name (bytes_eq f.1.name name) refl ok args n e m;
}

-- ---- threads

-- what threads begin with is there
abbrev pub StartsIn : (List ℕ → Bool) → List (List ℕ × List (Option ℤ)) → Type 0
StartsIn named [] = ⊤
StartsIn named (s ∷ ss) = (named s.0 ≡ true) × StartsIn named ss

created_in : (named : List ℕ → Bool) (cs : List Creation) → StartsNamed named cs → StartsIn named (map (λ c. (c.function, constant c.arg ∷ [])) cs)
created_in named [] ok = tt
created_in named (c ∷ cs) ok = (ok.0, created_in named cs ok.1)

pub starts_in : (p : Program) → HasRegularNames p → StartsIn (named_in (from_last p)) (starts p)
starts_in p names = (names.main, created_in (named_in (from_last p)) (creations (bare_program p)) names.starts)

record StartsStand (code : Code) (ss : List (List ℕ × List (Option ℤ))) (n : List ℕ) (es : List Thread) (m : List ℕ) : Type 0 where
  pub behind : length m ≡ contexts_end es (length n)
  pub knows : Knows code m → Knows code n
  pub few : length n ≤ 256 → length m ≤ 256
  pub threads : Knows code m → Threads code ss es (length n)

starts_stand : (code : Code) (above : Above) (named : List ℕ → Bool) → IsSound code above named → (ss : List (List ℕ × List (Option ℤ))) → StartsIn named ss
    → (n : List ℕ) (es : List Thread) (m : List ℕ) → walk_starts above ss n ≡ Found es m → StartsStand code ss n es m
starts_stand code above named sound [] ok n es m e =
    carry (λ ds k. StartsStand code [] n ds k) [] es n m e (record { behind = refl; knows = λ h. h; few = λ h. h; threads = λ h. tt })
starts_stand code above named sound (s ∷ ss) ok n es m e =
    found_behind (above.enter s.0 s.1 n) (λ x i. then_walk (walk_starts above ss i) (λ xs k. Found (x ∷ xs) k)) es m e
    (λ x i e1 e2. found_behind (walk_starts above ss i) (λ xs k. Found (x ∷ xs) k) es m e2
    (λ xs k e3 e4. carry (λ ds l. StartsStand code (s ∷ ss) n ds l) (x ∷ xs) es k m e4
    (made x i xs k (starts_stand code above named sound ss ok.1 i xs k e3) (sound.enters s.0 ok.0 s.1 n x i e1))))
  where
    made : (x : Thread) (i : List ℕ) (xs : List Thread) (k : List ℕ) → StartsStand code ss i xs k → IsEntered code s.0 s.1 n x i → StartsStand code (s ∷ ss) n (x ∷ xs) k
    made x i xs k rest first = record {
      behind = rest.behind ∙ ap (λ j. contexts_end xs j) first.behind;
      knows = λ h. first.knows (rest.knows h);
      few = λ h. rest.few (first.few h);
      threads = λ h. (first.thread (rest.knows h), subst (λ j. Threads code ss xs j) first.behind (rest.threads h));
    }

-- ---- the places of contexts

-- the number of a context is below how many there are
context_less : (n : List ℕ) (k j : ℕ) → context_in n k ≡ Some j → k < length n
context_less [] k j e = cc e
context_less (i ∷ n) k j e = go (nat_eq k (length n)) refl e (λ there. context_less n k j there)
  where
    go : (b : Bool) → nat_eq k (length n) ≡ b → (if b then Some i else context_in n k) ≡ Some j → (context_in n k ≡ Some j → k < length n) → k < suc (length n)
    go true test there less = let same : k ≡ length n = eqb-true k (length n) test in omega arith
    go false test there less = let below : k < length n = less there in omega arith

context_behind : (n : List ℕ) (i k j : ℕ) → context_in n k ≡ Some j → context_in (i ∷ n) k ≡ Some j
context_behind n i k j e =
    let less : k < length n = context_less n k j e in
    let off : nat_eq k (length n) ≡ false = ne_eqb k (length n) (λ same. omega arith) in
    subst (λ b. (if b then Some i else context_in n k) ≡ Some j) (sym off) e

pub context_first : (n : List ℕ) (i : ℕ) → context_in (i ∷ n) (length n) ≡ Some i
context_first n i = subst (λ b. (if b then Some i else context_in n (length n)) ≡ Some i) (sym (eq-eqb (length n) (length n) refl)) refl

pub knows_all : (code : Code) (m : List ℕ) → ((k j : ℕ) → context_in m k ≡ Some j → code.context k ≡ Some j) → Knows code m
knows_all code [] agree = tt
knows_all code (j ∷ n) agree = (agree (length n) j (context_first n j), knows_all code n (λ k i e. agree k i (context_behind n j k i e)))

-- ---- the program

pub all_match : (p : Program) (places : List ℕ) → Matches (code_of p places) (from_last p)
all_match p places = record { bears = λ name ok. refl; function = λ name ok. refl }

pub walk_outlined : (p : Program) (es : List Thread) (places : List ℕ) → Regular p → HasFirstParts p → outlines p ≡ Found es places → Outlines p es places
walk_outlined p es places regular firsts e =
    let code : Code = code_of p places in
    let r : StartsStand code (starts p) [] es places =
    starts_stand code (above_of code.program (from_last p)) (named_in (from_last p)) (sound_of code (from_last p) (steady p regular firsts) (all_match p places)) (starts p) (starts_in p (regular_names p regular)) [] es places e in
    record { threads = r.threads (knows_all code places (λ k j there. there)); counted = r.behind; few = r.few (omega arith) }
