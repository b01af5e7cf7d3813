-- Where statements have an outline whose contexts are numbered in order, the walk finds it.
use Rattle.std.specs.Prelude.{◌≡◌, ◌≤◌, ℕ, ℤ, suc, Bool, true, false, ◌||◌, if◌then◌else◌, List, [], ◌∷◌, length, map, bytes_eq, Some, None}
use Rattle.std.specs.declared.option.Option.{Option}
use Rattle.std.proofs.Common.{arith, ◌<◌, refl, ap, subst, sym, ◌∙◌}
use Rattle.std.proofs.lemmas.Bool.{lt-ltb}
use Rattle.c_tree.specs.Everywhere.{EverywhereInside}
use Rattle.c_tree.specs.Expressions.{Expr, Exprs, Place}
use Rattle.c_tree.specs.Numbering.{monitor_resource}
use Rattle.c_tree.specs.Lined.{Stmt, Stmts, Cons, Function, Declare, Assign, Call, For, Return, Read, Print, Create, Join, InitMutex, InitCond, Lock, Unlock, Wait, Signal, Broadcast, Take, Give, line_of, bare_stmt}
use Rattle.c_meaning.proofs.Reading.{some_is}
use Rattle.outlines.specs.Outline as outline
use Rattle.outlines.specs.Outline.{Part, Parts, Thread, joined}
use Rattle.rule_facts.specs.FromLast.{named_in, function_in}
use Rattle.contexts.specs.Constants.{Constants, Weaker, known_after, known_in, known_end, known_turn, before, declared_all}
use Rattle.contexts.specs.Resolved.{resolved, constants_of, passed, writes_of}
use Rattle.contexts.specs.Walk.{Walked, Found, TooMany, then_walk, walk, walk_all, Above, part, one, with_resource}
use Rattle.contexts.specs.Outlines.{above_of, entered, entered_as}
use Rattle.contexts.specs.Outlined.{Code, HasPart, Outlined, IsPlain, steps, joins, leaves, locks, unlocks, waits, takes, gives, tries, branches, loops, enters, over, forgets, next, counts, end_parts}
use Rattle.contexts.specs.Numbered.{Numbered, NumberedAll, after, after_all}
use Rattle.contexts.proofs.Grows.{resolved_grows, without_grows, after_grows, end_grows, args_grow, passed_grow}
use Rattle.context_laws.proofs.Found.{joined_nil, then_again, then_same}
use Rattle.context_laws.proofs.Numbers.{Knows, after_end, rises_all}
use Rattle.context_laws.proofs.Steady.{IsSteady, Steady, SteadyBehind, everywhere_before}
use Rattle.context_laws.proofs.Stands.{scene_of}
use Rattle.context_laws.proofs.Sound.{Matches, matches_above}
use Rattle.context_laws.proofs.WalkBefore.{before_all, walk_before}

-- ---- functions by name

-- a function of these, with those above it
pub record Stood (code : Code) (fs : List (ℕ × Function)) (name : List ℕ) (g : ℕ × Function) : Type 0 where
  pub above : List (ℕ × Function)
  pub enters : (args : List (Option ℤ)) (n : List ℕ) → (above_of code.program fs).enter name args n ≡ entered code.program (above_of code.program above) g args n
  pub there : Matches code above
  pub behind : SteadyBehind code.program above
  pub body : Steady code.program (named_in above) (writes_of code.program g.1) g.1.body

pub stood : (code : Code) (fs : List (ℕ × Function)) → SteadyBehind code.program fs → Matches code fs → (name : List ℕ) → named_in fs name ≡ true → (g : ℕ × Function) → code.function name ≡ Some g → Stood code fs name g
stood code [] all there name ok g is = absurd (cc ok)
stood code (f ∷ fs) all there name ok g is =
    go (bytes_eq f.1.name name) refl ok (there.function name ok) (λ near. stood code fs all.2 (matches_above code f fs all.1 there) name near g is)
  where
    go : (b : Bool) → bytes_eq f.1.name name ≡ b → (b || named_in fs name) ≡ true → (if b then Some f else function_in fs name) ≡ code.function name
        → (named_in fs name ≡ true → Stood code fs name g) → Stood code (f ∷ fs) name g
    go true test ok same near =
        let is_g : f ≡ g = some_is f g (same ∙ is) in
        subst (λ h. Stood code (f ∷ fs) name h) is_g (record {
          above = fs;
          enters = λ args n. subst (λ b. (if b then entered code.program (above_of code.program fs) f args n else (above_of code.program fs).enter name args n)
              ≡ entered code.program (above_of code.program fs) f args n) (sym test) refl;
          there = matches_above code f fs all.1 there;
          behind = all.2;
          body = all.0;
        })
    go false test ok same near =
        let r : Stood code fs name g = near ok in
        record {
          above = r.above;
          enters = λ args n. subst (λ b. (if b then entered code.program (above_of code.program fs) f args n else (above_of code.program fs).enter name args n)
              ≡ entered code.program (above_of code.program r.above) g args n) (sym test) (r.enters args n);
          there = r.there;
          behind = r.behind;
          body = r.body;
        }

-- ---- what a walk finds

-- of one statement
pub record WalksOne (code : Code) (above : Above) (writes : List (List ℕ)) (known : Constants) (s : Stmt) (n : List ℕ) (xs : Parts) : Type 0 where
  pub m : List ℕ
  pub found : walk (scene_of code above writes) known s n ≡ Found xs m
  pub behind : length m ≡ after_all xs (length n)
  pub knows : Knows code n → Knows code m

-- of a list
pub record Walks (code : Code) (above : Above) (writes : List (List ℕ)) (known : Constants) (ends : Option ℕ) (ss : Stmts) (n : List ℕ) (xs : Parts) : Type 0 where
  pub ys : Parts
  pub m : List ℕ
  pub found : walk_all (scene_of code above writes) known ss n ≡ Found ys m
  pub is : joined ys (end_parts ends) ≡ xs
  pub behind : length m ≡ after_all xs (length n)
  pub knows : Knows code n → Knows code m

-- an arm or a body
arm_found : (code : Code) (above : Above) (writes : List (List ℕ)) (known : Constants) (a : Stmts) (n : List ℕ) (xs : Parts) → (r : Walks code above writes known None a n xs)
    → walk_all (scene_of code above writes) known a n ≡ Found xs r.m
arm_found code above writes known a n xs r = subst (λ zs. walk_all (scene_of code above writes) known a n ≡ Found zs r.m) (sym (joined_nil r.ys) ∙ r.is) r.found

-- a statement with one part, before the rest
walks_next : (code : Code) (above : Above) (writes : List (List ℕ)) (known : Constants) (ends : Option ℕ) (s : Stmt) (rest : Stmts) (n : List ℕ) (x : Part) (xs : Parts)
    → (first : WalksOne code above writes known s n (part x)) → Walks code above writes (known_after writes known s) ends rest first.m xs → Walks code above writes known ends (Cons s rest) n (outline.Cons x xs)
walks_next code above writes known ends s rest n x xs first r = record {
  ys = outline.Cons x r.ys;
  m = r.m;
  found = ap (λ w. then_walk w (λ front i. before_all front (walk_all (scene_of code above writes) (known_after writes known s) rest i))) first.found
      ∙ ap (λ w. before_all (part x) w) r.found;
  is = ap (λ ys. outline.Cons x ys) r.is;
  behind = r.behind ∙ ap (λ i. after_all xs i) first.behind;
  knows = λ h. r.knows (first.knows h);
}

-- a part without contexts
flat : (code : Code) (above : Above) (writes : List (List ℕ)) (known : Constants) (s : Stmt) (n : List ℕ) (x : Part) → walk (scene_of code above writes) known s n ≡ Found (part x) n
    → length n ≡ after x (length n) → WalksOne code above writes known s n (part x)
flat code above writes known s n x found same = record { m = n; found = found; behind = same; knows = λ h. h }

-- a part at a mutex
at_mutex : (line r : ℕ) (o : Option ℕ) (go : ℕ → Walked Parts) → o ≡ Some r → with_resource line o go ≡ go r
at_mutex line r o go is = ap (λ p. with_resource line p go) is

-- two arms
both_arms : (code : Code) (above : Above) (writes : List (List ℕ)) (known : Constants) (a b : Stmts) (make : Parts → Parts → Part) (n : List ℕ) (ya yb : Parts)
    → (first : Walks code above writes known None a n ya) → (second : Walks code above writes known None b first.m yb)
    → then_walk (walk_all (scene_of code above writes) known a n) (λ xs i. then_walk (walk_all (scene_of code above writes) known b i) (λ ys j. one (make xs ys) j)) ≡ Found (part (make ya yb)) second.m
both_arms code above writes known a b make n ya yb first second =
    ap (λ w. then_walk w (λ xs i. then_walk (walk_all (scene_of code above writes) known b i) (λ ys j. one (make xs ys) j))) (arm_found code above writes known a n ya first)
    ∙ ap (λ w. then_walk w (λ ys j. one (make ya ys) j)) (arm_found code above writes known b first.m yb second)

-- how a call is walked
quiet_call : (code : Code) (above : Above) (writes : List (List ℕ)) (known : Constants) (line : ℕ) (target : Option Place) (name : List ℕ) (args : Exprs) (n : List ℕ)
    → above.bears name ≡ false → walk (scene_of code above writes) known (Call line target name args) n ≡ Found (part (outline.Step line)) n
quiet_call code above writes known line target name args n quiet =
    ap (λ b. if b then then_walk (above.enter name (constants_of known args) n) (λ f m. one (outline.Inner line f.context f.body) m) else one (outline.Step line) n) quiet

entered_call : (code : Code) (above : Above) (writes : List (List ℕ)) (known : Constants) (line : ℕ) (target : Option Place) (name : List ℕ) (args : Exprs) (n m : List ℕ) (e : Thread)
    → above.bears name ≡ true → above.enter name (constants_of known args) n ≡ Found e m
    → walk (scene_of code above writes) known (Call line target name args) n ≡ Found (part (outline.Inner line e.context e.body)) m
entered_call code above writes known line target name args n m e bears found =
    ap (λ b. if b then then_walk (above.enter name (constants_of known args) n) (λ f i. one (outline.Inner line f.context f.body) i) else one (outline.Step line) n) bears
    ∙ ap (λ w. then_walk w (λ f i. one (outline.Inner line f.context f.body) i)) found

-- a function that is entered where there is room for its contexts
pub enter_walk : (code : Code) (above : Above) (place : ℕ) (f : Function) (args : List (Option ℤ)) (n : List ℕ) (body : Parts) → length n < 256
    → (r : Walks code above (writes_of code.program f) (passed (writes_of code.program f) f.params args) (Some f.end_line) f.body (place ∷ n) body)
    → entered code.program above (place, f) args n ≡ Found (record { context = length n; line = f.line; end_line = f.end_line; body = body }) r.m
enter_walk code above place f args n body room r =
    ap (λ b. if b then then_walk (walk_all (scene_of code above (writes_of code.program f)) (passed (writes_of code.program f) f.params args) f.body (place ∷ n)) (entered_as f n) else TooMany)
    (lt-ltb (length n) 256 room)
    ∙ ap (λ w. then_walk w (entered_as f n)) r.found
    ∙ ap (λ xs. Found (record { context = length n; line = f.line; end_line = f.end_line; body = xs }) r.m) r.is

abbrev for_found : ℕ → Parts → List ℕ → Walked Parts
for_found line ys k = Found (outline.Cons (outline.Step line) (part (outline.Loop line ys))) k

-- a `for`, by the walk of its body before its step
for_walk : (code : Code) (above : Above) (writes : List (List ℕ)) (known : Constants) (line : ℕ) (first_part : Stmts) (test : Expr) (step body : Stmts) (n m : List ℕ) (ys : Parts)
    → walk_all (scene_of code above writes) (known_turn writes known first_part step body) (before body step) n ≡ Found ys m
    → walk (scene_of code above writes) known (For line first_part test step body) n ≡ Found (outline.Cons (outline.Step line) (part (outline.Loop line ys))) m
for_walk code above writes known line first_part test step body n m ys found =
    let turn : Constants = known_turn writes known first_part step body in
    sym (then_again (walk_all (scene_of code above writes) turn body n) (λ xs i. before_all xs (walk_all (scene_of code above writes) (known_end writes turn body) step i)) (for_found line)
    ∙ then_same (walk_all (scene_of code above writes) turn body n)
    (λ xs i. then_walk (before_all xs (walk_all (scene_of code above writes) (known_end writes turn body) step i)) (for_found line))
    (λ xs i. then_walk (walk_all (scene_of code above writes) (known_end writes turn body) step i) (λ zs k. for_found line (joined xs zs) k))
    (λ xs i. then_again (walk_all (scene_of code above writes) (known_end writes turn body) step i) (λ zs k. Found (joined xs zs) k) (for_found line)))
    ∙ ap (λ w. then_walk w (for_found line)) (sym (walk_before (scene_of code above writes) turn body step n) ∙ found)

plain_walk : (code : Code) (fs : List (ℕ × Function)) → Matches code fs → (writes : List (List ℕ)) (known : Constants) (s : Stmt) (n : List ℕ) → IsPlain code writes s
    → IsSteady code.program (named_in fs) writes (bare_stmt s) → WalksOne code (above_of code.program fs) writes known s n (part (outline.Step (line_of s)))
plain_walk code fs there writes known (Declare line name e) n ok own = flat code (above_of code.program fs) writes known (Declare line name e) n (outline.Step line) refl refl
plain_walk code fs there writes known (Assign line target e) n ok own = flat code (above_of code.program fs) writes known (Assign line target e) n (outline.Step line) refl refl
plain_walk code fs there writes known (Call line target name args) n ok own = flat code (above_of code.program fs) writes known (Call line target name args) n (outline.Step line)
    (quiet_call code (above_of code.program fs) writes known line target name args n (there.bears name own.0 ∙ ok.0)) refl
plain_walk code fs there writes known (Read line target) n ok own = flat code (above_of code.program fs) writes known (Read line target) n (outline.Step line) refl refl
plain_walk code fs there writes known (Print line format args) n ok own = flat code (above_of code.program fs) writes known (Print line format args) n (outline.Step line) refl refl
plain_walk code fs there writes known (Create line slot name arg) n ok own = flat code (above_of code.program fs) writes known (Create line slot name arg) n (outline.Step line) refl refl
plain_walk code fs there writes known (InitMutex line place) n ok own = flat code (above_of code.program fs) writes known (InitMutex line place) n (outline.Step line) refl refl
plain_walk code fs there writes known (InitCond line place) n ok own = flat code (above_of code.program fs) writes known (InitCond line place) n (outline.Step line) refl refl
plain_walk code fs there writes known (Signal line cond) n ok own = flat code (above_of code.program fs) writes known (Signal line cond) n (outline.Step line) refl refl
plain_walk code fs there writes known (Broadcast line cond) n ok own = flat code (above_of code.program fs) writes known (Broadcast line cond) n (outline.Step line) refl refl
plain_walk code fs there writes known s n ok own = absurd ok

-- ---- the walk by the relation

mutual
  pub part_walk : (code : Code) (writes : List (List ℕ)) (less : Constants) (s : Stmt) (x : Part) → HasPart code writes less s x → (fs : List (ℕ × Function)) → SteadyBehind code.program fs → Matches code fs
      → IsSteady code.program (named_in fs) writes (bare_stmt s) → EverywhereInside (IsSteady code.program (named_in fs) writes) (bare_stmt s)
      → (known : Constants) → Weaker less known → (n : List ℕ) → Numbered x (length n) → after x (length n) ≤ 256 → WalksOne code (above_of code.program fs) writes known s n (part x)
  part_walk code writes less s x (steps t ok) fs all there own inside known w n numbered few = plain_walk code fs there writes known t n ok own
  part_walk code writes less s x (joins line slot) fs all there own inside known w n numbered few = flat code (above_of code.program fs) writes known (Join line slot) n (outline.Join line) refl refl
  part_walk code writes less s x (leaves line value) fs all there own inside known w n numbered few = flat code (above_of code.program fs) writes known (Return line value) n (outline.Leave line) refl refl
  part_walk code writes less s x (locks line r place is) fs all there own inside known w n numbered few = flat code (above_of code.program fs) writes known (Lock line place) n (outline.Acquire line r)
      (at_mutex line r (resolved code.program known place) (λ i. one (outline.Acquire line i) n) (resolved_grows code.program less known w place r is)) refl
  part_walk code writes less s x (unlocks line r place is) fs all there own inside known w n numbered few = flat code (above_of code.program fs) writes known (Unlock line place) n (outline.Release line r)
      (at_mutex line r (resolved code.program known place) (λ i. one (outline.Release line i) n) (resolved_grows code.program less known w place r is)) refl
  part_walk code writes less s x (waits line r cond place cs is) fs all there own inside known w n numbered few =
      flat code (above_of code.program fs) writes known (Wait line cond place cs) n (outline.Wait line r (map (monitor_resource code.program) cs))
      (at_mutex line r (resolved code.program known place) (λ i. one (outline.Wait line i (map (monitor_resource code.program) cs)) n) (resolved_grows code.program less known w place r is)) refl
  part_walk code writes less s x (takes line k) fs all there own inside known w n numbered few =
      flat code (above_of code.program fs) writes known (Take line k) n (outline.Acquire line (monitor_resource code.program k)) refl refl
  part_walk code writes less s x (gives line k) fs all there own inside known w n numbered few =
      flat code (above_of code.program fs) writes known (Give line k) n (outline.Release line (monitor_resource code.program k)) refl refl
  part_walk code writes less s x (tries {taken = a} {busy = b} {xs = ya} {ys = yb} line r place is in_a in_b) fs all there own inside known w n numbered few =
      let up : after_all ya (length n) ≤ after_all yb (after_all ya (length n)) = rises_all yb (after_all ya (length n)) in
      let first : Walks code (above_of code.program fs) writes known None a n ya = list_walk code writes less None a ya in_a fs all there inside.0 known w n numbered.0 (omega arith) in
      let second : Walks code (above_of code.program fs) writes known None b first.m yb = list_walk code writes less None b yb in_b fs all there inside.1 known w first.m
      (subst (λ i. NumberedAll yb i) (sym first.behind) numbered.1) (subst (λ i. after_all yb i ≤ 256) (sym first.behind) few) in
      record {
        m = second.m;
        found = at_mutex line r (resolved code.program known place)
            (λ i. then_walk (walk_all (scene_of code (above_of code.program fs) writes) known a n) (λ xs j. then_walk (walk_all (scene_of code (above_of code.program fs) writes) known b j) (λ ys k. one (outline.Try line i xs ys) k)))
            (resolved_grows code.program less known w place r is)
            ∙ both_arms code (above_of code.program fs) writes known a b (λ xs ys. outline.Try line r xs ys) n ya yb first second;
        behind = second.behind ∙ ap (λ i. after_all yb i) first.behind;
        knows = λ h. second.knows (first.knows h);
      }
  part_walk code writes less s x (branches {a = a} {b = b} {xs = ya} {ys = yb} line test in_a in_b) fs all there own inside known w n numbered few =
      let up : after_all ya (length n) ≤ after_all yb (after_all ya (length n)) = rises_all yb (after_all ya (length n)) in
      let first : Walks code (above_of code.program fs) writes known None a n ya = list_walk code writes less None a ya in_a fs all there inside.0 known w n numbered.0 (omega arith) in
      let second : Walks code (above_of code.program fs) writes known None b first.m yb = list_walk code writes less None b yb in_b fs all there inside.1 known w first.m
      (subst (λ i. NumberedAll yb i) (sym first.behind) numbered.1) (subst (λ i. after_all yb i ≤ 256) (sym first.behind) few) in
      record {
        m = second.m;
        found = both_arms code (above_of code.program fs) writes known a b (λ xs ys. outline.Branch line xs ys) n ya yb first second;
        behind = second.behind ∙ ap (λ i. after_all yb i) first.behind;
        knows = λ h. second.knows (first.knows h);
      }
  part_walk code writes less s x (loops {body = body} {xs = ys} line test in_body) fs all there own inside known w n numbered few =
      let r : Walks code (above_of code.program fs) writes (known_in known body) None body n ys =
      list_walk code writes (known_in less body) None body ys in_body fs all there inside (known_in known body) (without_grows (declared_all body) less known w) n numbered few in
      record {
        m = r.m;
        found = ap (λ w. then_walk w (λ zs k. one (outline.Loop line zs) k)) (arm_found code (above_of code.program fs) writes (known_in known body) body n ys r);
        behind = r.behind;
        knows = r.knows;
      }
  part_walk code writes less s x (enters {body = body} line k place target name args f bears target_in is context in_f) fs all there own inside known w n numbered few =
      let room : suc (length n) ≤ after_all body (suc (length n)) = rises_all body (suc (length n)) in
      let g : Stood code fs name (place, f) = stood code fs all there name own.0 (place, f) is in
      let r : Walks code (above_of code.program g.above) (writes_of code.program f) (passed (writes_of code.program f) f.params (constants_of known args)) (Some f.end_line) f.body (place ∷ n) body =
      list_walk code (writes_of code.program f) (passed (writes_of code.program f) f.params (constants_of less args)) (Some f.end_line) f.body body in_f g.above g.behind g.there g.body
      (passed (writes_of code.program f) f.params (constants_of known args))
      (passed_grow (writes_of code.program f) f.params (constants_of less args) (constants_of known args) (args_grow less known w args)) (place ∷ n) numbered.1 few in
      let found : walk (scene_of code (above_of code.program fs) writes) known (Call line target name args) n ≡ Found (part (outline.Inner line (length n) body)) r.m =
      entered_call code (above_of code.program fs) writes known line target name args n r.m (record { context = length n; line = f.line; end_line = f.end_line; body = body })
      (there.bears name own.0 ∙ bears) (g.enters (constants_of known args) n ∙ enter_walk code (above_of code.program g.above) place f (constants_of known args) n body (omega arith) r) in
      record {
        m = r.m;
        found = subst (λ i. walk (scene_of code (above_of code.program fs) writes) known (Call line target name args) n ≡ Found (part (outline.Inner line i body)) r.m) (sym numbered.0) found;
        behind = r.behind;
        knows = λ h. r.knows (subst (λ i. code.context i ≡ Some place) numbered.0 context, h);
      }

  pub list_walk : (code : Code) (writes : List (List ℕ)) (less : Constants) (ends : Option ℕ) (ss : Stmts) (xs : Parts) → Outlined code writes less ends ss xs
      → (fs : List (ℕ × Function)) → SteadyBehind code.program fs → Matches code fs → Steady code.program (named_in fs) writes ss
      → (known : Constants) → Weaker less known → (n : List ℕ) → NumberedAll xs (length n) → after_all xs (length n) ≤ 256 → Walks code (above_of code.program fs) writes known ends ss n xs
  list_walk code writes less ends ss xs (over e) fs all there steady known w n numbered few =
      record { ys = outline.Nil; m = n; found = refl; is = refl; behind = sym (after_end e (length n)); knows = λ h. h }
  list_walk code writes less ends ss xs (forgets lower v there_in) fs all there steady known w n numbered few =
      list_walk code writes lower ends ss xs there_in fs all there steady known (λ name z e. w name z (v name z e)) n numbered few
  list_walk code writes less ends ss xs (next {rest = rest} {xs = tail} s x is there_in) fs all there steady known w n numbered few =
      let up : after x (length n) ≤ after_all tail (after x (length n)) = rises_all tail (after x (length n)) in
      let first : WalksOne code (above_of code.program fs) writes known s n (part x) = part_walk code writes less s x is fs all there steady.0 steady.1 known w n numbered.0 (omega arith) in
      walks_next code (above_of code.program fs) writes known ends s rest n x tail first
      (list_walk code writes (known_after writes less s) ends rest tail there_in fs all there steady.2 (known_after writes known s) (after_grows writes less known w s) first.m
      (subst (λ i. NumberedAll tail i) (sym first.behind) numbered.1) (subst (λ i. after_all tail i ≤ 256) (sym first.behind) few))
  list_walk code writes less ends ss xs (counts {first_part = fp} {step = st} {body = bd} {rest = rest} {ys = ys} {xs = tail} line test first in_body there_in) fs all there steady known w n numbered few =
      let up : after_all ys (length n) ≤ after_all tail (after_all ys (length n)) = rises_all tail (after_all ys (length n)) in
      let body : Walks code (above_of code.program fs) writes (known_turn writes known fp st bd) None (before bd st) n ys =
      list_walk code writes (known_turn writes less fp st bd) None (before bd st) ys in_body fs all there (everywhere_before (IsSteady code.program (named_in fs) writes) bd st steady.1.2 steady.1.1)
      (known_turn writes known fp st bd) (without_grows (declared_all (before bd st)) (known_end writes less fp) (known_end writes known fp) (end_grows writes less known w fp)) n numbered.1.0 (omega arith) in
      let r : Walks code (above_of code.program fs) writes (known_after writes known (For line fp test st bd)) ends rest body.m tail =
      list_walk code writes (known_after writes less (For line fp test st bd)) ends rest tail there_in fs all there steady.2 (known_after writes known (For line fp test st bd))
      (after_grows writes less known w (For line fp test st bd)) body.m (subst (λ i. NumberedAll tail i) (sym body.behind) numbered.1.1) (subst (λ i. after_all tail i ≤ 256) (sym body.behind) few) in
      record {
        ys = outline.Cons (outline.Step line) (outline.Cons (outline.Loop line ys) r.ys);
        m = r.m;
        found = ap (λ v. then_walk v (λ front i. before_all front (walk_all (scene_of code (above_of code.program fs) writes) (known_after writes known (For line fp test st bd)) rest i)))
            (for_walk code (above_of code.program fs) writes known line fp test st bd n body.m ys (arm_found code (above_of code.program fs) writes (known_turn writes known fp st bd) (before bd st) n ys body))
            ∙ ap (λ v. before_all (outline.Cons (outline.Step line) (part (outline.Loop line ys))) v) r.found;
        is = ap (λ zs. outline.Cons (outline.Step line) (outline.Cons (outline.Loop line ys) zs)) r.is;
        behind = r.behind ∙ ap (λ i. after_all tail i) body.behind;
        knows = λ h. r.knows (body.knows h);
      }
