-- The outline of statements by their first statement.
use Rattle.std.specs.Prelude.{ℕ, List}
use Rattle.std.specs.declared.option.Option.{Option}
use Rattle.std.proofs.Common.{refl, inl, inr}
use Rattle.c_tree.specs.Lined.{Stmt, Stmts, Cons, Declare, Assign, Call, For, While, Read, Print, Create, InitMutex, InitCond, Signal, Broadcast}
use Rattle.outlines.specs.Outline as outline
use Rattle.outlines.specs.Outline.{Part, Parts}
use Rattle.contexts.specs.Constants.{Constants, known_after, before}
use Rattle.contexts.specs.Outlined.{Code, HasPart, Outlined, steps, joins, leaves, locks, unlocks, waits, takes, gives, tries, branches, loops, enters, over, forgets, next, counts}
use Rattle.contexts.specs.Shape.{Shape, PlainShape, Shaped}
use Rattle.contexts.proofs.Names.{loop_grows}

plain_shape : (code : Code) (writes : List (List ℕ)) (known : Constants) (ends : Option ℕ) (s : Stmt) (rest : Stmts) (xs : Parts)
    → PlainShape code writes known ends s rest xs → Shape code writes known ends (Cons s rest) xs
plain_shape code writes known ends (Declare line name e) rest xs there = there
plain_shape code writes known ends (Assign line target e) rest xs there = there
plain_shape code writes known ends (Call line target name args) rest xs there = inl there
plain_shape code writes known ends (Read line target) rest xs there = there
plain_shape code writes known ends (Print line format args) rest xs there = there
plain_shape code writes known ends (Create line slot function arg) rest xs there = there
plain_shape code writes known ends (InitMutex line place) rest xs there = there
plain_shape code writes known ends (InitCond line place) rest xs there = there
plain_shape code writes known ends (Signal line cond) rest xs there = there
plain_shape code writes known ends (Broadcast line cond) rest xs there = there
plain_shape code writes known ends s rest xs there = absurd there.0

part_shape : (code : Code) (writes : List (List ℕ)) (known : Constants) (ends : Option ℕ) (s : Stmt) (rest : Stmts) (x : Part) (xs : Parts)
    → HasPart code writes known s x → Outlined code writes (known_after writes known s) ends rest xs → Shape code writes known ends (Cons s rest) (outline.Cons x xs)
part_shape code writes known ends s rest x xs (steps t ok) there = plain_shape code writes known ends t rest _ (ok, (xs, refl, there))
part_shape code writes known ends s rest x xs (joins line slot) there = (xs, refl, forgets _ (λ name z e. e) there)
part_shape code writes known ends s rest x xs (leaves line value) there = (xs, refl, forgets _ (λ name z e. e) there)
part_shape code writes known ends s rest x xs (locks line r place is) there = (r, is, (xs, refl, forgets _ (λ name z e. e) there))
part_shape code writes known ends s rest x xs (unlocks line r place is) there = (r, is, (xs, refl, forgets _ (λ name z e. e) there))
part_shape code writes known ends s rest x xs (waits line r cond place cs is) there = (r, is, (xs, refl, forgets _ (λ name z e. e) there))
part_shape code writes known ends s rest x xs (takes line k) there = (xs, refl, forgets _ (λ name z e. e) there)
part_shape code writes known ends s rest x xs (gives line k) there = (xs, refl, forgets _ (λ name z e. e) there)
part_shape code writes known ends s rest x xs (tries line r place is a b) there = (r, _, _, is, a, b, (xs, refl, there))
part_shape code writes known ends s rest x xs (branches line test a b) there = (_, _, a, b, (xs, refl, there))
part_shape code writes known ends s rest x xs (loops line test a) there = (_, a, (xs, refl, there))
part_shape code writes known ends s rest x xs (enters {body = body} line k place target name args f bears target_in is context inside) there = inr (record {
  context = k;
  place = place;
  f = f;
  body = body;
  behind = xs;
  bears = bears;
  target_in = target_in;
  named = is;
  placed = context;
  inside = inside;
  is = refl;
  rest_is = forgets _ (λ name z e. e) there;
})

as_known : (code : Code) (writes : List (List ℕ)) (known : Constants) (ends : Option ℕ) (ss : Stmts) (xs : Parts) → Shape code writes known ends ss xs → Shaped code writes known ends ss xs
as_known code writes known ends ss xs there = record { less = known; weaker = λ name z e. e; shape = there }

pub inverts : (code : Code) (writes : List (List ℕ)) (known : Constants) (ends : Option ℕ) (ss : Stmts) (xs : Parts) → Outlined code writes known ends ss xs → Shaped code writes known ends ss xs
inverts code writes known ends ss xs (over e) = as_known code writes known ends _ _ refl
inverts code writes known ends ss xs (forgets less w there) =
    let near : Shaped code writes less ends ss xs = inverts code writes less ends ss xs there in
    record { less = near.less; weaker = λ name z e. w name z (near.weaker name z e); shape = near.shape }
inverts code writes known ends ss xs (next {rest = rest} {xs = tail} s x is there) = as_known code writes known ends _ _ (part_shape code writes known ends s rest x tail is there)
inverts code writes known ends ss xs (counts {first_part = fp} {step = st} {body = bd} {rest = rest} {ys = ys} {xs = tail} line test first body there) =
    as_known code writes known ends _ _ (
      first,
      (
        outline.Cons (outline.Loop line ys) tail,
        refl,
        next (While line test (before bd st)) (outline.Loop line ys) (loops line test body)
            (forgets (known_after writes known (For line fp test st bd)) (loop_grows writes known line fp test st bd) there),
      ),
    )
