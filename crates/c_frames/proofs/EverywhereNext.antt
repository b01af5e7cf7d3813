-- What holds of each statement of a function, and so of the one that comes next.
use Rattle.std.proofs.Common.{◌≡◌, ℕ, zero, suc, Bool, true, false, List, [], ◌∷◌, Option, Some, None, subst, refl, ap, ◌∙◌}
use Rattle.std.specs.Prelude.{bytes_eq, ◌||◌, IfSome}
use Rattle.std.specs.Option.{option_map_or}
use Rattle.std.proofs.lemmas.Slice.Eq.{bytes_eq-Decides}
use Rattle.c_tree.specs.Bare.{Stmt, Stmts, Nil, Cons, Function, If, While, For, TryLock}
use Rattle.c_frames.specs.declared.frames.Frame.{Frame}
use Rattle.c_frames.specs.declared.positions.Entered.{Entered}
use Rattle.c_frames.specs.declared.positions.Part.{Part}
use Rattle.c_frames.specs.declared.positions.Part.TheVariants.{Then, Else, Body, Step}
use Rattle.c_tree.specs.Everywhere.{Everywhere, EverywhereInside}
use Rattle.c_frames.specs.Frames.{IsNext}
use Rattle.c_frames.specs.declared.names.LocalNames.{LocalNames}
use Rattle.c_frames.specs.Names.{target, is_target, is_set, is_set_inside, is_among, IsAmong, SetsAmong, NamesOf}
use Rattle.c_frames.specs.Positions.{from, part_of, entered, inside}

module _ (P : Stmt → Type 0) where
  of_part : (part : Part) (s : Stmt) → EverywhereInside P s → Everywhere P (part_of part s)
  of_part Then (If test then_arm else_arm) all = all.0
  of_part Else (If test then_arm else_arm) all = all.1
  of_part Then (TryLock place taken busy) all = all.0
  of_part Else (TryLock place taken busy) all = all.1
  of_part Body (While test body) all = all
  of_part Body (For first_part test step body) all = all.2
  of_part Step (For first_part test step body) all = all.1
  of_part Then s all = tt
  of_part Else s all = tt
  of_part Body s all = tt
  of_part Step s all = tt

  of_rest : (k : ℕ) (list : Stmts) → Everywhere P list → Everywhere P (from k list)
  of_rest zero list all = all
  of_rest (suc k) Nil all = tt
  of_rest (suc k) (Cons s rest) all = of_rest k rest all.2

  of_entered : (part : Part) (list : Stmts) → Everywhere P list → Everywhere P (entered part list)
  of_entered part Nil all = tt
  of_entered part (Cons s rest) all = of_part part s all.1

  of_inside : (list : Stmts) (at : List Entered) → Everywhere P list → Everywhere P (inside list at)
  of_inside list [] all = all
  of_inside list (q ∷ at) all = of_inside (entered q.part (from q.index list)) at (of_entered q.part (from q.index list) (of_rest q.index list all))

  pub everywhere_next : (f : Function) (frame : Frame) (s : Stmt) → IsNext f frame s → Everywhere P f.body → P s
  everywhere_next f frame s next all =
      let here : Everywhere P (Cons s _) = subst (Everywhere P) next.stands.here (of_rest frame.at.index (inside f.body frame.at.entered.items) (of_inside f.body frame.at.entered.items all)) in
      here.0

mutual
  -- a fact of each statement, where another one follows from it
  pub everywhere_weaker : (P Q : Stmt → Type 0) → ((s : Stmt) → P s → Q s) → (ss : Stmts) → Everywhere P ss → Everywhere Q ss
  everywhere_weaker P Q follows Nil all = tt
  everywhere_weaker P Q follows (Cons s rest) all = (follows s all.0, inside_weaker P Q follows s all.1, everywhere_weaker P Q follows rest all.2)

  inside_weaker : (P Q : Stmt → Type 0) → ((s : Stmt) → P s → Q s) → (s : Stmt) → EverywhereInside P s → EverywhereInside Q s
  inside_weaker P Q follows (If test a b) all = (everywhere_weaker P Q follows a all.0, everywhere_weaker P Q follows b all.1)
  inside_weaker P Q follows (While test body) all = everywhere_weaker P Q follows body all
  inside_weaker P Q follows (For first_part test step body) all =
      (everywhere_weaker P Q follows first_part all.0, everywhere_weaker P Q follows step all.1, everywhere_weaker P Q follows body all.2)
  inside_weaker P Q follows (TryLock place a b) all = (everywhere_weaker P Q follows a all.0, everywhere_weaker P Q follows b all.1)
  inside_weaker P Q follows s all = tt

-- ---- what statements give values

either_left : (a b : Bool) → a ≡ true → (a || b) ≡ true
either_left a b is = ap (λ x. x || b) is

either_right : (a b : Bool) → b ≡ true → (a || b) ≡ true
either_right true b is = refl
either_right false b is = is

same_name : (name : List ℕ) → bytes_eq name name ≡ true
same_name name = (bytes_eq-Decides name name).1 refl

target_among : (names : LocalNames) (s : Stmt) → ((q : List ℕ) → is_target q s ≡ true → IsAmong names q) → SetsAmong names s
target_among names s all = by (target s) refl
  where
    by : (t : Option (List ℕ)) → target s ≡ t → IfSome t (IsAmong names)
    by None e = tt
    by (Some name) e = all name (ap (λ t. option_map_or (bytes_eq name) t false) e ∙ same_name name)

mutual
  pub sets_among_all : (names : LocalNames) (ss : Stmts) → ((q : List ℕ) → is_set q ss ≡ true → IsAmong names q) → Everywhere (SetsAmong names) ss
  sets_among_all names Nil all = tt
  sets_among_all names (Cons s rest) all = (
    target_among names s (λ q is. all q (either_left (is_target q s || is_set_inside q s) (is_set q rest) (either_left (is_target q s) (is_set_inside q s) is))),
    sets_among_inside names s (λ q is. all q (either_left (is_target q s || is_set_inside q s) (is_set q rest) (either_right (is_target q s) (is_set_inside q s) is))),
    sets_among_all names rest (λ q is. all q (either_right (is_target q s || is_set_inside q s) (is_set q rest) is)),
  )

  sets_among_inside : (names : LocalNames) (s : Stmt) → ((q : List ℕ) → is_set_inside q s ≡ true → IsAmong names q) → EverywhereInside (SetsAmong names) s
  sets_among_inside names (If test a b) all = (
    sets_among_all names a (λ q is. all q (either_left (is_set q a) (is_set q b) is)),
    sets_among_all names b (λ q is. all q (either_right (is_set q a) (is_set q b) is)),
  )
  sets_among_inside names (While test body) all = sets_among_all names body all
  sets_among_inside names (For first_part test step body) all = (
    sets_among_all names first_part (λ q is. all q (either_left (is_set q first_part || is_set q step) (is_set q body) (either_left (is_set q first_part) (is_set q step) is))),
    sets_among_all names step (λ q is. all q (either_left (is_set q first_part || is_set q step) (is_set q body) (either_right (is_set q first_part) (is_set q step) is))),
    sets_among_all names body (λ q is. all q (either_right (is_set q first_part || is_set q step) (is_set q body) is)),
  )
  sets_among_inside names (TryLock place a b) all = (
    sets_among_all names a (λ q is. all q (either_left (is_set q a) (is_set q b) is)),
    sets_among_all names b (λ q is. all q (either_right (is_set q a) (is_set q b) is)),
  )
  sets_among_inside names s all = tt

-- what each statement of a function gives a value is among its names
pub sets_among : (f : Function) (names : LocalNames) → NamesOf f names → Everywhere (SetsAmong names) f.body
sets_among f names of = sets_among_all names f.body (λ q is. of.exact q ∙ either_right (is_among f.params q) (is_set q f.body) is)
