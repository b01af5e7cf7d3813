-- The marks of outlines make their pieces.
use Rattle.std.specs.Prelude.{◌≡◌, ℕ, ℤ, nat_lt, Bool, true, false, if◌then◌else◌, List, [], ◌∷◌, ◌++◌, length, map, bytes_eq, Some, None, ⊤}
use Rattle.std.specs.declared.option.Option.{Option}
use Rattle.std.proofs.Common.{refl, ap, sym, ◌∙◌, subst}
use Rattle.c_tree.specs.Bare as bare
use Rattle.c_tree.specs.Lined as tree
use Rattle.c_tree.specs.Lined.{Stmt, Stmts, Function, Program, bare_program}
use Rattle.outlines.specs.Outline as outline
use Rattle.outlines.specs.Outline.{Part, Parts, Thread, joined}
use Rattle.rule_facts.specs.FromLast.{from_last}
use Rattle.contexts.specs.Constants.{Constants, known_after, known_in, known_end, known_turn}
use Rattle.contexts.specs.Resolved.{resolved, constants_of, passed, writes_of}
use Rattle.contexts.specs.Bears.{bears_all}
use Rattle.contexts.specs.Walk.{Walked, Found, Unresolved, TooMany, then_walk, walk, walk_all, Above, Scene, part, one, with_resource}
use Rattle.contexts.specs.Outlines.{scene, entered, entered_as, above_of, outlines, walk_starts, starts}
use Rattle.context_items.specs.Marks.{Mark, Enters, marks_all, marks_of}
use Rattle.context_items.specs.Flat.{flat_above, items_bear}
use Rattle.context_items.specs.Items.{items_all}
use Rattle.context_items.proofs.FlatWalk.{marks_joined}
use Rattle.context_items.proofs.FlatProgram.{bear_same}
use Rattle.outline_pieces.specs.declared.pieces.Piece.{Piece}
use Rattle.outline_pieces.specs.declared.pieces.Piece.TheVariants as piece
use Rattle.outline_pieces.specs.declared.pieces.Deed.TheVariants as deed
use Rattle.outline_pieces.specs.Pieces.{woken_pieces, wait_pieces, pieces, pieces_all, threads_pieces}
use Rattle.flow_graph.specs.Shapes.{Shape, shapes, shapes_all}
use Rattle.flow_graph.specs.Weaving.{Woven, Entries, led_by, around, weave, function_shapes, entries_of, lines_in, thread_of, threads_of, behind_next, MarksMakePieces}

-- ---- pieces

woken_append : (line r : ℕ) (takes : List ℕ) (more rest : List Piece) → woken_pieces line r takes (more ++ rest) ≡ woken_pieces line r takes more ++ rest
woken_append line r [] more rest = refl
woken_append line r (c ∷ cs) more rest = ap (λ xs. piece.Pass line (deed.Take c) ∷ xs) (woken_append line r cs more rest)

pub wait_append : (line r : ℕ) (takes : List ℕ) (more rest : List Piece) → wait_pieces line r takes (more ++ rest) ≡ wait_pieces line r takes more ++ rest
wait_append line r takes more rest = ap (λ xs. piece.Pass line (deed.Wait r) ∷ piece.Pass line deed.Sleep ∷ xs) (woken_append line r takes more rest)

mutual
  part_append : (x : Part) (more rest : List Piece) → pieces x (more ++ rest) ≡ pieces x more ++ rest
  part_append (outline.Step line) more rest = refl
  part_append (outline.Join line) more rest = refl
  part_append (outline.Acquire line r) more rest = refl
  part_append (outline.Release line r) more rest = refl
  part_append (outline.Wait line r takes) more rest = wait_append line r takes more rest
  part_append (outline.Try line r a b) more rest =
      ap (λ xs. piece.Fork line (Some r) ∷ xs) (ap (λ xs. pieces_all a (piece.Else ∷ xs)) (parts_append b (piece.ArmsEnd ∷ more) rest) ∙ parts_append a (piece.Else ∷ pieces_all b (piece.ArmsEnd ∷ more)) rest)
  part_append (outline.Branch line a b) more rest =
      ap (λ xs. piece.Fork line None ∷ xs) (ap (λ xs. pieces_all a (piece.Else ∷ xs)) (parts_append b (piece.ArmsEnd ∷ more) rest) ∙ parts_append a (piece.Else ∷ pieces_all b (piece.ArmsEnd ∷ more)) rest)
  part_append (outline.Loop line body) more rest = ap (λ xs. piece.Loop line ∷ xs) (parts_append body (piece.LoopEnd ∷ more) rest)
  part_append (outline.Inner line k body) more rest = ap (λ xs. piece.Inner line ∷ xs) (parts_append body (piece.InnerEnd ∷ more) rest)
  part_append (outline.Leave line) more rest = refl

  parts_append : (xs : Parts) (more rest : List Piece) → pieces_all xs (more ++ rest) ≡ pieces_all xs more ++ rest
  parts_append outline.Nil more rest = refl
  parts_append (outline.Cons x xs) more rest = ap (pieces x) (parts_append xs more rest) ∙ part_append x (pieces_all xs more) rest

pieces_joined : (xs ys : Parts) (more : List Piece) → pieces_all (joined xs ys) more ≡ pieces_all xs (pieces_all ys more)
pieces_joined outline.Nil ys more = refl
pieces_joined (outline.Cons x xs) ys more = ap (pieces x) (pieces_joined xs ys more)

-- ---- what is found

-- what holds of a finding
abbrev Of : {X : Type 0} → (X → Type 0) → Walked X → Type 0
Of P (Found x n) = P x
Of P (Unresolved line) = ⊤
Of P TooMany = ⊤

then_of : {X Y : Type 0} (P : X → Type 0) (Q : Y → Type 0) (r : Walked X) (go : X → List ℕ → Walked Y) → Of P r → ((x : X) (n : List ℕ) → P x → Of Q (go x n)) → Of Q (then_walk r go)
then_of P Q (Found x n) go here behind = behind x n here
then_of P Q (Unresolved line) go here behind = tt
then_of P Q TooMany go here behind = tt

-- pieces before those that are woven
abbrev front : Parts → Woven → Woven
front xs w = record { pieces = pieces_all xs w.pieces; left = w.left }

module _ (p : bare.Program) (c : Entries) where
  -- with the marks of these parts, what is put before shapes makes their pieces
  abbrev Weaves : (List Shape → List Shape) → Parts → Type 0
  Weaves put xs = (more : List Shape) (rest : List Mark) → weave p c (put more) (marks_all xs rest) ≡ front xs (weave p c more rest)

  both : (put and : List Shape → List Shape) (xs ys : Parts) → Weaves put xs → Weaves and ys → Weaves (λ more. put (and more)) (joined xs ys)
  both put and xs ys first second more rest =
      ap (weave p c (put (and more))) (marks_joined xs ys rest) ∙ first (and more) (marks_all ys rest) ∙ ap (front xs) (second more rest)
      ∙ ap (λ w. record { pieces = w; left = (weave p c more rest).left }) (sym (pieces_joined xs ys (weave p c more rest).pieces))

  -- two arms
  arms : (put and : List Shape → List Shape) (xs ys : Parts) → Weaves put xs → Weaves and ys → (x : Piece) (more : List Shape) (rest : List Mark)
      → led_by x (weave p c (put (Shape.Else ∷ and (Shape.ArmsEnd ∷ more))) (marks_all xs (marks_all ys rest)))
      ≡ record { pieces = x ∷ pieces_all xs (piece.Else ∷ pieces_all ys (piece.ArmsEnd ∷ (weave p c more rest).pieces)); left = (weave p c more rest).left }
  arms put and xs ys first second x more rest =
      ap (led_by x) (first (Shape.Else ∷ and (Shape.ArmsEnd ∷ more)) (marks_all ys rest) ∙ ap (λ w. front xs (led_by piece.Else w)) (second (Shape.ArmsEnd ∷ more) rest))

-- the functions above that bear locks are the same along items
bears_are : (p : bare.Program) (fs : List (ℕ × Function)) (name : List ℕ) → (flat_above p fs).bears name ≡ (above_of p fs).bears name
bears_are p [] name = refl
bears_are p (f ∷ fs) name = by (bytes_eq f.1.name name) (bear_same (flat_above p fs).bears (above_of p fs).bears (bears_are p fs) f.1.body) (bears_are p fs name)
  where
    by : (b : Bool) → items_bear (flat_above p fs).bears (items_all f.1.body []) ≡ bears_all (above_of p fs).bears f.1.body → (flat_above p fs).bears name ≡ (above_of p fs).bears name
        → (if b then items_bear (flat_above p fs).bears (items_all f.1.body []) else (flat_above p fs).bears name) ≡ (if b then bears_all (above_of p fs).bears f.1.body else (above_of p fs).bears name)
    by true first second = first
    by false first second = second

-- what is entered is woven from its marks
pub record Fits (p : bare.Program) (above : Above) (c : Entries) : Type 0 where
  bears : (name : List ℕ) → c.bears name ≡ above.bears name
  enter : (name : List ℕ) (args : List (Option ℤ)) (n : List ℕ)
      → Of (λ (f : Thread). (rest : List Mark) → c.enter name (marks_all f.body rest) ≡ record { pieces = pieces_all f.body []; left = rest }) (above.enter name args n)

-- ---- statements

module _ (x : Scene) (c : Entries) (fits : Fits x.program x.above c) where
  abbrev Makes : (List Shape → List Shape) → Walked Parts → Type 0
  Makes put w = Of (Weaves x.program c put) w

  call_makes : (line : ℕ) (name : List ℕ) (args : List (Option ℤ)) (n : List ℕ) (b : Bool) → c.bears name ≡ b
      → Makes (λ more. Shape.Call line name ∷ more) (if b then then_walk (x.above.enter name args n) (λ f m. one (outline.Inner line f.context f.body) m) else one (outline.Step line) n)
  call_makes line name args n true is =
      then_of (λ (f : Thread). (rest : List Mark) → c.enter name (marks_all f.body rest) ≡ record { pieces = pieces_all f.body []; left = rest }) (Weaves x.program c (λ more. Shape.Call line name ∷ more))
      (x.above.enter name args n) (λ f m. one (outline.Inner line f.context f.body) m) (fits.enter name args n)
      (λ f m inside. λ more rest.
      ap (λ b. if b then around line (c.enter name (marks_all f.body rest)) (weave x.program c more) else led_by (piece.Pass line deed.Plain) (weave x.program c more (Enters f.context ∷ marks_all f.body rest))) is
      ∙ ap (λ w. around line w (weave x.program c more)) (inside rest)
      ∙ ap (λ xs. record { pieces = piece.Inner line ∷ xs; left = (weave x.program c more rest).left }) (sym (parts_append f.body [] (piece.InnerEnd ∷ (weave x.program c more rest).pieces))))
  call_makes line name args n false is =
      λ more rest. ap (λ b. if b then around line (c.enter name (behind_next rest)) (weave x.program c more) else led_by (piece.Pass line deed.Plain) (weave x.program c more rest)) is

  at_mutex : (line : ℕ) (o : Option ℕ) (make : ℕ → Part) (put : List Shape → List Shape) (n : List ℕ) → ((r : ℕ) → Weaves x.program c put (part (make r))) → Makes put (with_resource line o (λ r. one (make r) n))
  at_mutex line None make put n weaves = tt
  at_mutex line (Some r) make put n weaves = weaves r

  trying : (line : ℕ) (place : _) (taken busy : Stmts) (known : Constants) (n : List ℕ) (o : Option ℕ) → Makes (shapes_all taken) (walk_all x known taken n)
      → ((m : List ℕ) → Makes (shapes_all busy) (walk_all x known busy m)) → Makes (shapes (tree.TryLock line place taken busy))
      (with_resource line o (λ r. then_walk (walk_all x known taken n) (λ xs m. then_walk (walk_all x known busy m) (λ ys k. one (outline.Try line r xs ys) k))))
  trying line place taken busy known n None one_arm other_arm = tt
  trying line place taken busy known n (Some r) one_arm other_arm =
      then_of (Weaves x.program c (shapes_all taken)) (Weaves x.program c (shapes (tree.TryLock line place taken busy))) (walk_all x known taken n) (λ xs m. then_walk (walk_all x known busy m) (λ ys k. one (outline.Try line r xs ys) k)) one_arm
      (λ xs m first. then_of (Weaves x.program c (shapes_all busy)) (Weaves x.program c (shapes (tree.TryLock line place taken busy))) (walk_all x known busy m) (λ ys k. one (outline.Try line r xs ys) k) (other_arm m)
      (λ ys k second. λ more rest. arms x.program c (shapes_all taken) (shapes_all busy) xs ys first second (piece.Fork line (Some r)) more rest))

  mutual
    makes : (known : Constants) (s : Stmt) (n : List ℕ) → Makes (shapes s) (walk x known s n)
    makes known (tree.Call line target name args) n =
        subst (λ b. Makes (λ more. Shape.Call line name ∷ more) (if b then then_walk (x.above.enter name (constants_of known args) n) (λ f m. one (outline.Inner line f.context f.body) m) else one (outline.Step line) n))
        (fits.bears name) (call_makes line name (constants_of known args) n (c.bears name) refl)
    makes known (tree.If line test a b) n =
        then_of (Weaves x.program c (shapes_all a)) (Weaves x.program c (shapes (tree.If line test a b))) (walk_all x known a n) (λ xs m. then_walk (walk_all x known b m) (λ ys k. one (outline.Branch line xs ys) k)) (makes_all known a n)
        (λ xs m first. then_of (Weaves x.program c (shapes_all b)) (Weaves x.program c (shapes (tree.If line test a b))) (walk_all x known b m) (λ ys k. one (outline.Branch line xs ys) k) (makes_all known b m)
        (λ ys k second. λ more rest. arms x.program c (shapes_all a) (shapes_all b) xs ys first second (piece.Fork line None) more rest))
    makes known (tree.While line test body) n =
        then_of (Weaves x.program c (shapes_all body)) (Weaves x.program c (shapes (tree.While line test body))) (walk_all x (known_in known body) body n) (λ xs m. one (outline.Loop line xs) m) (makes_all (known_in known body) body n)
        (λ xs m inside. λ more rest. ap (led_by (piece.Loop line)) (inside (Shape.LoopEnd ∷ more) rest))
    makes known (tree.For line first_part test step body) n =
        let turn = known_turn x.writes known first_part step body in
        let end = known_end x.writes turn body in
        then_of (Weaves x.program c (shapes_all body)) (Weaves x.program c (shapes (tree.For line first_part test step body))) (walk_all x turn body n)
        (λ xs m. then_walk (walk_all x end step m) (λ ys k. Found (outline.Cons (outline.Step line) (part (outline.Loop line (joined xs ys)))) k)) (makes_all turn body n)
        (λ xs m first. then_of (Weaves x.program c (shapes_all step)) (Weaves x.program c (shapes (tree.For line first_part test step body))) (walk_all x end step m)
        (λ ys k. Found (outline.Cons (outline.Step line) (part (outline.Loop line (joined xs ys)))) k) (makes_all end step m)
        (λ ys k second. λ more rest. ap (λ w. led_by (piece.Pass line deed.Plain) (led_by (piece.Loop line) w)) (both x.program c (shapes_all body) (shapes_all step) xs ys first second (Shape.LoopEnd ∷ more) rest)))
    makes known (tree.Return line value) n = λ more rest. refl
    makes known (tree.Join line slot) n = λ more rest. refl
    makes known (tree.Lock line place) n = at_mutex line (resolved x.program known place) (outline.Acquire line) (shapes (tree.Lock line place)) n (λ r. λ more rest. refl)
    makes known (tree.TryLock line place taken busy) n =
        trying line place taken busy known n (resolved x.program known place) (makes_all known taken n) (λ m. makes_all known busy m)
    makes known (tree.Unlock line place) n = at_mutex line (resolved x.program known place) (outline.Release line) (shapes (tree.Unlock line place)) n (λ r. λ more rest. refl)
    makes known (tree.Wait line cond mutex takes) n =
        at_mutex line (resolved x.program known mutex) (λ r. outline.Wait line r _) (shapes (tree.Wait line cond mutex takes)) n (λ r. λ more rest. refl)
    makes known (tree.Take line monitor) n = λ more rest. refl
    makes known (tree.Give line monitor) n = λ more rest. refl
    makes known s n = λ more rest. refl

    makes_all : (known : Constants) (ss : Stmts) (n : List ℕ) → Makes (shapes_all ss) (walk_all x known ss n)
    makes_all known tree.Nil n = λ more rest. refl
    makes_all known (tree.Cons s rest) n =
        then_of (Weaves x.program c (shapes s)) (Weaves x.program c (shapes_all (tree.Cons s rest))) (walk x known s n)
        (λ xs m. then_walk (walk_all x (known_after x.writes known s) rest m) (λ ys k. Found (joined xs ys) k)) (makes known s n)
        (λ xs m first. then_of (Weaves x.program c (shapes_all rest)) (Weaves x.program c (shapes_all (tree.Cons s rest))) (walk_all x (known_after x.writes known s) rest m)
        (λ ys k. Found (joined xs ys) k) (makes_all (known_after x.writes known s) rest m)
        (λ ys k second. λ more others. both x.program c (shapes s) (shapes_all rest) xs ys first second more others))

-- ---- functions

abbrev IsEntered : List ℕ → Entries → Thread → Type 0
IsEntered name c f = (rest : List Mark) → c.enter name (marks_all f.body rest) ≡ record { pieces = pieces_all f.body []; left = rest }

record HasLines (lines : ℕ × ℕ) (t : Thread) : Type 0 where
  line : t.line ≡ lines.0
  end_line : t.end_line ≡ lines.1

module _ (p : bare.Program) where
  -- a function that is entered
  entered_makes : (above : Above) (c : Entries) → Fits p above c → (f : ℕ × Function) (args : List (Option ℤ)) (n : List ℕ)
      → Of (λ (t : Thread). (rest : List Mark) → weave p c (function_shapes f.1) (marks_all t.body rest) ≡ record { pieces = pieces_all t.body []; left = rest }) (entered p above f args n)
  entered_makes above c fits f args n = by (nat_lt (length n) 256)
    where
      leave : Parts
      leave = part (outline.Leave f.1.end_line)

      by : (b : Bool) → Of (λ (t : Thread). (rest : List Mark) → weave p c (function_shapes f.1) (marks_all t.body rest) ≡ record { pieces = pieces_all t.body []; left = rest })
          (if b then then_walk (walk_all (scene p above f.1) (passed (writes_of p f.1) f.1.params args) f.1.body (f.0 ∷ n)) (entered_as f.1 n) else TooMany)
      by true =
          then_of (Weaves p c (shapes_all f.1.body)) (λ (t : Thread). (rest : List Mark) → weave p c (function_shapes f.1) (marks_all t.body rest) ≡ record { pieces = pieces_all t.body []; left = rest })
          (walk_all (scene p above f.1) (passed (writes_of p f.1) f.1.params args) f.1.body (f.0 ∷ n)) (entered_as f.1 n)
          (makes_all (scene p above f.1) c fits (passed (writes_of p f.1) f.1.params args) f.1.body (f.0 ∷ n))
          (λ xs m inside. λ rest. both p c (shapes_all f.1.body) (λ more. Shape.Leave f.1.end_line ∷ more) xs leave inside (λ more others. refl) [] rest)
      by false = tt

  more_fits : (f : ℕ × Function) (fs : List (ℕ × Function)) → Fits p (above_of p fs) (entries_of p fs) → Fits p (above_of p (f ∷ fs)) (entries_of p (f ∷ fs))
  more_fits f fs there = record {
    bears = bears_so;
    enter = λ name args n. enter_by name args n (bytes_eq f.1.name name);
  }
    where
      bears_so : (name : List ℕ) → (flat_above p (f ∷ fs)).bears name ≡ (above_of p (f ∷ fs)).bears name
      bears_so = bears_are p (f ∷ fs)

      enter_by : (name : List ℕ) (args : List (Option ℤ)) (n : List ℕ) (b : Bool)
          → Of (λ (t : Thread). (rest : List Mark) → (if b then weave p (entries_of p fs) (function_shapes f.1) (marks_all t.body rest) else (entries_of p fs).enter name (marks_all t.body rest)) ≡ record { pieces = pieces_all t.body []; left = rest })
          (if b then entered p (above_of p fs) f args n else (above_of p fs).enter name args n)
      enter_by name args n true = entered_makes (above_of p fs) (entries_of p fs) there f args n
      enter_by name args n false = there.enter name args n

  fits_of : (fs : List (ℕ × Function)) → Fits p (above_of p fs) (entries_of p fs)
  fits_of [] = record { bears = λ name. refl; enter = λ name args n. λ rest. refl }
  fits_of (f ∷ fs) = more_fits f fs (fits_of fs)

  -- ---- lines

  lines_entered : (above : Above) (f : ℕ × Function) (args : List (Option ℤ)) (n : List ℕ) → Of (HasLines (f.1.line, f.1.end_line)) (entered p above f args n)
  lines_entered above f args n = by (nat_lt (length n) 256)
    where
      found : (w : Walked Parts) → Of (HasLines (f.1.line, f.1.end_line)) (then_walk w (entered_as f.1 n))
      found (Found xs m) = record { line = refl; end_line = refl }
      found (Unresolved line) = tt
      found TooMany = tt

      by : (b : Bool) → Of (HasLines (f.1.line, f.1.end_line))
          (if b then then_walk (walk_all (scene p above f.1) (passed (writes_of p f.1) f.1.params args) f.1.body (f.0 ∷ n)) (entered_as f.1 n) else TooMany)
      by true = found (walk_all (scene p above f.1) (passed (writes_of p f.1) f.1.params args) f.1.body (f.0 ∷ n))
      by false = tt

  more_lines : (f : ℕ × Function) (fs : List (ℕ × Function)) (name : List ℕ) (args : List (Option ℤ)) (n : List ℕ) → Of (HasLines (lines_in fs name)) ((above_of p fs).enter name args n) → (b : Bool)
      → Of (HasLines (if b then (f.1.line, f.1.end_line) else lines_in fs name)) (if b then entered p (above_of p fs) f args n else (above_of p fs).enter name args n)
  more_lines f fs name args n there true = lines_entered (above_of p fs) f args n
  more_lines f fs name args n there false = there

  lines_of : (fs : List (ℕ × Function)) (name : List ℕ) (args : List (Option ℤ)) (n : List ℕ) → Of (HasLines (lines_in fs name)) ((above_of p fs).enter name args n)
  lines_of [] name args n = record { line = refl; end_line = refl }
  lines_of (f ∷ fs) name args n = more_lines f fs name args n (lines_of fs name args n) (bytes_eq f.1.name name)

-- ---- threads

both_of : {X : Type 0} (P Q : X → Type 0) (w : Walked X) → Of P w → Of Q w → Of (λ x. P x × Q x) w
both_of P Q (Found x n) p q = (p, q)
both_of P Q (Unresolved line) p q = tt
both_of P Q TooMany p q = tt

threads_make : (p : bare.Program) (fs : List (ℕ × Function)) (ss : List (List ℕ × List (Option ℤ))) (n : List ℕ)
    → Of (λ es. threads_of (entries_of p fs) (lines_in fs) (map (λ s. s.0) ss) (marks_of es) ≡ threads_pieces es) (walk_starts (above_of p fs) ss n)
threads_make p fs [] n = refl
threads_make p fs (s ∷ ss) n =
    then_of (λ (t : Thread). IsEntered s.0 (entries_of p fs) t × HasLines (lines_in fs s.0) t) (λ es. threads_of (entries_of p fs) (lines_in fs) (map (λ s. s.0) (s ∷ ss)) (marks_of es) ≡ threads_pieces es)
    ((above_of p fs).enter s.0 s.1 n) (λ x m. then_walk (walk_starts (above_of p fs) ss m) (λ xs k. Found (x ∷ xs) k))
    (both_of (IsEntered s.0 (entries_of p fs)) (HasLines (lines_in fs s.0)) ((above_of p fs).enter s.0 s.1 n) ((fits_of p fs).enter s.0 s.1 n) (lines_of p fs s.0 s.1 n))
    (λ x m here. then_of (λ es. threads_of (entries_of p fs) (lines_in fs) (map (λ s. s.0) ss) (marks_of es) ≡ threads_pieces es)
    (λ es. threads_of (entries_of p fs) (lines_in fs) (map (λ s. s.0) (s ∷ ss)) (marks_of es) ≡ threads_pieces es)
    (walk_starts (above_of p fs) ss m) (λ xs k. Found (x ∷ xs) k) (threads_make p fs ss m)
    (λ xs k there.
    ap (λ w. thread_of (lines_in fs s.0) w (threads_of (entries_of p fs) (lines_in fs) (map (λ s. s.0) ss))) (here.0 (marks_of xs))
    ∙ (λ i. piece.Begin (sym here.1.line i) ∷ (pieces_all x.body [] ++ (piece.Finish (sym here.1.end_line i) ∷ there i)))
    ∙ ap (λ ps. piece.Begin x.line ∷ ps) (sym (parts_append x.body [] (piece.Finish x.end_line ∷ threads_pieces xs)))))

pub marks_make_pieces : MarksMakePieces
marks_make_pieces p es places found =
    subst (Of (λ es. threads_of (entries_of (bare_program p) (from_last p)) (lines_in (from_last p)) (map (λ s. s.0) (starts p)) (marks_of es) ≡ threads_pieces es)) found
    (threads_make (bare_program p) (from_last p) (starts p) [])
