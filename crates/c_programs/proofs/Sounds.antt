-- The programs that are read are spelled, by the definitions that stand before each token.
use Rattle.std.proofs.Common.{◌≡◌, ℕ, ◌≤◌, Bool, true, false, ◌&&◌, List, [], ◌∷◌, ◌++◌, refl, sym, ap, subst, ◌∙◌, inl, inr, ◌⊎◌, arith}
use Rattle.std.proofs.lemmas.List.{append_cancel_right, map-append}
use Rattle.c_lexer.specs.declared.token.Sign.TheVariants as s
use Rattle.c_tree.specs.Lined.{Program}
use Rattle.c_tree.specs.declared.program.Slot.{Slot}
use Rattle.c_tree.specs.declared.program.Object.{Object}
use Rattle.c_grammar.specs.declared.words.FixedWord.{FixedWord}
use Rattle.c_grammar.specs.declared.words.FixedWord.TheVariants as w
use Rattle.c_grammar.specs.Items.{What, Item, fixed}
use Rattle.c_grammar.specs.Levels.{Tall, tall}
use Rattle.c_grammar.specs.Statements as st
use Rattle.c_grammar.specs.Statements.{Body, SpellsStatic, SpellsSlots, SpellsBody}
use Rattle.c_grammar.specs.Declarations as g
use Rattle.c_grammar.specs.Declarations.{SpellsCells, SpellsObjects, SpellsCapacities, SpellsHead, Defined, SpellsFunction}
use Rattle.c_grammar.specs.Programs as programs
use Rattle.c_grammar.specs.Programs.{empty_program, capacity_program, with_cells, with_slots, with_function, SpellsOuter, SpellsProgram}
use Rattle.parse_laws.specs.Parser.{Got, Parser, pure, Go, and_go, loop}
use Rattle.parse_laws.proofs.Sound.{Sound, SoundMove, stop_sound, go_sound, pure_sound, refuse_sound, sound_map, bind_sound, and_go_sound, commit_sound, when_sound, token_sound, loop_sound}
use Rattle.c_expressions.specs.Parsers.{Sight, seen, is}
use Rattle.c_expressions.proofs.Sounds.{items}
use Rattle.c_declarations.specs.declared.tree.Sort.{Sort}
use Rattle.c_declarations.specs.declared.tree.Sort.TheVariants as sort
use Rattle.c_declarations.specs.declared.tree.Ints.{Ints}
use Rattle.c_declarations.specs.declared.tree.Head.{Head}
use Rattle.c_declarations.specs.declared.tree.Begun.{Begun}
use Rattle.c_declarations.specs.declared.tree.Begun.TheVariants as begun
use Rattle.c_declarations.specs.Parsers.{line}
use Rattle.c_declarations.specs.Shown.{sort_of, capacities_of, head_of}
use Rattle.c_declarations.specs.Spelled.{SpellsBehindInt}
use Rattle.c_declarations.proofs.Tokens.{sign_at, seen_at}
use Rattle.c_declarations.proofs.Sounds.{behind_int_sound, behind_void_sound, objects_sound, wait_declared_sound}
use Rattle.c_declarations.proofs.Waits.{with_wait}
use Rattle.c_fronts.specs.Fronts.{is_plain, all_plain, Takes}
use Rattle.c_fronts.proofs.Put.{takes}
use Rattle.c_fronts.proofs.Statements.{slots_taken}
use Rattle.c_fronts.proofs.Outer.{cells_taken, objects_taken, capacities_taken, function_taken}
use Rattle.c_statements.proofs.BodySounds.{body_sound, slot_list_sound}
use Rattle.c_statements.proofs.Fits.{body_fits}
use Rattle.c_programs.specs.declared.token.Opening.{Opening}
use Rattle.c_programs.specs.declared.token.Opening.TheVariants as o
use Rattle.c_programs.specs.Words.{outer_opening}
use Rattle.c_programs.specs.Parsers.{Views, Reading, read, function_behind, function_added, with_ints, finished, ints_added, void_added, objects_added, slots_added, declared_by, static_added, outer_by, turn_by, turn, first_by, first_part, program}

-- ---- what a program grows by, within its levels

pub data Grows (room : ℕ) (p : Tall Program) : List Item → List Item → Tall Program → Type 0 where
  by_cells : {before after : List Item} {all : List g.Declared} → SpellsCells before after all → Grows room p before after (with_cells p all)
  by_objects : {before after : List Item} {o : g.Sort} {all : List Object} → SpellsObjects o before after all → Grows room p before after (programs.with_objects p o all)
  by_slots : {before after : List Item} {all : List Slot} → SpellsSlots before after all → Grows room p before after (with_slots p all)
  by_function : {before after : List Item} {f : Tall Defined} → SpellsFunction before after f → f.levels ≤ room → Grows room p before after (with_function p f)

takes_as : {R S : List Item → List Item → Type 0} {before after : List Item} → ((b c : List Item) → R b c → S b c) → Takes R before after → Takes S before after
takes_as h x = record { front = x.front; plain = x.plain; parts = x.parts; again = λ z. h _ z (x.again z) }

pub grows_takes : {room : ℕ} {p q : Tall Program} {before after : List Item} → Grows room p before after q → Takes (λ b c. Grows room p b c q) before after
grows_takes (by_cells x) = takes_as (λ b c y. by_cells y) (takes (cells_taken x))
grows_takes (by_objects x) = takes_as (λ b c y. by_objects y) (takes (objects_taken x))
grows_takes (by_slots x) = takes_as (λ b c y. by_slots y) (takes (slots_taken x))
grows_takes (by_function x le) = takes_as (λ b c y. by_function y le) (takes (function_taken x))

grows_low : {room : ℕ} {p q : Tall Program} {before after : List Item} → p.levels ≤ room → Grows room p before after q → q.levels ≤ room
grows_low le (by_cells x) = le
grows_low le (by_objects {o = g.mutex} x) = le
grows_low le (by_objects {o = g.condition} x) = le
grows_low le (by_slots x) = le
grows_low le (by_function x f) = omega (arith, le, f)

then_grows : {room : ℕ} {start p q : Tall Program} {ts mid rest : List Item} → SpellsOuter start ts mid p → Grows room p mid rest q → SpellsOuter start ts rest q
then_grows d (by_cells x) = programs.then_cells d x
then_grows d (by_objects x) = programs.then_objects d x
then_grows d (by_slots x) = programs.then_slots d x
then_grows d (by_function x le) = programs.then_function d x

-- ---- declarations, by fixed definitions

pub opening_int : (a : What) → outer_opening a ≡ o.Int → a ≡ What.Fixed w.Int
opening_int (What.Fixed w.Int) e = refl
opening_int _ e = absurd cc

opening_void : (a : What) → outer_opening a ≡ o.Void → a ≡ What.Fixed w.Void
opening_void (What.Fixed w.Void) e = refl
opening_void _ e = absurd cc

opening_mutex : (a : What) → outer_opening a ≡ o.Mutex → a ≡ What.Fixed w.Mutex
opening_mutex (What.Fixed w.Mutex) e = refl
opening_mutex _ e = absurd cc

opening_condition : (a : What) → outer_opening a ≡ o.Condition → a ≡ What.Fixed w.Condition
opening_condition (What.Fixed w.Condition) e = refl
opening_condition _ e = absurd cc

opening_thread : (a : What) → outer_opening a ≡ o.Thread → a ≡ What.Fixed w.Thread
opening_thread (What.Fixed w.Thread) e = refl
opening_thread _ e = absurd cc

opening_static : (a : What) → outer_opening a ≡ o.Static → a ≡ What.Fixed w.Static
opening_static (What.Fixed w.Static) e = refl
opening_static _ e = absurd cc

opening_definition : (a : What) → outer_opening a ≡ o.Definition → a ≡ What.Definition
opening_definition What.Definition e = refl
opening_definition (What.Fixed x) e = absurd (no_word x e)
  where
    no_word : (x : FixedWord) → outer_opening (What.Fixed x) ≡ o.Definition → ⊥
    no_word w.Int e = cc
    no_word _ e = cc
opening_definition _ e = absurd cc

module _ {Token : Type 0} (v : Sight Token) (room : ℕ) where
  -- a function behind its head
  abbrev Behind : Head → List Token → List Token → Tall Defined → Type 0
  Behind h mid rest f = (ts hd : List Item) → SpellsStatic ts hd → SpellsHead hd (items v mid) (head_of h) → SpellsFunction ts (items v rest) f × (f.levels ≤ room)

  made : (h : Head) (u t : Token) (ts mid hd : List Item) (rest : List Item) (b : Tall Body) → is v s.LeftBrace u ≡ true → is v s.RightBrace t ≡ true → SpellsBody h.kind mid (v.item t ∷ rest) b → SpellsStatic ts hd → SpellsHead hd (v.item u ∷ mid) (head_of h)
      → SpellsFunction ts rest (tall (g.defined (head_of h) b.tree (line v t)) b.levels)
  made h u t ts mid hd rest b e d x a c =
      g.function a (subst (λ (y : Item). SpellsHead hd (y ∷ mid) (head_of h)) (sign_at v u s.LeftBrace e) c) (subst (λ (y : Item). SpellsBody h.kind mid (y ∷ rest) b) (sign_at v t s.RightBrace d) x)

  function_sound : (h : Head) → Sound (function_behind v room h) (Behind h)
  unfolding function_behind
  function_sound h =
      token_sound (λ u e. bind_sound {R = λ ts rest b. SpellsBody h.kind (items v ts) (items v rest) b × (b.levels ≤ room)}
      (record { spelled = λ ts b rest d. ((body_sound v room h.kind).spelled ts b rest d, (body_fits v room h.kind).spelled ts b rest d) })
      (λ b. token_sound (λ t d. pure_sound (λ rest mid y ts hd a c. (made h u t ts (items v mid) hd (items v rest) b e d y.0 a c, y.1)))))

  module _ (p : Tall Program) where
    -- what stands before a declaration: `static` or nothing
    module _ (pre : List Item → List Item) (static : (x : List Item) → SpellsStatic (pre x) x) where
      added_sound : (h : Head) → Sound (function_added v room p h) (λ mid rest q. (hd : List Item) → SpellsHead hd (items v mid) (head_of h) → Grows room p (pre hd) (items v rest) q)
      added_sound h = bind_sound (function_sound h) (λ f. pure_sound (λ rest mid y hd c. let x = y (pre hd) hd (static hd) c in by_function x.0 x.1))

      finished_sound : (l : ℕ) (x : Begun) → Sound (finished v room p x) (λ mid rest q. (ts : List Token) → SpellsBehindInt false l (items v ts) (items v mid) x → Grows room p (pre (fixed l w.Int ∷ items v ts)) (items v rest) q)
      finished_sound l (begun.Cells all) = pure_sound (λ mid ts y. subst (λ (z : Ints). Grows room p (pre (fixed l w.Int ∷ items v ts)) (items v mid) (with_ints p z)) y.1.2 (by_cells (g.cells (static (fixed l w.Int ∷ items v ts)) y.1.1)))
      finished_sound l (begun.Head h) = sound_map (λ mid rest q f ts y. f (fixed l w.Int ∷ items v ts) y) (added_sound h)
      finished_sound l (begun.Capacities c) = record { spelled = λ mid q rest e ts y. absurd (differs y.0) }
        where
          differs : false ≡ true → ⊥
          differs e = cc

      ints_sound : (holds : ℕ → Bool) (l : ℕ) → Sound (ints_added v holds room false l p) (λ mid rest q. Grows room p (pre (fixed l w.Int ∷ items v mid)) (items v rest) q)
      unfolding ints_added
      ints_sound holds l = bind_sound (behind_int_sound v holds false l) (λ x. finished_sound l x)

      void_sound : (l : ℕ) → Sound (void_added v room l p) (λ mid rest q. Grows room p (pre (fixed l w.Void ∷ items v mid)) (items v rest) q)
      unfolding void_added
      void_sound l = bind_sound (behind_void_sound v l) (λ h. sound_map (λ mid rest q f ts y. f (fixed l w.Void ∷ items v ts) y) (added_sound h))

      objects_grow : (o : Sort) (l : ℕ) → Sound (objects_added v o p) (λ mid rest q. Grows room p (pre (fixed l (g.type_word (sort_of o)) ∷ items v mid)) (items v rest) q)
      unfolding objects_added
      objects_grow o l = bind_sound (objects_sound v o) (λ all. pure_sound (λ rest ts y. by_objects {o = sort_of o} (g.objects (static (fixed l (g.type_word (sort_of o)) ∷ items v ts)) y.1)))

      slots_grow : (l : ℕ) → Sound (slots_added v p) (λ mid rest q. Grows room p (pre (fixed l w.Thread ∷ items v mid)) (items v rest) q)
      unfolding slots_added
      slots_grow l = bind_sound (slot_list_sound v) (λ all. pure_sound (λ rest ts y. by_slots (st.slots (static (fixed l w.Thread ∷ items v ts)) y.1)))

      declared_sound : (holds : ℕ → Bool) (u : Token) (x : Opening) → outer_opening (seen v u) ≡ x → SoundMove (λ mid rest q. Grows room p (pre (v.item u ∷ items v mid)) (items v rest) q) (declared_by v holds room p (line v u) x)
      declared_sound holds u o.Int e = go_sound (sound_map (λ mid rest q y. rw (seen_at v u (What.Fixed w.Int) (opening_int (seen v u) e)) y) (ints_sound holds (line v u)))
      declared_sound holds u o.Void e = go_sound (sound_map (λ mid rest q y. rw (seen_at v u (What.Fixed w.Void) (opening_void (seen v u) e)) y) (void_sound (line v u)))
      declared_sound holds u o.Mutex e = go_sound (sound_map (λ mid rest q y. rw (seen_at v u (What.Fixed w.Mutex) (opening_mutex (seen v u) e)) y) (objects_grow sort.Mutex (line v u)))
      declared_sound holds u o.Condition e = go_sound (sound_map (λ mid rest q y. rw (seen_at v u (What.Fixed w.Condition) (opening_condition (seen v u) e)) y) (objects_grow sort.Condition (line v u)))
      declared_sound holds u o.Thread e = go_sound (sound_map (λ mid rest q y. rw (seen_at v u (What.Fixed w.Thread) (opening_thread (seen v u) e)) y) (slots_grow (line v u)))
      declared_sound holds u _ e = stop_sound

    static_sound : (holds : ℕ → Bool) (u : Token) → outer_opening (seen v u) ≡ o.Static → Sound (static_added v holds room p) (λ mid rest q. Grows room p (v.item u ∷ items v mid) (items v rest) q)
    unfolding static_added
    static_sound holds u e =
        sound_map (λ mid rest q y. rw (seen_at v u (What.Fixed w.Static) (opening_static (seen v u) e)) y)
        (commit_sound {R = λ mid rest q. Grows room p (fixed (line v u) w.Static ∷ items v mid) (items v rest) q} (λ t. declared_sound (λ x. fixed (line v u) w.Static ∷ x) (λ x. st.present) holds t (outer_opening (seen v t)) refl) refuse_sound)

    pub outer_sound : (holds : ℕ → Bool) (u : Token) (x : Opening) → outer_opening (seen v u) ≡ x → SoundMove (λ mid rest q. Grows room p (v.item u ∷ items v mid) (items v rest) q) (outer_by v holds room p (line v u) x)
    outer_sound holds u o.Static e = when_sound v.declarations (λ d. static_sound holds u e)
    outer_sound holds u x e = declared_sound (λ y. y) (λ y. st.absent) holds u x e

-- ---- programs, by the definitions so far

module _ {Token Definitions : Type 0} (views : Views Token Definitions) where
  -- the items of tokens, each as it is seen by the definitions before it
  abbrev pub running : Definitions → List Token → List Item
  running d [] = []
  running d (u ∷ ts) = (views.sight d).item u ∷ running (views.then d u) ts

  module _ (still : (d : Definitions) (u : Token) → is_plain ((views.sight d).item u) ≡ true → views.then d u ≡ d) where
    pub first_plain : (t : Item) (ts : List Item) → all_plain (t ∷ ts) ≡ true → (is_plain t ≡ true) × (all_plain ts ≡ true)
    first_plain t ts e = go (is_plain t) refl e
      where
        go : (b : Bool) → is_plain t ≡ b → b && all_plain ts ≡ true → (is_plain t ≡ true) × (all_plain ts ≡ true)
        go true d e = (d, e)
        go false d e = absurd cc

    -- where no definition stands, they are seen alike
    run_on : (d : Definitions) (front rest : List Token) → all_plain (items (views.sight d) front) ≡ true → running d (front ++ rest) ≡ items (views.sight d) front ++ running d rest
    run_on d [] rest e = refl
    run_on d (u ∷ front) rest e =
        let p = first_plain ((views.sight d).item u) (items (views.sight d) front) e in
        ap (λ (x : List Item). (views.sight d).item u ∷ x) (ap (λ (c : Definitions). running c (front ++ rest)) (still d u p.0) ∙ run_on d front rest p.1)

    -- what is spelled by fixed definitions is spelled by those so far
    pub runs : {R : List Item → List Item → Type 0} (d : Definitions) (ts front rest : List Token) → ts ≡ front ++ rest → Takes R (items (views.sight d) ts) (items (views.sight d) rest) → R (running d ts) (running d rest)
    runs {R} d ts front rest e x =
        let same = append_cancel_right x.front (items (views.sight d) front) (items (views.sight d) rest) (sym x.parts ∙ ap (items (views.sight d)) e ∙ map-append (views.sight d).item front rest) in
        let plain = subst (λ (f : List Item). all_plain f ≡ true) same x.plain in
        let again = subst (λ (f : List Item). R (f ++ running d rest) (running d rest)) same (x.again (running d rest)) in
        subst (λ (y : List Item). R y (running d rest)) (sym (ap (running d) e ∙ run_on d front rest plain)) again

    module _ (room : ℕ) where
      -- what is read stands at the front
      abbrev pub Fronts : Type 0
      Fronts = (d : Definitions) (p : Tall Program) (u : Token) (q : Parser Token (Tall Program)) → outer_by (views.sight d) views.holds room p (line (views.sight d) u) (outer_opening (seen (views.sight d) u)) ≡ Go q
          → (mid rest : List Token) (x : Tall Program) → q mid ≡ Got x rest → (front : List Token) × (mid ≡ front ++ rest)

      module _ (fronts : Fronts) (start : Tall Program) where
        abbrev R : List Token → List Token → Reading Definitions → Type 0
        R ts rest r = SpellsOuter start (running views.none ts) (running r.defined rest) r.program × (r.program.levels ≤ room)

        grown : (ts mid front rest : List Token) (r : Reading Definitions) (u : Token) (q : Tall Program) → mid ≡ front ++ rest → Grows room r.program (items (views.sight r.defined) (u ∷ mid)) (items (views.sight r.defined) rest) q → R ts (u ∷ mid) r
            → R ts rest (read r.defined q)
        grown ts mid front rest r u q e y x =
            (then_grows x.0 (runs {R = λ b c. Grows room r.program b c q} r.defined (u ∷ mid) (u ∷ front) rest (ap (λ (z : List Token). u ∷ z) e) (grows_takes y)), grows_low x.1 y)

        move_sound : (r : Reading Definitions) (u : Token) (x : Opening) → outer_opening (seen (views.sight r.defined) u) ≡ x
            → SoundMove (λ mid rest q. (front : List Token) × (mid ≡ front ++ rest) × Grows room r.program (items (views.sight r.defined) (u ∷ mid)) (items (views.sight r.defined) rest) q) (outer_by (views.sight r.defined) views.holds room r.program (line (views.sight r.defined) u) x)
        move_sound r u x e = record {
          taken = λ p d. record {
            spelled = λ mid q rest h.
                let f = fronts r.defined r.program u p (ap (outer_by (views.sight r.defined) views.holds room r.program (line (views.sight r.defined) u)) e ∙ d) mid rest q h in
                (f.0, f.1, ((outer_sound (views.sight r.defined) room r.program views.holds u x e).taken p d).spelled mid q rest h);
          };
        }

        turn_sound : (r : Reading Definitions) (u : Token) → SoundMove (λ mid rest q. (ts : List Token) → R ts (u ∷ mid) r → R ts rest q) (turn views room r u)
        turn_sound r u = go (outer_opening (seen (views.sight r.defined) u)) refl
          where
            other : (x : Opening) → outer_opening (seen (views.sight r.defined) u) ≡ x
                → SoundMove (λ mid rest q. (ts : List Token) → R ts (u ∷ mid) r → R ts rest q) (and_go (outer_by (views.sight r.defined) views.holds room r.program (line (views.sight r.defined) u) x) (λ p. pure (read r.defined p)))
            other x e = and_go_sound (move_sound r u x e) (λ q. pure_sound (λ rest mid y ts z. grown ts mid y.0 rest r u q y.1 y.2 z))

            go : (x : Opening) → outer_opening (seen (views.sight r.defined) u) ≡ x → SoundMove (λ mid rest q. (ts : List Token) → R ts (u ∷ mid) r → R ts rest q) (turn_by views room r u x)
            go o.Definition e = go_sound (pure_sound (λ mid ts y. (
              programs.then_definition (subst (λ (t : Item). SpellsOuter start (running views.none ts) (t ∷ running (views.then r.defined u) mid) r.program)
                  (seen_at (views.sight r.defined) u What.Definition (opening_definition (seen (views.sight r.defined) u) e)) y.0),
              y.1,
            )))
            go x e = other x e

        parts_sound : (r : Reading Definitions) → Sound (loop (turn views room) r) (λ mid rest q. (ts : List Token) → R ts mid r → R ts rest q)
        parts_sound r = loop_sound {R = R} turn_sound r

      -- ---- what the text begins with

      abbrev pub FirstFronts : Type 0
      FirstFronts = (l : ℕ) (p : Tall Program) (mid rest : List Token) (x : Tall Program) → ints_added (views.sight views.none) views.holds room true l p mid ≡ Got x rest → (front : List Token) × (mid ≡ front ++ rest)

      module _ (end : ℕ) where
        abbrev v0 : Sight Token
        v0 = views.sight views.none

        -- something that a program grows by, or the capacities
        abbrev First : List Item → List Item → Tall Program → Type 0
        First before after q = Grows room (empty_program end) before after q ⊎ ((c : g.Capacities) × SpellsCapacities before after c × (capacity_program end c ≡ q))

        first_takes : {before after : List Item} {q : Tall Program} → q.levels ≤ room → First before after q → Takes (λ b c. First b c q) before after
        first_takes le (inl x) = takes_as (λ b c y. inl y) (grows_takes x)
        first_takes le (inr x) = takes_as (λ b c y. inr (x.0, y, x.2)) (takes (capacities_taken x.1))

        first_low : {before after : List Item} {q : Tall Program} → First before after q → q.levels ≤ room
        first_low (inl x) = grows_low (omega arith) x
        first_low (inr x) = subst (λ (q : Tall Program). q.levels ≤ room) x.2 (omega arith)

        first_finished : (l : ℕ) (x : Begun) → Sound (finished v0 room (empty_program end) x) (λ mid rest q. (ts : List Token) → SpellsBehindInt true l (items v0 ts) (items v0 mid) x → First (fixed l w.Int ∷ items v0 ts) (items v0 rest) q)
        first_finished l (begun.Cells all) = pure_sound (λ mid ts y.
            inl (subst (λ (z : Ints). Grows room (empty_program end) (fixed l w.Int ∷ items v0 ts) (items v0 mid) (with_ints (empty_program end) z)) y.1.2 (by_cells (g.cells st.absent y.1.1))))
        first_finished l (begun.Head h) = sound_map (λ mid rest q f ts y. inl (f (fixed l w.Int ∷ items v0 ts) y)) (added_sound v0 room (empty_program end) (λ y. y) (λ y. st.absent) h)
        first_finished l (begun.Capacities c) = bind_sound (wait_declared_sound v0) (λ x. pure_sound (λ rest mid z ts y. inr (capacities_of c, with_wait y.1 z, refl)))

        first_ints : (l : ℕ) → Sound (ints_added v0 views.holds room true l (empty_program end)) (λ mid rest q. First (fixed l w.Int ∷ items v0 mid) (items v0 rest) q)
        unfolding ints_added
        first_ints l = bind_sound (behind_int_sound v0 views.holds true l) (λ x. first_finished l x)

        -- how a program begins
        abbrev Start : List Token → List Token → Tall Program → Type 0
        Start ts rest q =
            (SpellsOuter (empty_program end) (running views.none ts) (running views.none rest) q ⊎ ((c : g.Capacities) × SpellsCapacities (running views.none ts) (running views.none rest) c × (capacity_program end c ≡ q))) × (q.levels ≤ room)

        start_of : (ts rest : List Token) (q : Tall Program) → First (running views.none ts) (running views.none rest) q → q.levels ≤ room → Start ts rest q
        start_of ts rest q (inl x) le = (inl (then_grows programs.none x), le)
        start_of ts rest q (inr x) le = (inr x, le)

        module _ (fronts : Fronts) (first_fronts : FirstFronts) where
          first_sound : Sound (first_part views room (empty_program end)) Start
          unfolding first_part
          first_sound = commit_sound (λ u. go u (outer_opening (seen v0 u)) refl) (pure_sound (λ ts. (inl programs.none, omega arith)))
            where
              int_read : (u : Token) → outer_opening (seen v0 u) ≡ o.Int → Sound (ints_added v0 views.holds room true (line v0 u) (empty_program end)) (λ mid rest q. Start (u ∷ mid) rest q)
              int_read u e = record {
                spelled = λ mid q rest h.
                    let f = first_fronts (line v0 u) (empty_program end) mid rest q h in
                    let x = (first_ints (line v0 u)).spelled mid q rest h in
                    let y = subst (λ (t : Item). First (t ∷ items v0 mid) (items v0 rest) q) (sym (seen_at v0 u (What.Fixed w.Int) (opening_int (seen v0 u) e))) x in
                    start_of (u ∷ mid) rest q (runs {R = λ b c. First b c q} views.none (u ∷ mid) (u ∷ f.0) rest (ap (λ (z : List Token). u ∷ z) f.1) (first_takes (first_low y) y)) (first_low y);
              }

              go : (u : Token) (x : Opening) → outer_opening (seen v0 u) ≡ x → SoundMove (λ mid rest q. Start (u ∷ mid) rest q) (first_by views room (empty_program end) (line v0 u) x)
              go u o.Int e = go_sound (int_read u e)
              go u _ e = stop_sound

          -- ---- whole programs

          -- what is read of one, by the definitions behind it
          abbrev pub Whole : List Token → List Token → Tall Program → Type 0
          Whole ts rest q =
              (d : Definitions) × (SpellsOuter (empty_program end) (running views.none ts) (running d rest) q ⊎ ((c : g.Capacities) × (mid : List Item) × SpellsCapacities (running views.none ts) mid c × SpellsOuter (capacity_program end c) mid (running d rest) q))
              × (q.levels ≤ room)

          ended : (p : Tall Program) (mid rest ts : List Token) (r : Reading Definitions) → ((start : Tall Program) (ts : List Token) → R fronts start ts mid (read views.none p) → R fronts start ts rest r)
              → SpellsOuter (empty_program end) (running views.none ts) (running views.none mid) p ⊎ ((c : g.Capacities) × SpellsCapacities (running views.none ts) (running views.none mid) c × (capacity_program end c ≡ p)) → p.levels ≤ room → Whole ts rest r.program
          ended p mid rest ts r h (inl x) le = let y = h (empty_program end) ts (x, le) in (r.defined, inl y.0, y.1)
          ended p mid rest ts r h (inr x) le =
              let y = h p mid (programs.none, le) in (r.defined, inr (x.0, running views.none mid, x.1, subst (λ (q : Tall Program). SpellsOuter q (running views.none mid) (running r.defined rest) r.program) (sym x.2) y.0), y.1)

          pub program_sound : Sound (program views room end) Whole
          unfolding program
          program_sound =
              bind_sound first_sound (λ p. bind_sound {R = λ mid rest r. (start : Tall Program) (ts : List Token) → R fronts start ts mid (read views.none p) → R fronts start ts rest r}
              (record { spelled = λ mid r rest h start ts x. (parts_sound fronts start (read views.none p)).spelled mid r rest h ts x })
              (λ r. pure_sound (λ rest mid h ts x. ended p mid rest ts r h x.0 x.1)))

          -- a program that is read to the end of the text is spelled, within its levels
          pub program_spelled : (ts : List Token) (q : Tall Program) → program views room end ts ≡ Got q [] → SpellsProgram end (running views.none ts) q × (q.levels ≤ room)
          program_spelled ts q e = let x = program_sound.spelled ts q [] e in (go x.1, x.2)
            where
              go : SpellsOuter (empty_program end) (running views.none ts) [] q ⊎ ((c : g.Capacities) × (mid : List Item) × SpellsCapacities (running views.none ts) mid c × SpellsOuter (capacity_program end c) mid [] q) → SpellsProgram end (running views.none ts) q
              go (inl x) = programs.plain x
              go (inr x) = programs.with_capacities x.2 x.3
