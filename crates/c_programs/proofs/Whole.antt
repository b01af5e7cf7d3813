-- Programs that are spelled, by the definitions that stand before each token, are read.
use Rattle.std.proofs.Common.{◌≡◌, ℕ, ◌≤◌, true, false, List, [], ◌∷◌, ◌++◌, map, length, refl, sym, ap, subst, ◌∙◌, inl, inr, ◌⊎◌, length-append, arith}
use Rattle.std.proofs.lemmas.List.{map-append, length-map}
use Rattle.c_tree.specs.Lined.{Program}
use Rattle.c_tree.specs.declared.program.Slot.{Slot}
use Rattle.c_lexer.specs.declared.token.Sign.TheVariants as s
use Rattle.c_tree.specs.declared.program.Kind.{Kind}
use Rattle.c_grammar.specs.declared.words.FixedWord.TheVariants as w
use Rattle.c_grammar.specs.Items.{What, Item, at, sign, fixed}
use Rattle.c_grammar.specs.Levels.{Tall}
use Rattle.c_grammar.specs.Commas.{Commas}
use Rattle.c_grammar.specs.Statements.{Body, SpellsSlot, SpellsBody}
use Rattle.c_grammar.specs.Declarations as g
use Rattle.c_grammar.specs.Programs as programs
use Rattle.c_grammar.specs.Programs.{empty_program, capacity_program, SpellsOuter, SpellsProgram}
use Rattle.c_grammar.specs.Declarations.{SpellsCapacities}
use Rattle.parse_laws.proofs.Finds.{parted, pure_finds, bind_finds}
use Rattle.c_declarations.specs.declared.tree.Capacities.{Capacities}
use Rattle.c_declarations.specs.declared.tree.Begun.TheVariants as begun
use Rattle.c_declarations.specs.Parsers.{behind_int, wait_comes, wait_declared}
use Rattle.c_declarations.proofs.FoundHeads.{behind_int_finds, wait_declared_finds}
use Rattle.c_declarations.proofs.Waits.{wait_apart}
use Rattle.c_fronts.proofs.Put.{takes}
use Rattle.c_fronts.proofs.Outer.{capacities_taken}
use Rattle.parse_laws.specs.Parser.{Outcome, Got, Failed, Parser, and_then, ◌>>=◌, pure, Move, Stop, Go, and_go, loop}
use Rattle.parse_laws.proofs.Loops.{loop_turns, loop_ends}
use Rattle.c_expressions.specs.Honest.{Honest}
use Rattle.c_expressions.specs.Parsers.{Sight, seen}
use Rattle.c_expressions.proofs.Found.{F}
use Rattle.c_expressions.proofs.Sounds.{items}
use Rattle.c_declarations.specs.Parsers.{line}
use Rattle.c_fronts.specs.Fronts.{is_plain, all_plain}
use Rattle.c_statements.specs.Parsers.{body, slot_list}
use Rattle.c_programs.specs.declared.token.Opening.{Opening}
use Rattle.c_programs.specs.declared.token.Opening.TheVariants as o
use Rattle.c_programs.specs.Words.{outer_opening}
use Rattle.c_programs.specs.Parsers.{Views, Reading, read, finished, ints_added, outer_by, turn_by, turn, first_part, program}
use Rattle.c_programs.proofs.Shorter.{turn_shrinks}
use Rattle.c_programs.proofs.Sounds.{Grows, grows_takes, running, first_plain, Fronts, FirstFronts, by_cells, by_objects, by_slots, by_function, opening_int}
use Rattle.c_programs.proofs.Found.{grows_read}
use Rattle.c_programs.proofs.Calm.{comes_alike, nothing_waits}

-- capacities as the parser has them
abbrev kept : g.Capacities → Capacities
kept c = record { len = c.len; values = c.values; line = c.line }

-- two ends of one list that are as long are one
same_end : {A : Type 0} (a b r t : List A) → a ++ r ≡ b ++ t → length r ≡ length t → r ≡ t
same_end [] [] r t e l = e
same_end [] (y ∷ b) r t e l = absurd (omega (arith, l, ap length e, length-append b t))
same_end (x ∷ a) [] r t e l = absurd (omega (arith, l, ap length e, length-append a r))
same_end (x ∷ a) (y ∷ b) r t e l = let tails : a ++ r ≡ b ++ t = cc in same_end a b r t tails l

module _ {Token Definitions : Type 0} (views : Views Token Definitions) (still : (d : Definitions) (u : Token) → is_plain ((views.sight d).item u) ≡ true → views.then d u ≡ d) (room : ℕ) where
  -- tokens that are seen as some that are no definitions, and others behind them
  record Split (d : Definitions) (front : List Item) (ts : List Token) (after : List Item) : Type 0 where
    taken : List Token
    rest : List Token
    parts : ts ≡ taken ++ rest
    seen_so : items (views.sight d) taken ≡ front
    left : running views d rest ≡ after

  split : (d : Definitions) (front : List Item) (ts : List Token) (after : List Item) → all_plain front ≡ true → running views d ts ≡ front ++ after → Split d front ts after
  split d [] ts after h e = record { taken = []; rest = ts; parts = refl; seen_so = refl; left = e }
  split d (t ∷ front) [] after h e = absurd cc
  split d (t ∷ front) (u ∷ ts) after h e =
      let p = first_plain views still t front h in
      let q : (views.sight d).item u ≡ t = cc in
      let m : running views (views.then d u) ts ≡ front ++ after = cc in
      let c = still d u (ap is_plain q ∙ p.0) in
      let y = split d front ts after p.1 (sym (ap (λ (x : Definitions). running views x ts) c) ∙ m) in
      record { taken = u ∷ y.taken; rest = y.rest; parts = ap (λ (x : List Token). u ∷ x) y.parts; seen_so = both u t (items (views.sight d) y.taken) front q y.seen_so; left = y.left }
    where
      both : (u : Token) (t : Item) (a b : List Item) → (views.sight d).item u ≡ t → a ≡ b → (views.sight d).item u ∷ a ≡ t ∷ b
      both u t a b q e = rw (q, e) refl

  module _ (honest : (d : Definitions) → Honest (views.sight d)) (all_hold : (k : ℕ) → views.holds k ≡ true)
      (body_finds : (d : Definitions) (kind : Kind) (m : ℕ) (ts rest : List Item) (b : Tall Body) → SpellsBody kind ts (sign m s.RightBrace ∷ rest) b → b.levels ≤ room → F (views.sight d) (body (views.sight d) kind room) ts (sign m s.RightBrace ∷ rest) b)
      (slots_find : (d : Definitions) (m : ℕ) (ts rest : List Item) (all : List Slot) → Commas SpellsSlot ts (sign m s.Semicolon ∷ rest) all → F (views.sight d) (slot_list (views.sight d)) ts rest all)
      (fronts : Fronts views still room) (first_fronts : FirstFronts views still room) where
    -- one more of what stands outside functions is read, by the definitions so far
    record Reads (d : Definitions) (p : Tall Program) (ts : List Token) (after : List Item) (q : Tall Program) : Type 0 where
      u : Token
      mid : List Token
      rest : List Token
      parser : Parser Token (Tall Program)
      parts : ts ≡ u ∷ mid
      goes : outer_by (views.sight d) views.holds room p (line (views.sight d) u) (outer_opening (seen (views.sight d) u)) ≡ Go parser
      reads : parser mid ≡ Got q rest
      left : running views d rest ≡ after
      -- where nothing stands before it
      first : seen (views.sight d) u ≡ What.Fixed w.Int → d ≡ views.none → ints_added (views.sight views.none) views.holds room true (line (views.sight views.none) u) p mid ≡ Got q rest

    lengths : (d : Definitions) (r t : List Token) → map (views.sight d).item r ≡ map (views.sight d).item t → length r ≡ length t
    lengths d r t e = sym (length-map r (views.sight d).item) ∙ ap length e ∙ length-map t (views.sight d).item

    reads_on : (d : Definitions) (p : Tall Program) (ts : List Token) (after : List Item) (q : Tall Program) → Grows room p (running views d ts) after q → Reads d p ts after q
    reads_on d p ts after q x =
        let k = grows_takes x in
        let y = split d k.front ts after k.plain k.parts in
        let same : k.front ++ items (views.sight d) y.rest ≡ items (views.sight d) ts = ap (λ (f : List Item). f ++ items (views.sight d) y.rest) (sym y.seen_so) ∙ sym (map-append (views.sight d).item y.taken y.rest) ∙ ap (items (views.sight d)) (sym y.parts) in
        let z = grows_read (views.sight d) (honest d) views.holds all_hold room (body_finds d) (slots_find d) p (subst (λ (b : List Item). Grows room p b (items (views.sight d) y.rest) q) same (k.again (items (views.sight d) y.rest))) ts refl in
        let f = fronts d p z.u z.parser z.goes z.mid z.rest q z.reads in
        let ends = same_end (z.u ∷ f.0) y.taken z.rest y.rest (sym (z.parts ∙ ap (λ (x : List Token). z.u ∷ x) f.1) ∙ y.parts) (lengths d z.rest y.rest z.left) in
        record {
          u = z.u;
          mid = z.mid;
          rest = y.rest;
          parser = z.parser;
          parts = z.parts;
          goes = z.goes;
          reads = z.reads ∙ ap (λ (x : List Token). Got q x) ends;
          left = y.left;
          first = λ c n. firsts d p q z.u z.mid y.taken y.rest ts n (z.first c) z.parts y.parts;
        }
      where
        firsts : (d : Definitions) (p q : Tall Program) (u : Token) (mid taken rest ts : List Token) → d ≡ views.none
            → (other : List Token) × (ints_added (views.sight d) views.holds room true (line (views.sight d) u) p mid ≡ Got q other) × (map (views.sight d).item other ≡ items (views.sight d) rest) → ts ≡ u ∷ mid → ts ≡ taken ++ rest
            → ints_added (views.sight views.none) views.holds room true (line (views.sight views.none) u) p mid ≡ Got q rest
        firsts d p q u mid taken rest ts n x e c =
            let y = subst (λ (d : Definitions). (other : List Token) × (ints_added (views.sight d) views.holds room true (line (views.sight d) u) p mid ≡ Got q other) × (map (views.sight d).item other ≡ items (views.sight d) rest)) n x in
            let f = first_fronts (line (views.sight views.none) u) p mid y.0 q y.1 in
            let ends = same_end (u ∷ f.0) taken y.0 rest (sym (e ∙ ap (λ (x : List Token). u ∷ x) f.1) ∙ c) (lengths views.none y.0 rest y.2) in
            y.1 ∙ ap (λ (x : List Token). Got q x) ends

    -- ---- turns

    turn_of : (d : Definitions) (p : Tall Program) (u : Token) (x : Opening) (parser : Parser Token (Tall Program)) → outer_by (views.sight d) views.holds room p (line (views.sight d) u) x ≡ Go parser
        → turn_by views room (read d p) u x ≡ Go (parser >>= λ q. pure (read d q))
    turn_of d p u o.Definition parser e = absurd (differs e)
      where
        differs : Stop ≡ Go parser → ⊥
        differs e = cc
    turn_of d p u x parser e = ap (λ (m : Move Token (Tall Program)). and_go m (λ q. pure (read d q))) e

    -- the whole of a program, from what it begins with
    abbrev whole : Tall Program → Parser Token (Reading Definitions)
    whole start = first_part views room start >>= λ p. loop (turn views room) (read views.none p)

    -- Nothing was read yet, or the rest is read from here on.
    abbrev Reached : Tall Program → List Token → Definitions → List Token → Tall Program → Type 0
    Reached start ts d rest p = ((ts ≡ rest) × (p ≡ start) × (d ≡ views.none)) ⊎ (whole start ts ≡ loop (turn views room) (read d p) rest)

    abbrev At : Tall Program → List Token → List Item → Tall Program → Type 0
    At start ts after p = (d : Definitions) × (rest : List Token) × (running views d rest ≡ after) × Reached start ts d rest p

    -- by what the first token begins
    not_int : (start : Tall Program) (u : Token) (mid : List Token) (x : Opening) → outer_opening (seen (views.sight views.none) u) ≡ x → (x ≡ o.Int → ⊥) → first_part views room start (u ∷ mid) ≡ Got start (u ∷ mid)
    unfolding first_part
    not_int start u mid o.Int e n = absurd (n refl)
    not_int start u mid x e n = rw e refl

    is_int : (start q : Tall Program) (u : Token) (mid rest : List Token) → outer_opening (seen (views.sight views.none) u) ≡ o.Int → ints_added (views.sight views.none) views.holds room true (line (views.sight views.none) u) start mid ≡ Got q rest
        → first_part views room start (u ∷ mid) ≡ Got q rest
    unfolding first_part
    is_int start q u mid rest e h = rw e h

    stepped : (start p q : Tall Program) (ts before : List Token) (d : Definitions) (after : List Item) → Reached start ts d before p → Reads d p before after q → At start ts after q
    stepped start p q ts before d after r x = (d, x.rest, x.left, go r)
      where
        one : loop (turn views room) (read d p) (x.u ∷ x.mid) ≡ loop (turn views room) (read d q) x.rest
        one = loop_turns (turn views room) (turn_shrinks views room) (read d p) (read d q) x.u x.mid x.rest (x.parser >>= λ q. pure (read d q)) (turn_of d p x.u (outer_opening (seen (views.sight d) x.u)) x.parser x.goes) (rw x.reads refl)

        by_first : (y : Opening) → outer_opening (seen (views.sight views.none) x.u) ≡ y → p ≡ start → d ≡ views.none → whole start (x.u ∷ x.mid) ≡ loop (turn views room) (read d q) x.rest
        by_first o.Int e pe n =
            let i = opening_int (seen (views.sight views.none) x.u) e in
            let f = x.first (ap (λ (c : Definitions). seen (views.sight c) x.u) n ∙ i) n in
            let h = is_int start q x.u x.mid x.rest e (subst (λ (z : Tall Program). ints_added (views.sight views.none) views.holds room true (line (views.sight views.none) x.u) z x.mid ≡ Got q x.rest) pe f) in
            rw h (ap (λ (c : Definitions). loop (turn views room) (read c q) x.rest) (sym n))
        by_first y e pe n =
            rw (not_int start x.u x.mid y e (λ c. absurd cc)) (ap (λ (z : Tall Program). loop (turn views room) (read views.none z) (x.u ∷ x.mid)) (sym pe) ∙ ap (λ (c : Definitions). loop (turn views room) (read c p) (x.u ∷ x.mid)) (sym n) ∙ one)

        go : Reached start ts d before p → Reached start ts d x.rest q
        go (inl z) = inr (ap (whole start) (z.0 ∙ x.parts) ∙ by_first (outer_opening (seen (views.sight views.none) x.u)) refl z.1 z.2)
        go (inr e) = inr (e ∙ ap (loop (turn views room) (read d p)) x.parts ∙ one)

    -- a definition
    defined : (start p : Tall Program) (ts before : List Token) (d : Definitions) (l : ℕ) (after : List Item) → Reached start ts d before p → running views d before ≡ at l What.Definition ∷ after → At start ts after p
    defined start p ts [] d l after r e = absurd cc
    defined start p ts (u ∷ rest) d l after r e =
        let q : (views.sight d).item u ≡ at l What.Definition = cc in
        let m : running views (views.then d u) rest ≡ after = cc in
        (views.then d u, rest, m, inr (go q r))
      where
        one : (views.sight d).item u ≡ at l What.Definition → loop (turn views room) (read d p) (u ∷ rest) ≡ loop (turn views room) (read (views.then d u) p) rest
        one q = loop_turns (turn views room) (turn_shrinks views room) (read d p) (read (views.then d u) p) u rest rest (pure (read (views.then d u) p)) (rw q refl) refl

        opens : (c : Definitions) → (views.sight c).item u ≡ at l What.Definition → outer_opening (seen (views.sight c) u) ≡ o.Definition
        opens c q = rw q refl

        go : (views.sight d).item u ≡ at l What.Definition → Reached start ts d (u ∷ rest) p → whole start ts ≡ loop (turn views room) (read (views.then d u) p) rest
        go q (inr e) = e ∙ one q
        go q (inl z) =
            let n = subst (λ (c : Definitions). (views.sight c).item u ≡ at l What.Definition) z.2 q in
            ap (whole start) z.0 ∙ rw (not_int start u rest o.Definition (opens views.none n) (λ c. absurd cc))
            (ap (λ (x : Tall Program). loop (turn views room) (read views.none x) (u ∷ rest)) (sym z.1) ∙ ap (λ (c : Definitions). loop (turn views room) (read c p) (u ∷ rest)) (sym z.2) ∙ one q)

    -- ---- whole programs

    grown_by : {start p q : Tall Program} {mid after : List Item} (ts : List Token) → At start ts mid p → Grows room p mid after q → At start ts after q
    grown_by {start} {p} {q} {mid} {after} ts y x = stepped start p q ts y.1 y.0 after y.3 (reads_on y.0 p y.1 after q (subst (λ (b : List Item). Grows room p b after q) (sym y.2) x))

    reach : {start p : Tall Program} {before after : List Item} → SpellsOuter start before after p → p.levels ≤ room → (ts : List Token) → running views views.none ts ≡ before → At start ts after p
    reach programs.none le ts e = (views.none, ts, e, inl (refl, refl, refl))
    reach {start = start} {after = after} (programs.then_definition {l = l} {p = p} d) le ts e = let y = reach d le ts e in defined start p ts y.1 y.0 l after y.3 y.2
    reach (programs.then_cells d x) le ts e = grown_by ts (reach d le ts e) (by_cells x)
    reach (programs.then_objects {o = g.mutex} d x) le ts e = grown_by ts (reach d le ts e) (by_objects x)
    reach (programs.then_objects {o = g.condition} d x) le ts e = grown_by ts (reach d le ts e) (by_objects x)
    reach (programs.then_slots d x) le ts e = grown_by ts (reach d le ts e) (by_slots x)
    reach (programs.then_function {p = p} {f = f} d x) le ts e = grown_by ts (reach d (omega (arith, le)) ts e) (by_function x (omega (arith, le)))

    no_tokens : (d : Definitions) (rest : List Token) → running views d rest ≡ [] → rest ≡ []
    no_tokens d [] e = refl
    no_tokens d (u ∷ rest) e = absurd cc

    of_whole : (start : Tall Program) (ts : List Token) (d : Definitions) (p : Tall Program) → whole start ts ≡ Got (read d p) [] → and_then (first_part views room start ts) (λ p. loop (turn views room) (read views.none p) >>= λ r. pure r.program) ≡ Got p []
    of_whole start ts d p e = both (first_part views room start ts) ∙ ap (λ (o : Outcome Token (Reading Definitions)). and_then o (λ r. pure r.program)) e
      where
        both : (o : Outcome Token (Tall Program)) → and_then o (λ p. loop (turn views room) (read views.none p) >>= λ r. pure r.program) ≡ and_then (and_then o (λ p. loop (turn views room) (read views.none p))) (λ r. pure r.program)
        both (Got q rest) = refl
        both (Failed f rest) = refl

    first_ends : (start : Tall Program) → first_part views room start [] ≡ Got start []
    unfolding first_part
    first_ends start = refl

    -- a program without capacities is read
    pub plain_found : (end : ℕ) (ts : List Token) (p : Tall Program) → SpellsOuter (empty_program end) (running views views.none ts) [] p → p.levels ≤ room → program views room end ts ≡ Got p []
    unfolding program
    plain_found end ts p d le = let y = reach d le ts refl in go y.0 y.1 (no_tokens y.0 y.1 y.2) y.3
      where
        ends : (d : Definitions) (rest : List Token) → rest ≡ [] → loop (turn views room) (read d p) rest ≡ Got (read d p) []
        ends d rest e = ap (loop (turn views room) (read d p)) e ∙ loop_ends (turn views room) (read d p)

        nothing : (ts : List Token) → ts ≡ [] → whole (empty_program end) ts ≡ Got (read views.none (empty_program end)) []
        nothing ts e = ap (whole (empty_program end)) e ∙ rw (first_ends (empty_program end)) (loop_ends (turn views room) (read views.none (empty_program end)))

        go : (d : Definitions) (rest : List Token) → rest ≡ [] → Reached (empty_program end) ts d rest p → and_then (first_part views room (empty_program end) ts) (λ p. loop (turn views room) (read views.none p) >>= λ r. pure r.program) ≡ Got p []
        go d rest e (inl z) = of_whole (empty_program end) ts views.none (empty_program end) (nothing ts (z.0 ∙ e)) ∙ ap (λ (q : Tall Program). Got q []) (sym z.1)
        go d rest e (inr h) = of_whole (empty_program end) ts d p (h ∙ ends d rest e)

    -- ---- behind the capacities

    -- the rest is read from here on
    abbrev Behind : Tall Program → List Token → List Item → Tall Program → Type 0
    Behind start ts after p = (d : Definitions) × (rest : List Token) × (running views d rest ≡ after) × (loop (turn views room) (read views.none start) ts ≡ loop (turn views room) (read d p) rest)

    -- one turn
    turn_reads : (d : Definitions) (p q : Tall Program) (before : List Token) (after : List Item) (x : Reads d p before after q) → loop (turn views room) (read d p) before ≡ loop (turn views room) (read d q) x.rest
    turn_reads d p q before after x =
        ap (loop (turn views room) (read d p)) x.parts
        ∙ loop_turns (turn views room) (turn_shrinks views room) (read d p) (read d q) x.u x.mid x.rest (x.parser >>= λ q. pure (read d q)) (turn_of d p x.u (outer_opening (seen (views.sight d) x.u)) x.parser x.goes) (rw x.reads refl)

    definition_reads : (d : Definitions) (p : Tall Program) (before : List Token) (l : ℕ) (after : List Item) → running views d before ≡ at l What.Definition ∷ after
        → (c : Definitions) × (rest : List Token) × (running views c rest ≡ after) × (loop (turn views room) (read d p) before ≡ loop (turn views room) (read c p) rest)
    definition_reads d p [] l after e = absurd cc
    definition_reads d p (u ∷ rest) l after e =
        let q : (views.sight d).item u ≡ at l What.Definition = cc in
        let m : running views (views.then d u) rest ≡ after = cc in
        (views.then d u, rest, m, loop_turns (turn views room) (turn_shrinks views room) (read d p) (read (views.then d u) p) u rest rest (pure (read (views.then d u) p)) (rw q refl) refl)

    behind_grown : (start : Tall Program) {p q : Tall Program} {mid after : List Item} (ts : List Token) → Behind start ts mid p → Grows room p mid after q → Behind start ts after q
    behind_grown start {p} {q} {mid} {after} ts y x =
        let z = reads_on y.0 p y.1 after q (subst (λ (b : List Item). Grows room p b after q) (sym y.2) x) in (y.0, z.rest, z.left, y.3 ∙ turn_reads y.0 p q y.1 after z)

    behind_reach : {start p : Tall Program} {before after : List Item} → SpellsOuter start before after p → p.levels ≤ room → (ts : List Token) → running views views.none ts ≡ before → Behind start ts after p
    behind_reach programs.none le ts e = (views.none, ts, e, refl)
    behind_reach {start = start} {after = after} (programs.then_definition {l = l} {p = p} d) le ts e =
        let y = behind_reach d le ts e in let z = definition_reads y.0 p y.1 l after y.2 in (z.0, z.1, z.2, y.3 ∙ z.3)
    behind_reach (programs.then_cells d x) le ts e = behind_grown _ ts (behind_reach d le ts e) (by_cells x)
    behind_reach (programs.then_objects {o = g.mutex} d x) le ts e = behind_grown _ ts (behind_reach d le ts e) (by_objects x)
    behind_reach (programs.then_objects {o = g.condition} d x) le ts e = behind_grown _ ts (behind_reach d le ts e) (by_objects x)
    behind_reach (programs.then_slots d x) le ts e = behind_grown _ ts (behind_reach d le ts e) (by_slots x)
    behind_reach (programs.then_function {p = p} {f = f} d x) le ts e = behind_grown _ ts (behind_reach d (omega (arith, le)) ts e) (by_function x (omega (arith, le)))

    -- the capacities, by the definitions before all
    abbrev v0 : Sight Token
    v0 = views.sight views.none

    capacities_read : (end : ℕ) (l : ℕ) (before after : List Item) (c : g.Capacities) → SpellsCapacities (fixed l w.Int ∷ before) after c → ((rest : List Token) → map v0.item rest ≡ after → wait_comes v0 rest ≡ false)
        → F v0 (ints_added v0 views.holds room true l (empty_program end)) before after (capacity_program end c)
    unfolding ints_added
    capacities_read end l before after c d calm =
        let y = wait_apart d in
        bind_finds v0.item (behind_int v0 views.holds true l) (λ x. finished v0 room (empty_program end) x) before y.0 after (begun.Capacities (kept c)) (capacity_program end c)
        (behind_int_finds v0 views.holds all_hold true l before y.0 (begun.Capacities (kept c)) (refl, y.1))
        (bind_finds v0.item (wait_declared v0) (λ _. pure (capacity_program end c)) y.0 after after tt (capacity_program end c) (wait_declared_finds v0 y.0 after y.2 calm) (pure_finds v0.item after (capacity_program end c)))

    capacities_front : {before after : List Item} {c : g.Capacities} → SpellsCapacities before after c → (l : ℕ) × (mid : List Item) × (before ≡ fixed l w.Int ∷ mid)
    capacities_front (g.capacities {l = l} x y z p) = (l, _, refl)

    first_capacities : (end : ℕ) (ts : List Token) (mid : List Item) (c : g.Capacities) → SpellsCapacities (running views views.none ts) mid c → ((rest : List Token) → running views views.none rest ≡ mid → wait_comes v0 rest ≡ false) → (rest : List Token) × (running views views.none rest ≡ mid) × (first_part views room (empty_program end) ts ≡ Got (capacity_program end c) rest)
    first_capacities end ts mid c x calm =
        let k = takes (capacities_taken x) in
        let y = split views.none k.front ts mid k.plain k.parts in
        let same : k.front ++ items v0 y.rest ≡ items v0 ts = ap (λ (f : List Item). f ++ items v0 y.rest) (sym y.seen_so) ∙ sym (map-append v0.item y.taken y.rest) ∙ ap (items v0) (sym y.parts) in
        let d = subst (λ (b : List Item). SpellsCapacities b (items v0 y.rest) c) same (k.again (items v0 y.rest)) in
        let f = capacities_front d in
        let t = parted v0.item ts (fixed f.0 w.Int) f.1 f.2 in
        let z = capacities_read end f.0 f.1 (items v0 y.rest) c (subst (λ (b : List Item). SpellsCapacities b (items v0 y.rest) c) f.2 d) (λ rest e. comes_alike v0 rest y.rest e ∙ calm y.rest y.left) t.1 t.4 in
        (y.rest, y.left, done t.0 t.1 f.0 y.taken y.rest t.2 y.parts t.3 z)
      where
        opens : (u : Token) (l : ℕ) → v0.item u ≡ fixed l w.Int → outer_opening (seen v0 u) ≡ o.Int
        opens u l e = rw e refl

        on_line : (u : Token) (l : ℕ) → v0.item u ≡ fixed l w.Int → line v0 u ≡ l
        on_line u l e = rw e refl

        done : (u : Token) (after : List Token) (l : ℕ) (taken rest : List Token) → ts ≡ u ∷ after → ts ≡ taken ++ rest → v0.item u ≡ fixed l w.Int
            → (other : List Token) × (map v0.item other ≡ items v0 rest) × (ints_added v0 views.holds room true l (empty_program end) after ≡ Got (capacity_program end c) other) → first_part views room (empty_program end) ts ≡ Got (capacity_program end c) rest
        done u after l taken rest e b i z =
            let f = first_fronts l (empty_program end) after z.0 (capacity_program end c) z.2 in
            let ends = same_end (u ∷ f.0) taken z.0 rest (sym (e ∙ ap (λ (x : List Token). u ∷ x) f.1) ∙ b) (lengths views.none z.0 rest z.1) in
            ap (first_part views room (empty_program end)) e
            ∙ is_int (empty_program end) (capacity_program end c) u after rest (opens u l i)
            (ap (λ (j : ℕ). ints_added v0 views.holds room true j (empty_program end) after) (on_line u l i) ∙ z.2 ∙ ap (λ (x : List Token). Got (capacity_program end c) x) ends)

    after_capacities : (end : ℕ) (ts : List Token) (p : Tall Program) (mid : List Token) (start : Tall Program) (d : Definitions) (rest : List Token) → first_part views room (empty_program end) ts ≡ Got start mid → rest ≡ []
        → loop (turn views room) (read views.none start) mid ≡ loop (turn views room) (read d p) rest → program views room end ts ≡ Got p []
    unfolding program
    after_capacities end ts p mid start d rest f e h = of_whole (empty_program end) ts d p (rw f (h ∙ ap (loop (turn views room) (read d p)) e ∙ loop_ends (turn views room) (read d p)))

    -- every program that is spelled, within its levels, is read
    pub program_found : (end : ℕ) (ts : List Token) (p : Tall Program) → SpellsProgram end (running views views.none ts) p → p.levels ≤ room → program views room end ts ≡ Got p []
    program_found end ts p (programs.plain d) le = plain_found end ts p d le
    program_found end ts p (programs.with_capacities {mid = mid} {c = c} x d) le = let y = first_capacities end ts mid c x (nothing_waits views still d) in let z = behind_reach d le y.0 y.1 in after_capacities end ts p y.0 (capacity_program end c) z.0 z.1 y.2 (no_tokens z.0 z.1 z.2) z.3
