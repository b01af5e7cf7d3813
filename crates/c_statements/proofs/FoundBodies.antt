-- What is spelled is read: declarations of threads, and bodies.
use Rattle.std.proofs.Common.{◌≡◌, ℕ, ◌≤◌, Bool, true, false, ◌||◌, ◌&&◌, List, [], ◌∷◌, map, Option, Some, None, refl, sym, ap, subst, ◌∙◌, arith}
use Rattle.c_lexer.specs.declared.token.Sign.TheVariants as s
use Rattle.c_tree.specs.declared.program.Kind.{Kind}
use Rattle.c_tree.specs.declared.program.Kind.TheVariants as kinds
use Rattle.c_tree.specs.declared.program.Slot.{Slot}
use Rattle.c_tree.specs.Lined.{Stmt}
use Rattle.c_grammar.specs.declared.words.FixedWord.TheVariants as w
use Rattle.c_grammar.specs.Items.{What, Item, at, sign, fixed, name_of}
use Rattle.c_grammar.specs.Levels.{Tall}
use Rattle.c_grammar.specs.Commas.{Commas, one, more}
use Rattle.c_grammar.specs.Statements as g
use Rattle.c_grammar.specs.Statements.{SpellsStatement, SpellsSlot, SpellsSlots, Body, SpellsBody, body_then, body_with}
use Rattle.c_grammar.specs.Heads.{begins_statement}
use Rattle.c_grammar.proofs.Beginnings as begin
use Rattle.parse_laws.specs.Parser.{Outcome, Got, Failed, Parser, and_then, ◌>>=◌, pure, refuse, Move, Stop, Go, moved, commit, when, must, many, loop, one_more}
use Rattle.parse_laws.proofs.Loops.{Shrinks, loop_next, map_shrinks}
use Rattle.parse_laws.proofs.Finds.{Reaches, Halts, pure_finds, commit_finds, none_finds, bind_finds, bind_reaches, turn_reaches, loop_finds, reaches_itself, when_goes}
use Rattle.c_expressions.specs.Honest.{Honest}
use Rattle.c_expressions.specs.Words.{same_sign}
use Rattle.c_expressions.specs.Parsers.{Sight, what_at, seen, is, go_named}
use Rattle.c_expressions.proofs.Found.{F, is_at, sign_finds}
use Rattle.c_simple.specs.Words.{number_of}
use Rattle.c_simple.specs.Parsers.{line, line_in}
use Rattle.c_statements.specs.declared.word.Thread.{Thread}
use Rattle.c_statements.specs.declared.word.Thread.TheVariants as t
use Rattle.c_statements.specs.Words.{thread_opening}
use Rattle.c_statements.specs.Parsers.{slot_of, length_by, slot_length, slot_behind, slot_by, slot, comma_by, one_more_slot, more_slots, named_slots, slots_by, slot_list, statement_by, stated_by, named_thread, with_slots, with_slots_by, static_threads, threads, main_by, is_main, body_by, body}
use Rattle.c_statements.specs.Ends.{BodyEnds}
use Rattle.c_statements.proofs.Shorter.{comma_shrinks, body_shrinks}
use Rattle.c_statements.proofs.Openings.{stated_is}
use Rattle.c_statements.proofs.Turns.{turn_stops}
use Rattle.c_statements.proofs.Tokens.{NoElse, NoName, TypeApart, allowed, statement_no_else, statement_apart, no_static}
use Rattle.c_statements.proofs.Found.{statement_found}

-- a turn that is read is taken by the loop
loop_reads : {Token A : Type 0} (turn : A → Token → Move Token A) → ((a : A) (u : Token) → Shrinks (turn a u)) → (a b : A) (ts rest : List Token) → commit (turn a) refuse ts ≡ Got b rest → loop turn a ts ≡ loop turn b rest
loop_reads turn shrinks a b [] rest h = absurd cc
loop_reads {Token} {A} turn shrinks a b (u ∷ ts) rest h = loop_next turn shrinks a u ts (λ e. stopped (subst (λ (m : Move Token A). moved m refuse u ts ≡ Got b rest) e h)) ∙ rw h refl
  where
    stopped : moved Stop refuse u ts ≡ Got b rest → ⊥
    stopped e = cc

module _ {Token : Type 0} (v : Sight Token) (honest : Honest v) where
  line_is : (u : Token) (l : ℕ) (a : What) → v.item u ≡ at l a → line v u ≡ l
  line_is u l a e = ap line_in e

  abbrev done : {A : Type 0} → (after : List Item) (a : A) → F v (pure a) after after a
  done after a = pure_finds v.item after a

  -- ---- threads

  -- no index goes on
  abbrev pub NoIndex : List Item → Type 0
  NoIndex after = (r : Parser Token Slot) → Halts v.item (λ u. when (is v s.LeftBracket u) r) after

  several_finds : (l j h i len : ℕ) (n : List ℕ) (after : List Item) → F v (slot_behind v l n) (sign j s.LeftBracket ∷ at h (What.Number len) ∷ sign i s.RightBracket ∷ after) after (slot_of l n (Some len))
  unfolding slot_behind slot_length
  several_finds l j h i len n after =
      commit_finds v.item (λ u. when (is v s.LeftBracket u) (slot_length v l n)) (pure (slot_of l n None)) (sign j s.LeftBracket) (at h (What.Number len) ∷ sign i s.RightBracket ∷ after) after (slot_of l n (Some len))
      (λ u e. (
        slot_length v l n,
        rw (is_at v s.LeftBracket j u e) refl,
        commit_finds v.item (λ u. length_by v l n (number_of (seen v u))) refuse (at h (What.Number len)) (sign i s.RightBracket ∷ after) after (slot_of l n (Some len))
            (λ z d. (must (is v s.RightBracket) (pure (slot_of l n (Some len))), rw d refl, sign_finds v s.RightBracket (pure (slot_of l n (Some len))) i after after (slot_of l n (Some len)) (done after (slot_of l n (Some len))))),
      ))

  single_finds : (l : ℕ) (n : List ℕ) (after : List Item) → NoIndex after → F v (slot_behind v l n) after after (slot_of l n None)
  unfolding slot_behind
  single_finds l n after h = none_finds v.item (λ u. when (is v s.LeftBracket u) (slot_length v l n)) after (slot_of l n None) (h (slot_length v l n))

  slot_finds : {ts after : List Item} {x : Slot} → SpellsSlot ts after x → NoIndex after → F v (slot v) ts after x
  unfolding slot
  slot_finds {after = after} (g.one {l = l} {a = a} {n = n} q) h =
      commit_finds v.item (slot_by v) refuse (at l a) after after (slot_of l n None)
      (λ u e. (slot_behind v (line v u) n, rw (e, q) refl, subst (λ (k : ℕ). F v (slot_behind v (line v u) n) after after (slot_of k n None)) (line_is u l a e) (single_finds (line v u) n after h)))
  slot_finds {after = after} (g.several {l = l} {m = m} {i = i} {j = j} {len = len} {a = a} {n = n} q) h =
      commit_finds v.item (slot_by v) refuse (at l a) (sign m s.LeftBracket ∷ at i (What.Number len) ∷ sign j s.RightBracket ∷ after) after (slot_of l n (Some len))
      (λ u e. (
        slot_behind v (line v u) n,
        rw (e, q) refl,
        subst (λ (k : ℕ). F v (slot_behind v (line v u) n) (sign m s.LeftBracket ∷ at i (What.Number len) ∷ sign j s.RightBracket ∷ after) after (slot_of k n (Some len))) (line_is u l a e) (several_finds (line v u) m i j len n after),
      ))

  no_index : (m : ℕ) (after : List Item) → NoIndex (sign m s.Semicolon ∷ after)
  unfolding same_sign
  no_index m after = λ r u e. rw e refl

  no_index_comma : (m : ℕ) (after : List Item) → NoIndex (sign m s.Comma ∷ after)
  unfolding same_sign
  no_index_comma m after = λ r u e. rw e refl

  -- one, and those behind commas
  abbrev turns : List Slot → Parser Token (List Slot)
  turns all = many (comma_by v) one_more_slot all

  abbrev some : Parser Token (List Slot)
  some = slot v >>= λ x. turns (x ∷ [])

  slots_reach : {ts after : List Item} {all : List Slot} → Commas SpellsSlot ts after all → NoIndex after → Reaches v.item some (turns all) ts after
  slots_reach {ts} {after} (one {a = x} d) h = bind_reaches v.item (slot v) (λ x. turns (x ∷ [])) ts after x (slot_finds d h)
  slots_reach {ts} {after} (more {l = l} {mid = mid} {all = all} {a = x} c d) h =
      turn_reaches v.item some (one_more (comma_by v) one_more_slot) ts mid after (sign l s.Comma) all (one_more_slot all x) one_shrinks (slots_reach c (no_index_comma l mid))
      (λ u e. (slot v >>= λ y. pure (one_more_slot all y), rw (is_at v s.Comma l u e) refl, bind_finds v.item (slot v) (λ y. pure (one_more_slot all y)) mid after after x (one_more_slot all x) (slot_finds d h) (done after (one_more_slot all x))))
    where
      one_shrinks : (all : List Slot) (u : Token) → Shrinks (one_more (comma_by v) one_more_slot all u)
      one_shrinks all u = map_shrinks (comma_by v u) (λ x. one_more_slot all x) (comma_shrinks v u)

  -- the `;` behind them
  ended_finds : {ts after : List Item} {all : List Slot} (m : ℕ) → Commas SpellsSlot ts (sign m s.Semicolon ∷ after) all → F v (some >>= λ all. must (is v s.Semicolon) (pure all)) ts after all
  unfolding same_sign
  ended_finds {ts} {after} {all} m c =
      bind_finds v.item some (λ all. must (is v s.Semicolon) (pure all)) ts (sign m s.Semicolon ∷ after) after all all
      (loop_finds v.item some (one_more (comma_by v) one_more_slot) ts (sign m s.Semicolon ∷ after) all (slots_reach c (no_index m after)) (λ u e. rw e refl))
      (sign_finds v s.Semicolon (pure all) m after after all (done after all))

  slots_are : (zs : List Token) → commit (slots_by v) refuse zs ≡ (some >>= λ all. must (is v s.Semicolon) (pure all)) zs
  unfolding slot more_slots
  slots_are [] = refl
  slots_are (u ∷ zs) = go (name_of (seen v u))
    where
      after_slot : (o : Outcome Token Slot) → and_then o (λ x. more_slots v (x ∷ [])) ≡ and_then (and_then o (λ x. turns (x ∷ []))) (λ all. must (is v s.Semicolon) (pure all))
      after_slot (Got x rest) = refl
      after_slot (Failed e rest) = refl

      go : (n : Option (List ℕ)) → moved (go_named (named_slots v (line v u)) n) refuse u zs ≡ and_then (and_then (moved (go_named (slot_behind v (line v u)) n) refuse u zs) (λ x. turns (x ∷ []))) (λ all. must (is v s.Semicolon) (pure all))
      go None = refl
      go (Some n) = after_slot (slot_behind v (line v u) n zs)

  -- what is spelled behind `pthread_t` is read
  pub slot_list_finds : {ts after : List Item} {all : List Slot} (m : ℕ) → Commas SpellsSlot ts (sign m s.Semicolon ∷ after) all → F v (slot_list v) ts after all
  unfolding slot_list
  slot_list_finds m c zs e = let z = ended_finds m c zs e in (z.0, z.1, slots_are zs ∙ z.2)

  -- ---- bodies

  module _ (room : ℕ) where
    -- these slots are added
    with_slots_are : (b : Tall Body) (other : Parser Token (Tall Body)) (ts after : List Item) (all : List Slot) → F v (commit (slots_by v) refuse) ts after all → F v (commit (with_slots_by v b) other) ts after (body_with b all)
    with_slots_are b other ts after all h zs e = let z = h zs e in (z.0, z.1, go zs z.0 z.2)
      where
        go : (zs rest : List Token) → commit (slots_by v) refuse zs ≡ Got all rest → commit (with_slots_by v b) other zs ≡ Got (body_with b all) rest
        go [] rest d = absurd cc
        go (u ∷ zs) rest d = here (name_of (seen v u)) d
          where
            here : (n : Option (List ℕ)) → moved (go_named (named_slots v (line v u)) n) refuse u zs ≡ Got all rest → moved (go_named (with_slots v b (line v u)) n) other u zs ≡ Got (body_with b all) rest
            here None d = absurd cc
            here (Some n) d = rw d refl

    -- a statement that is read is a turn
    stated_turn : (kind : Kind) (b : Tall Body) (x : Tall (List Stmt)) (zs rest : List Token) → commit (statement_by v kind room) refuse zs ≡ Got x rest → commit (stated_by v kind room b) refuse zs ≡ Got (body_then b x) rest
    stated_turn kind b x zs rest h = stated_is v kind room b zs ∙ rw h refl

    -- behind `pthread_t` no name comes
    no_slots : (b : Tall Body) (other : Parser Token (Tall Body)) (zs : List Token) → NoName (map v.item zs) → commit (with_slots_by v b) other zs ≡ other zs
    no_slots b other [] h = refl
    no_slots b other (u ∷ zs) h = rw h refl

    main_turn : (b : Tall Body) (x : Tall (List Stmt)) (zs rest : List Token) → begins_statement (map v.item zs) ≡ true → TypeApart (map v.item zs) → commit (statement_by v kinds.Main room) refuse zs ≡ Got x rest
        → commit (body_by v kinds.Main room b) refuse zs ≡ Got (body_then b x) rest
    unfolding threads
    main_turn b x [] rest g a h = absurd cc
    main_turn b x (u ∷ zs) rest g a h = go (thread_opening (seen v u)) refl
      where
        go : (y : Thread) → thread_opening (seen v u) ≡ y → moved (main_by v kinds.Main room b u y) refuse u zs ≡ Got (body_then b x) rest
        go t.Static e = absurd (no_static (v.item u) (map v.item zs) g e)
        go t.Type e = no_slots b (named_thread v kinds.Main room b u) zs (a e) ∙ rw h refl
        go t.Other e = stated_turn kinds.Main b x (u ∷ zs) rest h

    body_turn : (kind : Kind) (b : Tall Body) (x : Tall (List Stmt)) (zs rest : List Token) → begins_statement (map v.item zs) ≡ true → TypeApart (map v.item zs) → commit (statement_by v kind room) refuse zs ≡ Got x rest
        → commit (body_by v kind room b) refuse zs ≡ Got (body_then b x) rest
    body_turn kinds.Main b x zs rest g a h = main_turn b x zs rest g a h
    body_turn kinds.Thread b x zs rest g a h = stated_turn kinds.Thread b x zs rest h
    body_turn kinds.Int b x zs rest g a h = stated_turn kinds.Int b x zs rest h
    body_turn kinds.Void b x zs rest g a h = stated_turn kinds.Void b x zs rest h

    -- a statement behind what was read
    statement_reaches : (kind : Kind) (ts mid after : List Item) (b : Tall Body) (x : Tall (List Stmt)) → begins_statement mid ≡ true → TypeApart mid → F v (commit (statement_by v kind room) refuse) mid after x
        → Reaches v.item (body v kind room) (loop (body_by v kind room) b) ts mid → Reaches v.item (body v kind room) (loop (body_by v kind room) (body_then b x)) ts after
    statement_reaches kind ts mid after b x g a y h zs e =
        let r = h zs e in
        let z = y r.0 r.1 in (
          z.0,
          z.1,
          r.2 ∙ loop_reads (body_by v kind room) (body_shrinks v kind room) b (body_then b x) r.0 z.0
              (body_turn kind b x r.0 z.0 (subst (λ (w : List Item). begins_statement w ≡ true) (sym r.1) g) (subst (λ (w : List Item). TypeApart w) (sym r.1) a) z.2),
        )

    -- a declaration of threads behind what was read
    turn_reaches_slots : (ts mid after : List Item) (b c : Tall Body) → F v (commit (body_by v kinds.Main room b) refuse) mid after c
        → Reaches v.item (body v kinds.Main room) (loop (body_by v kinds.Main room) b) ts mid → Reaches v.item (body v kinds.Main room) (loop (body_by v kinds.Main room) c) ts after
    turn_reaches_slots ts mid after b c y h zs e =
        let r = h zs e in
        let z = y r.0 r.1 in
        (z.0, z.1, r.2 ∙ loop_reads (body_by v kinds.Main room) (body_shrinks v kinds.Main room) b c r.0 z.0 z.2)

    type_finds : (b : Tall Body) (l : ℕ) (mid after : List Item) (all : List Slot) → F v (commit (slots_by v) refuse) mid after all → F v (commit (body_by v kinds.Main room b) refuse) (fixed l w.Thread ∷ mid) after (body_with b all)
    unfolding threads
    type_finds b l mid after all h =
        commit_finds v.item (body_by v kinds.Main room b) refuse (fixed l w.Thread) mid after (body_with b all)
        (λ u e. (threads v kinds.Main room b u, rw e refl, with_slots_are b (named_thread v kinds.Main room b u) mid after all h))

    static_goes : (b : Tall Body) (j : ℕ) (u : Token) → v.item u ≡ fixed j w.Static → v.threads ≡ true → body_by v kinds.Main room b u ≡ Go (static_threads v b)
    static_goes b j u e t = rw e (when_goes v.item v.threads (static_threads v b) t)

    static_reads : (b : Tall Body) (j l : ℕ) (mid after : List Item) (all : List Slot) → F v (commit (slots_by v) refuse) mid after all
        → F v (commit (body_by v kinds.Main room b) refuse) (fixed j w.Static ∷ fixed l w.Thread ∷ mid) after (body_with b all)
    unfolding static_threads
    static_reads b j l mid after all h [] e = absurd cc
    static_reads b j l mid after all h (u ∷ []) e = absurd cc
    static_reads b j l mid after all h (u ∷ x ∷ zs) e =
        let first : v.item u ≡ fixed j w.Static = cc in
        let second : v.item x ≡ fixed l w.Thread = cc in
        let others : map v.item zs ≡ mid = cc in
        let z = with_slots_are b refuse mid after all h zs others in
        (z.0, z.1, go z.0 first second z.2)
      where
        go : (rest : List Token) → v.item u ≡ fixed j w.Static → v.item x ≡ fixed l w.Thread → commit (with_slots_by v b) refuse zs ≡ Got (body_with b all) rest
            → commit (body_by v kinds.Main room b) refuse (u ∷ x ∷ zs) ≡ Got (body_with b all) rest
        go rest p q d = ap (λ (m : Move Token (Tall Body)). moved m refuse u (x ∷ zs)) (static_goes b j u p (honest.threads x (ap what_at q))) ∙ rw (q, d) refl

    declared_finds : {mid after : List Item} {all : List Slot} (b : Tall Body) → SpellsSlots mid after all → F v (commit (body_by v kinds.Main room b) refuse) mid after (body_with b all) × NoElse mid
    declared_finds {after = after} {all = all} b (g.slots {l = l} {m = m} {mid = mid} g.absent c) = (type_finds b l mid after all (commas m c), refl)
      where
        commas : (m : ℕ) → Commas SpellsSlot mid (sign m s.Semicolon ∷ after) all → F v (commit (slots_by v) refuse) mid after all
        commas m c zs e = let z = ended_finds m c zs e in (z.0, z.1, slots_are zs ∙ z.2)
    declared_finds {after = after} {all = all} b (g.slots {l = l} {m = m} {mid = mid} (g.present {l = j}) c) = (static_reads b j l mid after all (commas m c), refl)
      where
        commas : (m : ℕ) → Commas SpellsSlot mid (sign m s.Semicolon ∷ after) all → F v (commit (slots_by v) refuse) mid after all
        commas m c zs e = let z = ended_finds m c zs e in (z.0, z.1, slots_are zs ∙ z.2)

    body_reach : {kind : Kind} {ts after : List Item} {b : Tall Body} → SpellsBody kind ts after b → b.levels ≤ room → NoElse after → Reaches v.item (body v kind room) (loop (body_by v kind room) b) ts after
    body_reach {kind} {ts} g.none le h = reaches_itself v.item (body v kind room) ts
    body_reach {kind} {ts} {after} (g.then {b = c} {mid = mid} {all = all} {x = x} d y) le h =
        statement_reaches kind ts mid after all x (begin.statement_begins kind c mid after x y) (statement_apart y) (statement_found v honest kind y room (omega (arith, le)) (allowed c after h))
        (body_reach d (omega (arith, le)) (statement_no_else y))
    body_reach {ts = ts} {after = after} (g.then_slots {mid = mid} {all = all} {threads = extra} d y) le h =
        let x = declared_finds all y in
        turn_reaches_slots ts mid after all (body_with all extra) x.0 (body_reach d le x.1)

    ends_no_else : (after : List Item) → BodyEnds after → NoElse after
    ends_no_else [] h = tt
    ends_no_else (u ∷ after) h = h.2

    body_halts : (kind : Kind) (b : Tall Body) (after : List Item) → BodyEnds after → Halts v.item (body_by v kind room b) after
    body_halts kind b [] h = tt
    body_halts kind b (x ∷ after) h = λ u e. turn_stops v kind room b u (rw (e, h.0, h.1) (neither (is_main kind) v.threads))
      where
        neither : (m n : Bool) → false || (m && (n && false)) ≡ false
        neither true true = refl
        neither true false = refl
        neither false n = refl

    -- every body that is spelled is read
    pub body_found : {kind : Kind} {ts after : List Item} {b : Tall Body} → SpellsBody kind ts after b → b.levels ≤ room → BodyEnds after → F v (body v kind room) ts after b
    body_found {kind} {ts} {after} {b} d le h = loop_finds v.item (body v kind room) (body_by v kind room) ts after b (body_reach d le (ends_no_else after h)) (body_halts kind b after h)
