-- What the parser reads is what the grammar spells: declarations of threads, and bodies.
use Rattle.std.proofs.Common.{◌≡◌, ℕ, true, List, [], ◌∷◌, Option, Some, None, refl, subst}
use Rattle.c_lexer.specs.declared.token.Sign.TheVariants as s
use Rattle.c_tree.specs.declared.program.Kind.{Kind}
use Rattle.c_tree.specs.declared.program.Kind.TheVariants as kinds
use Rattle.c_tree.specs.declared.program.Slot.{Slot}
use Rattle.c_grammar.specs.Items.{Item, sign, name_of}
use Rattle.c_grammar.specs.Levels.{Tall}
use Rattle.c_grammar.specs.Commas.{Commas}
use Rattle.c_grammar.specs.Commas as commas
use Rattle.c_grammar.specs.Statements as g
use Rattle.c_grammar.specs.Statements.{SpellsSlot, SpellsSlots, Body, SpellsBody, body_then, body_with}
use Rattle.parse_laws.proofs.Sound.{Sound, SoundMove, stop_sound, go_sound, pure_sound, refuse_sound, sound_map, bind_sound, and_go_sound, commit_sound, token_sound, when_sound, many_sound, loop_sound}
use Rattle.c_expressions.specs.Parsers.{Sight, seen, is}
use Rattle.c_expressions.proofs.Sounds.{items, named_sound}
use Rattle.c_simple.specs.Words.{number_of}
use Rattle.c_simple.specs.Parsers.{line}
use Rattle.c_statements.specs.declared.word.Thread.{Thread}
use Rattle.c_statements.specs.declared.word.Thread.TheVariants as t
use Rattle.c_statements.specs.Words.{thread_opening}
use Rattle.c_statements.specs.Parsers.{length_by, slot_length, slot_behind, slot, comma_by, one_more_slot, more_slots, named_slots, slot_list, empty_body, stated, stated_by, with_slots_by, static_threads, threads, main_by, body_by, body}
use Rattle.c_statements.proofs.Spelled.{sign_at, static_at, thread_at, type_at, number_at, one_spelled, several_spelled}
use Rattle.c_statements.proofs.Sounds.{S, statement_sound}

module _ {Token : Type 0} (v : Sight Token) where
  -- ---- threads

  abbrev pub One : List Token → List Token → Slot → Type 0
  One ts rest x = SpellsSlot (items v ts) (items v rest) x

  slot_behind_sound : (u : Token) (n : List ℕ) → name_of (seen v u) ≡ Some n → Sound (slot_behind v (line v u) n) (λ mid rest x. One (u ∷ mid) rest x)
  unfolding slot_behind slot_length
  slot_behind_sound u n q =
      commit_sound (λ w. when_sound (is v s.LeftBracket w) (λ d. commit_sound (λ z. go w d z (number_of (seen v z)) refl) refuse_sound))
      (pure_sound (λ rest. one_spelled (v.item u) n (items v rest) q))
    where
      go : (w : Token) → is v s.LeftBracket w ≡ true → (z : Token) (k : Option ℕ) → number_of (seen v z) ≡ k → SoundMove (λ mid rest x. One (u ∷ w ∷ z ∷ mid) rest x) (length_by v (line v u) n k)
      go w d z None c = stop_sound
      go w d z (Some len) c = go_sound (token_sound (λ y p. pure_sound (λ rest.
          rw (sign_at s.LeftBracket (v.item w) d, number_at (v.item z) len c, sign_at s.RightBracket (v.item y) p)
          (several_spelled (v.item u) n (line v w) (line v z) (line v y) len (items v rest) q))))

  slot_sound : Sound (slot v) One
  unfolding slot
  slot_sound = commit_sound (λ u. named_sound v One u (λ n q. slot_behind_sound u n q)) refuse_sound

  abbrev pub Several : List Token → List Token → List Slot → Type 0
  Several ts rest all = Commas SpellsSlot (items v ts) (items v rest) all

  -- and the `;` behind them
  abbrev pub Ended : List Token → List Token → List Slot → Type 0
  Ended ts rest all = (l : ℕ) × Commas SpellsSlot (items v ts) (sign l s.Semicolon ∷ items v rest) all

  -- a comma, and one more
  abbrev pub Next : List Token → List Token → Slot → Type 0
  Next ts rest x = (l : ℕ) × (mid : List Item) × (items v ts ≡ sign l s.Comma ∷ mid) × SpellsSlot mid (items v rest) x

  comma_sound : (u : Token) → SoundMove (λ mid rest x. Next (u ∷ mid) rest x) (comma_by v u)
  comma_sound u = when_sound (is v s.Comma u) (λ q. sound_map (λ mid rest x y. (line v u, items v mid, rw (sign_at s.Comma (v.item u) q) refl, y)) slot_sound)

  added : (ts mid rest : List Token) (all : List Slot) (x : Slot) → Several ts mid all → Next mid rest x → Several ts rest (one_more_slot all x)
  added ts mid rest all x l i = commas.more (subst (λ (z : List Item). Commas SpellsSlot (items v ts) z all) i.2 l) i.3

  more_slots_sound : (all : List Slot) → Sound (more_slots v all) (λ mid rest b. (ts : List Token) → Several ts mid all → Ended ts rest b)
  unfolding more_slots
  more_slots_sound all =
      bind_sound (many_sound {Item = Next} {All = Several} (comma_by v) one_more_slot added comma_sound all)
      (λ b. token_sound (λ u q. pure_sound (λ rest mid y ts z. (line v u, subst (λ (t : Item). Commas SpellsSlot (items v ts) (t ∷ items v rest) b) (sign_at s.Semicolon (v.item u) q) (y ts z)))))

  named_slots_sound : (u : Token) (n : List ℕ) → name_of (seen v u) ≡ Some n → Sound (named_slots v (line v u) n) (λ mid rest all. Ended (u ∷ mid) rest all)
  named_slots_sound u n q = bind_sound (slot_behind_sound u n q) (λ x. sound_map (λ mid rest b y ts z. y (u ∷ ts) (commas.one z)) (more_slots_sound (x ∷ [])))

  -- what is read behind `pthread_t` is spelled
  pub slot_list_sound : Sound (slot_list v) Ended
  unfolding slot_list
  slot_list_sound = commit_sound (λ u. named_sound v Ended u (λ n q. named_slots_sound u n q)) refuse_sound

  -- ---- bodies

  module _ (room : ℕ) where
    abbrev pub D : Kind → List Token → List Token → Tall Body → Type 0
    D kind ts rest b = SpellsBody kind (items v ts) (items v rest) b

    stated_by_sound : (kind : Kind) (b : Tall Body) (u : Token) → SoundMove (λ mid rest c. (ts : List Token) → D kind ts (u ∷ mid) b → D kind ts rest c) (stated_by v kind room b u)
    stated_by_sound kind b u = and_go_sound (statement_sound v kind room u) (λ x. pure_sound (λ rest mid y ts z. g.then z y.1))

    stated_sound : (kind : Kind) (b : Tall Body) → Sound (stated v kind room b) (λ mid rest c. (ts : List Token) → D kind ts mid b → D kind ts rest c)
    stated_sound kind b = bind_sound {R = S v kind} (commit_sound (statement_sound v kind room) refuse_sound) (λ x. pure_sound (λ rest mid y ts z. g.then z y.1))

    -- these threads are added to the body
    abbrev pub With : Tall Body → List Token → List Token → Tall Body → Type 0
    With b ts rest c = (all : List Slot) × (body_with b all ≡ c) × Ended ts rest all

    with_slots_sound : (b : Tall Body) (u : Token) → SoundMove (λ mid rest c. With b (u ∷ mid) rest c) (with_slots_by v b u)
    with_slots_sound b u = named_sound v (With b) u (λ n q. bind_sound (named_slots_sound u n q) (λ all. pure_sound (λ rest ts y. (all, refl, y))))

    declared : (ts mid after rest : List Token) (b c : Tall Body) → ((all : List Slot) (l : ℕ) → Commas SpellsSlot (items v after) (sign l s.Semicolon ∷ items v rest) all → SpellsSlots (items v mid) (items v rest) all)
        → D kinds.Main ts mid b → With b after rest c → D kinds.Main ts rest c
    declared ts mid after rest b c h z y = subst (λ (d : Tall Body). D kinds.Main ts rest d) y.1 (g.then_slots z (h y.0 y.2.0 y.2.1))

    static_sound : (b : Tall Body) (u : Token) → thread_opening (seen v u) ≡ t.Static → Sound (static_threads v b) (λ mid rest c. (ts : List Token) → D kinds.Main ts (u ∷ mid) b → D kinds.Main ts rest c)
    unfolding static_threads
    static_sound b u d =
        token_sound (λ w q. sound_map (λ mid rest c y ts z. declared ts (u ∷ w ∷ mid) mid rest b c (λ all l x. rw (static_at (v.item u) d, type_at (v.item w) q) (g.slots g.present x)) z y)
        (commit_sound (with_slots_sound b) refuse_sound))

    threads_sound : (b : Tall Body) (u : Token) → thread_opening (seen v u) ≡ t.Type → Sound (threads v kinds.Main room b u) (λ mid rest c. (ts : List Token) → D kinds.Main ts (u ∷ mid) b → D kinds.Main ts rest c)
    unfolding threads
    threads_sound b u d =
        commit_sound (λ w. record { taken = λ p e. sound_map (λ mid rest c y ts z. declared ts (u ∷ w ∷ mid) (w ∷ mid) rest b c (λ all l x. rw (thread_at (v.item u) d) (g.slots g.absent x)) z y) ((with_slots_sound b w).taken p e) })
        (record { spelled = λ mid c rest e. (stated_sound kinds.Main b).spelled (u ∷ mid) c rest e })

    main_sound : (b : Tall Body) (u : Token) (x : Thread) → thread_opening (seen v u) ≡ x → SoundMove (λ mid rest c. (ts : List Token) → D kinds.Main ts (u ∷ mid) b → D kinds.Main ts rest c) (main_by v kinds.Main room b u x)
    main_sound b u t.Static d = when_sound v.threads (λ e. static_sound b u d)
    main_sound b u t.Type d = go_sound (threads_sound b u d)
    main_sound b u t.Other d = stated_by_sound kinds.Main b u

    turn_sound : (kind : Kind) (b : Tall Body) (u : Token) → SoundMove (λ mid rest c. (ts : List Token) → D kind ts (u ∷ mid) b → D kind ts rest c) (body_by v kind room b u)
    turn_sound kinds.Main b u = main_sound b u (thread_opening (seen v u)) refl
    turn_sound kind b u = stated_by_sound kind b u

    -- every body that is read is spelled
    pub body_sound : (kind : Kind) → Sound (body v kind room) (D kind)
    body_sound kind = sound_map (λ mid rest b y. y mid g.none) (loop_sound {R = D kind} (turn_sound kind) empty_body)
