-- Every declaration of threads and every body that is begun can be completed.
use Rattle.std.proofs.Common.{◌≡◌, ℕ, zero, suc, ◌<◌, Bool, true, false, cond, ◌||◌, ◌&&◌, List, [], ◌∷◌, Option, Some, None, refl, sym, subst, ◌∙◌, arith}
use Rattle.c_lexer.specs.declared.token.Sign.TheVariants as signs
use Rattle.c_tree.specs.declared.program.Kind.{Kind}
use Rattle.c_tree.specs.declared.program.Slot.{Slot}
use Rattle.c_grammar.specs.declared.words.FixedWord.TheVariants as w
use Rattle.c_grammar.specs.Items.{What, name_of}
use Rattle.c_grammar.specs.Levels.{Tall}
use Rattle.c_grammar.specs.Statements.{Body, body_then}
use Rattle.parse_laws.specs.Parser.{◌>>=◌, pure, Stop, Deep, must}
use Rattle.parse_laws.proofs.Viable.{Local, Viable, Follows, ViableMove, stops, sinks, goes, Within, follows_viable, pure_viable, pure_follows, bind_local, bind_viable, bind_follows, commit_viable, choice_viable, option_follows, move_then, stop_move, go_move, when_move, must_viable, must_follows}
use Rattle.parse_laws.proofs.Loops.{many_follows, loop_follows}
use Rattle.parse_laws.proofs.After.{alike_steady}
use Rattle.parse_laws.proofs.Completes.{all_fit, local_steady, steady_local}
use Rattle.c_expressions.specs.Words.{same_sign, is_sign}
use Rattle.c_expressions.specs.Parsers.{Sight, seen, is, go_named}
use Rattle.c_expressions.proofs.Spelled.{is_sign_only}
use Rattle.c_expressions.proofs.Words.{SeenAs, Words}
use Rattle.c_expressions.proofs.Closers.{is_itself}
use Rattle.c_simple.specs.Words.{number_of}
use Rattle.c_simple.specs.Parsers.{line, simple_by}
use Rattle.c_statements.specs.declared.word.Thread.{Thread}
use Rattle.c_statements.specs.declared.word.Thread.TheVariants as t
use Rattle.c_statements.specs.Words.{thread_opening, is_static, is_thread_type, begins}
use Rattle.c_statements.specs.Parsers.{slot_of, length_by, slot_length, slot_behind, slot, one_more_slot, more_slots, named_slots, slot_list, statement_by, empty_body, stated_by, named_thread, with_slots, with_slots_by, static_threads, threads, main_by, is_main, body_by, body}
use Rattle.c_statements.proofs.Openings.{simple_is, statement_begins}
use Rattle.c_statements.proofs.Turns.{turn_stops}
use Rattle.c_statements.proofs.Tokens.{sign_no_else, right_brace}
use Rattle.c_statements.proofs.Viable.{no_else, statement_moves}

-- each token but `[`
abbrev pub other_than_bracket : What → Bool
other_than_bracket (What.Sign signs.LeftBracket) = false
other_than_bracket other = true

no_bracket_is : (a : What) → other_than_bracket a ≡ true → is_sign signs.LeftBracket a ≡ false
unfolding same_sign
no_bracket_is (What.Sign signs.LeftBracket) e = absurd cc
no_bracket_is _ e = refl

comma_other : (a : What) → is_sign signs.Comma a ≡ true → other_than_bracket a ≡ true
comma_other a e = subst (λ (b : What). other_than_bracket b ≡ true) (sym (is_sign_only signs.Comma a e)) refl

semicolon_other : (a : What) → is_sign signs.Semicolon a ≡ true → (other_than_bracket a ≡ true) × (is_sign signs.Comma a ≡ false)
unfolding same_sign
semicolon_other a e = subst (λ (b : What). (other_than_bracket b ≡ true) × (is_sign signs.Comma b ≡ false)) (sym (is_sign_only signs.Semicolon a e)) (refl, refl)

brace_no_name : (a : What) → is_sign signs.RightBrace a ≡ true → name_of a ≡ None
brace_no_name a e = subst (λ (b : What). name_of b ≡ None) (sym (is_sign_only signs.RightBrace a e)) refl

type_is : (a : What) → thread_opening a ≡ t.Type → a ≡ What.Fixed w.Thread
type_is (What.Fixed w.Static) e = absurd cc
type_is (What.Fixed w.Thread) e = refl
type_is _ e = absurd cc

module _ {Token : Type 0} (v : Sight Token) (words : Words v) where
  -- ---- threads

  abbrev pub unbracketed : Token → Bool
  unbracketed u = other_than_bracket (seen v u)

  module _ {r : ℕ} where
    slot_length_viable : {ends : Token → Bool} (l : ℕ) (n : List ℕ) → Viable ends r (λ s. slot_length v l n)
    unfolding slot_length
    slot_length_viable {ends} l n = choice_viable (λ u. go (number_of (seen v u))) words.number (λ s le. rw words.number_is refl) (closed words.value)
      where
        closed : (len : ℕ) → Viable ends r (λ s. must (is v signs.RightBracket) (pure (slot_of l n (Some len))))
        closed len = must_viable (is v signs.RightBracket) (words.sign signs.RightBracket) (is_itself v words signs.RightBracket) pure_viable

        go : (k : Option ℕ) → ViableMove ends r (λ s. length_by v l n k)
        go None = stop_move
        go (Some len) = go_move (closed len)

    slot_behind_viable : (l : ℕ) (n : List ℕ) → Viable unbracketed r (λ s. slot_behind v l n)
    unfolding slot_behind
    slot_behind_viable l n = follows_viable {before = unbracketed} (option_follows (λ u e. e) (λ s u e. rw (no_bracket_is (seen v u) e) refl) (λ u. when_move (is v signs.LeftBracket u) (λ e. slot_length_viable l n)))

    slot_viable : Viable unbracketed r (λ s. slot v)
    unfolding slot
    slot_viable = choice_viable (λ u. go u (name_of (seen v u))) words.name (λ s le. rw words.name_is refl) (slot_behind_viable (line v words.name) words.letters)
      where
        go : (u : Token) (n : Option (List ℕ)) → ViableMove unbracketed r (λ s. go_named (slot_behind v (line v u)) n)
        go u None = stop_move
        go u (Some n) = go_move (slot_behind_viable (line v u) n)

    more_slots_follows : {ends : Token → Bool} (all : List Slot) → Follows unbracketed ends r (λ s. more_slots v all)
    unfolding more_slots
    more_slots_follows all =
        bind_follows (many_follows one_more_slot all (λ u e. (semicolon_other (seen v u) e).0) (λ u e. (semicolon_other (seen v u) e).0) (λ s u e. rw ((semicolon_other (seen v u) e).1) refl) (λ u. when_move (is v signs.Comma u) (λ e. slot_viable)))
        (λ b. must_follows (is v signs.Semicolon) (words.sign signs.Semicolon) (is_itself v words signs.Semicolon) (is_itself v words signs.Semicolon) pure_viable)

    named_slots_viable : {ends : Token → Bool} (l : ℕ) (n : List ℕ) → Viable ends r (λ s. named_slots v l n)
    named_slots_viable l n = bind_viable (slot_behind_viable l n) (λ x. more_slots_follows (x ∷ []))

    -- what stands behind `pthread_t`
    pub slot_list_viable : {ends : Token → Bool} → Viable ends r (λ s. slot_list v)
    unfolding slot_list
    slot_list_viable {ends} = choice_viable (λ u. go u (name_of (seen v u))) words.name (λ s le. rw words.name_is refl) (named_slots_viable (line v words.name) words.letters)
      where
        go : (u : Token) (n : Option (List ℕ)) → ViableMove ends r (λ s. go_named (named_slots v (line v u)) n)
        go u None = stop_move
        go u (Some n) = go_move (named_slots_viable (line v u) n)

    -- ---- bodies

    with_slots_viable : {ends : Token → Bool} (b : Tall Body) (l : ℕ) (n : List ℕ) → Viable ends r (λ s. with_slots v b l n)
    with_slots_viable b l n = bind_viable (named_slots_viable l n) (λ all. pure_follows (λ u e. e))

    with_slots_moves : {ends : Token → Bool} (b : Tall Body) (u : Token) → ViableMove ends r (λ s. with_slots_by v b u)
    with_slots_moves {ends} b u = go (name_of (seen v u))
      where
        go : (n : Option (List ℕ)) → ViableMove ends r (λ s. go_named (with_slots v b (line v u)) n)
        go None = stop_move
        go (Some n) = go_move (with_slots_viable b (line v u) n)

    static_viable : {ends : Token → Bool} (b : Tall Body) → v.threads ≡ true → Viable ends r (λ s. static_threads v b)
    unfolding static_threads
    static_viable b e =
        let x = words.thread e in
        must_viable (λ u. is_thread_type (seen v u)) x.0 (rw x.1 refl) (choice_viable (with_slots_moves b) words.name (λ s le. rw words.name_is refl) (with_slots_viable b (line v words.name) words.letters))

  -- a body ends before a closing brace
  abbrev closes_body : Token → Bool
  closes_body u = is v signs.RightBrace u

  module _ (nought : SeenAs v (λ a. a ≡ What.Number 0)) (kind : Kind) where
    brace_within : Within (no_else v) closes_body
    brace_within u e = sign_no_else signs.RightBrace (seen v u) e

    stated_move : (r : ℕ) (b : Tall Body) (u : Token) → ViableMove closes_body r (λ s. stated_by v kind s b u)
    stated_move r b u = move_then (statement_moves v words nought kind r u) (λ x. pure_follows brace_within)

    -- where a level is left, `pthread_t` begins a simple statement
    type_goes : (r : ℕ) (u : Token) → seen v u ≡ What.Fixed w.Thread → 0 < r → statement_by v kind r u ≡ Deep → ⊥
    type_goes zero u e lt d = absurd (omega arith)
    type_goes (suc m) u e lt d = go (sym (simple_is v kind (suc m) u (rw e refl)) ∙ d)
      where
        go : simple_by v kind m u ≡ Deep → ⊥
        go = rw e (λ h. cc)

    named_thread_local : (r : ℕ) (b : Tall Body) (u : Token) → thread_opening (seen v u) ≡ t.Type → 0 < r → Local closes_body r (λ s. named_thread v kind s b u)
    named_thread_local r b u e lt = go (statement_moves v words nought kind r u)
      where
        seen_type : seen v u ≡ What.Fixed w.Thread
        seen_type = type_is (seen v u) e

        go : ViableMove (no_else v) r (λ s. statement_by v kind s u) → Local closes_body r (λ s. named_thread v kind s b u)
        go (stops f) = absurd (statement_begins v kind r u (rw seen_type refl) (f r (omega arith)))
        go (sinks d s le p f live) = absurd (type_goes r u seen_type lt d)
        go (goes p f x) =
            steady_local (alike_steady {fits = all_fit} {p = λ s. p s >>= λ y. pure (body_then b y)} (λ s le z. rw (f s le) refl)
            (local_steady (λ s le z a rest d. refl) (bind_local x.local (λ y. pure_follows brace_within))))

    threads_viable : (r : ℕ) (b : Tall Body) (u : Token) → thread_opening (seen v u) ≡ t.Type → 0 < r → Viable closes_body r (λ s. threads v kind s b u)
    unfolding threads
    threads_viable r b u e lt =
        commit_viable (with_slots_moves b) (λ ts a d s le x h. rw (brace_no_name (seen v x) h) refl) (named_thread_local r b u e lt)
        words.name (λ s le. rw words.name_is refl) (with_slots_viable b (line v words.name) words.letters)

    main_move : (r : ℕ) → 0 < r → (b : Tall Body) (u : Token) (x : Thread) → thread_opening (seen v u) ≡ x → ViableMove closes_body r (λ s. main_by v kind s b u x)
    main_move r lt b u t.Static e = when_move v.threads (λ q. static_viable b q)
    main_move r lt b u t.Type e = go_move (threads_viable r b u e lt)
    main_move r lt b u t.Other e = stated_move r b u

    turn_move : (r : ℕ) → 0 < r → (b : Tall Body) (u : Token) → ViableMove closes_body r (λ s. body_by v kind s b u)
    turn_move r lt b u = go (is_main kind)
      where
        go : (c : Bool) → ViableMove closes_body r (λ s. cond c (main_by v kind s b u (thread_opening (seen v u))) (stated_by v kind s b u))
        go true = main_move r lt b u (thread_opening (seen v u)) refl
        go false = stated_move r b u

    body_stop : (s : ℕ) (b : Tall Body) (u : Token) → closes_body u ≡ true → body_by v kind s b u ≡ Stop
    body_stop s b u e = turn_stops v kind s b u (neither (begins (seen v u)) (is_static (seen v u)) (is_main kind) v.threads (right_brace (seen v u) e).0 (right_brace (seen v u) e).1)
      where
        neither : (x y m n : Bool) → x ≡ false → y ≡ false → x || (m && (n && y)) ≡ false
        neither x y m n p q = rw (p, q) (both m n)
          where
            both : (m n : Bool) → false || (m && (n && false)) ≡ false
            both true true = refl
            both true false = refl
            both false n = refl

    -- every body that is begun can be completed
    pub body_viable : (r : ℕ) → 0 < r → Viable (λ u. is v signs.RightBrace u) r (λ s. body v kind s)
    body_viable r lt = follows_viable {before = closes_body} (loop_follows {inner = closes_body} empty_body (λ u e. e) (λ u e. e) body_stop (turn_move r lt))
