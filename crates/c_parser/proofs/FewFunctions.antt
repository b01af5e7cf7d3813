-- A program that is read has no more functions than tokens.
use Rattle.std.proofs.Common.{◌≡◌, ℕ, suc, ◌+◌, ◌≤◌, Bool, true, false, List, [], ◌∷◌, length, sym, subst, arith}
use Rattle.std.specs.Prelude.{Result, Ok, Err, IfOk}
use Rattle.std.proofs.lemmas.List.{length-append, length-map}
use Rattle.c_tree.specs.declared.program.Program as declared
use Rattle.c_tree.specs.Lined.{Program, program_of, function_of}
use Rattle.c_grammar.specs.Levels.{Tall}
use Rattle.c_grammar.specs.Programs.{empty_program}
use Rattle.parse_laws.specs.Parser.{Got, Parser, Move, loop}
use Rattle.parse_laws.proofs.Sound.{Sound, SoundMove, stop_sound, go_sound, pure_sound, refuse_sound, sound_map, bind_sound, and_go_sound, commit_sound, when_sound, loop_sound}
use Rattle.parse_laws.proofs.Loops.{Shrinks}
use Rattle.c_expressions.specs.Parsers.{Sight, seen}
use Rattle.c_expressions.proofs.Shorter.{Less}
use Rattle.c_declarations.specs.declared.tree.Sort.{Sort}
use Rattle.c_declarations.specs.declared.tree.Sort.TheVariants as sort
use Rattle.c_declarations.specs.declared.tree.Head.{Head}
use Rattle.c_declarations.specs.declared.tree.Begun.{Begun}
use Rattle.c_declarations.specs.declared.tree.Begun.TheVariants as begun
use Rattle.c_declarations.specs.Parsers.{line, behind_int, head_behind_void, objects, wait_declared}
use Rattle.c_statements.specs.Parsers.{slot_list}
use Rattle.c_programs.specs.declared.token.Opening.{Opening}
use Rattle.c_programs.specs.declared.token.Opening.TheVariants as o
use Rattle.c_programs.specs.Words.{outer_opening}
use Rattle.c_programs.specs.Parsers.{Views, Reading, read, function_behind, function_added, finished, ints_added, void_added, objects_added, slots_added, declared_by, static_added, outer_by, turn_by, turn, first_by, first_part, program}
use Rattle.c_programs.proofs.Shorter.{turn_shrinks, less_ints}

-- ---- what stands outside functions adds one function at most

module _ {Token : Type 0} where
  abbrev Anyhow : {A : Type 0} → List Token → List Token → A → Type 0
  Anyhow ts rest a = Unit {0}

  anyhow : {A : Type 0} (p : Parser Token A) → Sound p Anyhow
  anyhow p = record { spelled = λ ts a rest e. tt }

  abbrev Grown : Tall Program → List Token → List Token → Tall Program → Type 0
  Grown p ts rest q = length q.tree.functions ≤ suc (length p.tree.functions)

  module _ (v : Sight Token) where
    grown_added : (room : ℕ) (p : Tall Program) (h : Head) → Sound (function_added v room p h) (Grown p)
    grown_added room p h =
        bind_sound (anyhow (function_behind v room h))
        (λ f. pure_sound (λ rest ts x. let n = length-append p.tree.functions (f.tree.function ∷ []) in omega (arith, n)))

    grown_finished : (room : ℕ) (p : Tall Program) (x : Begun) → Sound (finished v room p x) (Grown p)
    grown_finished room p (begun.Cells all) = pure_sound (λ ts. omega arith)
    grown_finished room p (begun.Head h) = grown_added room p h
    grown_finished room p (begun.Capacities c) = bind_sound (anyhow (wait_declared v)) (λ x. pure_sound (λ rest ts y. omega arith))

    grown_ints : (holds : ℕ → Bool) (room : ℕ) (first : Bool) (l : ℕ) (p : Tall Program) → Sound (ints_added v holds room first l p) (Grown p)
    unfolding ints_added
    grown_ints holds room first l p = bind_sound (anyhow (behind_int v holds first l)) (λ x. sound_map (λ mid rest q y ts z. y) (grown_finished room p x))

    grown_void : (room l : ℕ) (p : Tall Program) → Sound (void_added v room l p) (Grown p)
    unfolding void_added
    grown_void room l p = bind_sound (anyhow (head_behind_void v l)) (λ h. sound_map (λ mid rest q y ts z. y) (grown_added room p h))

    grown_objects : (x : Sort) (p : Tall Program) → Sound (objects_added v x p) (Grown p)
    unfolding objects_added
    grown_objects sort.Mutex p = bind_sound (anyhow (objects v sort.Mutex)) (λ all. pure_sound (λ rest ts x. omega arith))
    grown_objects sort.Condition p = bind_sound (anyhow (objects v sort.Condition)) (λ all. pure_sound (λ rest ts x. omega arith))

    grown_slots : (p : Tall Program) → Sound (slots_added v p) (Grown p)
    unfolding slots_added
    grown_slots p = bind_sound (anyhow (slot_list v)) (λ all. pure_sound (λ rest ts x. omega arith))

    grown_declared : (holds : ℕ → Bool) (room : ℕ) (p : Tall Program) (l : ℕ) (x : Opening) → SoundMove (Grown p) (declared_by v holds room p l x)
    grown_declared holds room p l o.Int = go_sound (grown_ints holds room false l p)
    grown_declared holds room p l o.Void = go_sound (grown_void room l p)
    grown_declared holds room p l o.Mutex = go_sound (grown_objects sort.Mutex p)
    grown_declared holds room p l o.Condition = go_sound (grown_objects sort.Condition p)
    grown_declared holds room p l o.Thread = go_sound (grown_slots p)
    grown_declared holds room p l _ = stop_sound

    grown_static : (holds : ℕ → Bool) (room : ℕ) (p : Tall Program) → Sound (static_added v holds room p) (Grown p)
    unfolding static_added
    grown_static holds room p = commit_sound (λ u. grown_declared holds room p (line v u) (outer_opening (seen v u))) refuse_sound

    grown_outer : (holds : ℕ → Bool) (room : ℕ) (p : Tall Program) (l : ℕ) (x : Opening) → SoundMove (Grown p) (outer_by v holds room p l x)
    grown_outer holds room p l o.Static = when_sound v.declarations (λ e. grown_static holds room p)
    grown_outer holds room p l x = grown_declared holds room p l x

-- ---- each turn takes a token

module _ {Token Definitions : Type 0} (views : Views Token Definitions) (room : ℕ) where
  abbrev GrownBy : Reading Definitions → List Token → List Token → Reading Definitions → Type 0
  GrownBy r ts rest q = length q.program.tree.functions ≤ suc (length r.program.tree.functions)

  grown_turn : (r : Reading Definitions) (u : Token) (x : Opening) → SoundMove (GrownBy r) (turn_by views room r u x)
  grown_turn r u o.Definition = go_sound (pure_sound {a = read (views.then r.defined u) r.program} (λ ts. omega arith))
  grown_turn r u x =
      and_go_sound (grown_outer (views.sight r.defined) views.holds room r.program (line (views.sight r.defined) u) x)
      (λ p. pure_sound {a = read r.defined p} (λ mid ts y. y))

  shrinks_less : {A : Type 0} (m : Move Token A) → Shrinks m → SoundMove Less m
  shrinks_less m x = record { taken = λ p e. record { spelled = subst (λ (w : Move Token _). Shrinks w) e x } }

  -- there are as many tokens as functions, with those that are left
  abbrev Few : List Token → List Token → Tall Program → Type 0
  Few ts rest p = length p.tree.functions + length rest ≤ length ts

  abbrev FewRead : List Token → List Token → Reading Definitions → Type 0
  FewRead ts rest r = Few ts rest r.program

  few_turn : (r : Reading Definitions) (u : Token) → SoundMove (λ mid rest q. (ts : List Token) → FewRead ts (u ∷ mid) r → FewRead ts rest q) (turn views room r u)
  few_turn r u = record {
    taken = λ p e. record {
      spelled = λ mid q rest d ts few.
          let g = ((grown_turn r u (outer_opening (seen (views.sight r.defined) u))).taken p e).spelled mid q rest d in
          let l = ((shrinks_less (turn views room r u) (turn_shrinks views room r u)).taken p e).spelled mid q rest d in
          omega (arith, g, l, few);
    };
  }

  few_parts : (r : Reading Definitions) → Sound (loop (turn views room) r) (λ mid rest q. (ts : List Token) → FewRead ts mid r → FewRead ts rest q)
  few_parts r = loop_sound {R = FewRead} few_turn r

  few_first : (end : ℕ) → Sound (first_part views room (empty_program end)) Few
  unfolding first_part
  few_first end = commit_sound (λ u. go u (outer_opening (seen (views.sight views.none) u))) (pure_sound (λ ts. omega arith))
    where
      go : (u : Token) (x : Opening) → SoundMove (λ mid rest p. Few (u ∷ mid) rest p) (first_by views room (empty_program end) (line (views.sight views.none) u) x)
      go u o.Int = go_sound (record {
        spelled = λ mid p rest d.
            let g = (grown_ints (views.sight views.none) views.holds room true (line (views.sight views.none) u) (empty_program end)).spelled mid p rest d in
            let l = (less_ints (views.sight views.none) views.holds room true (line (views.sight views.none) u) (empty_program end)).spelled mid p rest d in
            omega (arith, g, l);
      })
      go u _ = stop_sound

  few_program : (end : ℕ) → Sound (program views room end) Few
  unfolding program
  few_program end =
      bind_sound (few_first end) (λ p. bind_sound {R = λ mid rest r. (ts : List Token) → Few ts mid p → Few ts rest r.program}
      (record { spelled = λ mid r rest d ts x. (few_parts (read views.none p)).spelled mid r rest d ts x })
      (λ r. pure_sound (λ rest mid h ts x. h ts x)))

  -- what is read of so few tokens has so few functions
  pub few_functions : (end most : ℕ) (ts rest : List Token) (p : Tall Program) → program views room end ts ≡ Got p rest → length ts ≤ most → length p.tree.functions ≤ most
  few_functions end most ts rest p e le = let few = (few_program end).spelled ts p rest e in omega (arith, few, le)

-- the same of what the code answers
pub few_answered : {E : Type 0} (result : Result declared.Program E) (p : declared.Program) (most : ℕ) → IfOk result (λ q. q ≡ p) → length (program_of p).functions ≤ most → IfOk result (λ q. length q.functions ≤ most)
few_answered (Ok q) p most same le = let n = length-map p.functions function_of in subst (λ (z : declared.Program). length z.functions ≤ most) (sym same) (omega (arith, le, n))
few_answered (Err e) p most same le = tt
