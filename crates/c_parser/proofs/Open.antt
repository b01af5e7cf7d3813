-- Words that begin a program, in the terms of the grammar and of the parser's laws.
use Rattle.std.proofs.Common.{◌≡◌, ℕ, suc, ◌-◌, ◌≤◌, List, [], ◌∷◌, ◌++◌, sym, subst, ◌∙◌, append_assoc, append-nil, arith}
use Rattle.c_lexer.specs.Tokens.{Word}
use Rattle.c_tree.specs.Lined.{Program}
use Rattle.c_grammar.specs.Levels.{Tall}
use Rattle.c_grammar.specs.Programs.{Spells, Begins, most_levels, IsOpen, FailsAsSyntax, FailsAsTooDeep, FailsAtEnd}
use Rattle.parse_laws.specs.declared.fault.Fault.TheVariants as fault
use Rattle.parse_laws.specs.Exact as exact
use Rattle.parse_laws.specs.Exact.{Shut, FailsAt}
use Rattle.c_programs.specs.Laws.{below}
use Rattle.c_parser.proofs.AnyEnd.{relined, any_end}

-- levels below a program's own, and its levels
low_levels : (r n : ℕ) → n - 1 ≤ r → n ≤ suc r
low_levels r n le = omega (arith, le)

few_levels : (r n : ℕ) → n ≤ suc r → n - 1 ≤ r
few_levels r n le = omega (arith, le)

module _ (end : ℕ) where
  pub begins_so : (r : ℕ) (words : List Word) → exact.Begins (Spells end) below r words → Begins (suc r) words
  begins_so r words h = record { more = h.0; end = end; program = h.1; spells = h.2; within = low_levels r h.1.levels h.3 }

  begins_some : (words : List Word) → exact.BeginsSome (Spells end) words → (room : ℕ) × Begins room words
  begins_some words h = (h.1.levels, record { more = h.0; end = end; program = h.1; spells = h.2; within = omega arith })

  so_begins : (r : ℕ) (words : List Word) → Begins (suc r) words → exact.Begins (Spells end) below r words
  so_begins r words h = (h.more, relined end h.program, any_end h.end end (words ++ h.more) h.program h.spells, few_levels r h.program.levels h.within)

  some_begins : (room : ℕ) (words : List Word) → Begins room words → exact.BeginsSome (Spells end) words
  some_begins room words h = (h.more, relined end h.program, any_end h.end end (words ++ h.more) h.program h.spells)

  -- ---- the failing token

  module _ (words rest : List Word) (token : Word) where
    pub fails_as_syntax : FailsAt (Spells end) below 63 words fault.Syntax (token ∷ rest) → (front : List Word) × (words ≡ front ++ token ∷ rest) × FailsAsSyntax front token
    fails_as_syntax h = (
      h.front,
      h.parts,
      record {
        fails = record { before = begins_so 63 h.front h.before; with_it = λ b. h.shut (some_begins most_levels (h.front ++ token ∷ []) b) };
        at_any_depth = λ room b. h.shut (some_begins room (h.front ++ token ∷ []) b);
      },
    )

    pub fails_as_too_deep : FailsAt (Spells end) below 63 words fault.TooDeep (token ∷ rest) → (front : List Word) × (words ≡ front ++ token ∷ rest) × FailsAsTooDeep front token
    fails_as_too_deep h = let deep = begins_some (h.front ++ token ∷ []) h.shut.0 in (
      h.front,
      h.parts,
      record {
        fails = record { before = begins_so 63 h.front h.before; with_it = λ b. h.shut.1 (so_begins 63 (h.front ++ token ∷ []) b) };
        room = deep.0;
        deeper = deep.1;
      },
    )

  -- ---- the end

  pub fails_at_end : (words : List Word) → FailsAt (Spells end) below 63 words fault.Syntax [] → FailsAtEnd words
  fails_at_end words h =
      let same : h.front ≡ words = sym (append-nil h.front) ∙ sym h.parts in
      subst FailsAtEnd same (record { before = begins_so 63 h.front h.before; none = λ other p x. h.shut (relined end p) (any_end other end h.front p x) })

  pub no_deep_end : (words : List Word) → FailsAt (Spells end) below 63 words fault.TooDeep [] → ⊥
  no_deep_end words h = h.shut

  -- what is spelled within the levels is open
  pub spelled_open : (words : List Word) (p : Tall Program) → Spells end words p → p.levels ≤ most_levels → IsOpen words
  spelled_open words p x le = record { more = []; end = end; program = p; spells = subst (λ (z : List Word). Spells end z p) (sym (append-nil words)) x; within = le }

  pub within_levels : (p : Tall Program) → below p ≤ 63 → p.levels ≤ most_levels
  within_levels p le = low_levels 63 p.levels le

-- what begins open words is open
pub open_before : (words more : List Word) → IsOpen (words ++ more) → IsOpen words
open_before words more h = record { more = more ++ h.more; end = h.end; program = h.program; spells = subst (λ (z : List Word). Spells h.end z h.program) (append_assoc words more h.more) h.spells; within = h.within }
