-- The parser of programs is exact: it reads what is spelled within the levels, and fails at the first failing token.
use Rattle.std.proofs.Common.{◌≡◌, ℕ, zero, suc, ◌-◌, ◌≤◌, Bool, true, false, List, [], ◌∷◌, ◌++◌, arith}
use Rattle.c_lexer.specs.declared.token.Sign.TheVariants as s
use Rattle.c_tree.specs.Lined.{Program}
use Rattle.c_tree.specs.declared.program.Kind.{Kind}
use Rattle.c_tree.specs.declared.program.Slot.{Slot}
use Rattle.c_grammar.specs.Items.{Item, sign}
use Rattle.c_grammar.specs.Levels.{Tall}
use Rattle.c_grammar.specs.Commas.{Commas}
use Rattle.c_grammar.specs.Statements.{Body, SpellsSlot, SpellsBody}
use Rattle.c_grammar.specs.Programs.{SpellsProgram}
use Rattle.parse_laws.specs.declared.fault.Fault.TheVariants.{Syntax, TooDeep}
use Rattle.parse_laws.specs.Parser.{Outcome, Got, Failed, Parser}
use Rattle.parse_laws.proofs.Says.{Says, Live}
use Rattle.parse_laws.proofs.Viable.{Viable}
use Rattle.parse_laws.proofs.Exact.{Exact}
use Rattle.c_expressions.specs.Honest.{Honest}
use Rattle.c_expressions.proofs.Found.{F}
use Rattle.c_declarations.proofs.Viable.{CapacityWords}
use Rattle.c_fronts.specs.Fronts.{is_plain}
use Rattle.c_statements.specs.Parsers.{body, slot_list}
use Rattle.c_programs.specs.Parsers.{Views, program}
use Rattle.c_programs.proofs.Sounds.{running}
use Rattle.c_programs.proofs.Viable.{Offers, program_viable}
use Rattle.c_programs.proofs.Exact.{fronts, first_fronts, program_is_spelled}
use Rattle.c_programs.proofs.Whole.{program_found}

-- a parser with one level more to its room
module _ {Token A : Type 0} (ends : Token → Bool) (r : ℕ) (p : ℕ → Parser Token A) where
  raised : (ts : List Token) (o : Outcome Token A) → Says ends (suc r) (λ s z o. p s z ≡ o) ts o → Says ends r (λ s z o. p (suc s) z ≡ o) ts o
  raised ts (Got a rest) y = record { front = y.front; parts = y.parts; again = λ s le z h. y.again (suc s) (omega (arith, le)) z h }
  raised ts (Failed Syntax rest) y = record { front = y.front; parts = y.parts; again = λ s le z h. y.again (suc s) (omega (arith, le)) z h; begun = y.begun }
  raised ts (Failed TooDeep []) y = y
  raised ts (Failed TooDeep (t ∷ after)) y = wider y.room y.wider y.deeper
    where
      wider : (room : ℕ) → suc r ≤ room → Live ends (λ z o. p room (y.front ++ t ∷ z) ≡ o) → Says ends r (λ s z o. p (suc s) z ≡ o) ts (Failed TooDeep (t ∷ after))
      wider zero le live = absurd (omega (arith, le))
      wider (suc m) le live = record { front = y.front; parts = y.parts; again = y.again; begun = y.begun; room = m; wider = omega (arith, le); deeper = live }

  raise_viable : Viable ends (suc r) p → Viable ends r (λ s. p (suc s))
  raise_viable x = record { local = record { says = λ ts. raised ts (p (suc r) ts) (x.local.says ts) }; live = λ s le. x.live (suc s) (omega (arith, le)) }

-- how many levels stand below a program's own
abbrev pub height : Tall Program → ℕ
height p = p.levels - 1

module _ {Token Definitions : Type 0} (views : Views Token Definitions) (still : (d : Definitions) (u : Token) → is_plain ((views.sight d).item u) ≡ true → views.then d u ≡ d) (offers : (d : Definitions) → Offers (views.sight d) views.holds)
    (here : CapacityWords (views.sight views.none) (offers views.none).words) (honest : (d : Definitions) → Honest (views.sight d)) (all_hold : (k : ℕ) → views.holds k ≡ true)
    (body_finds : (d : Definitions) (room : ℕ) (kind : Kind) (m : ℕ) (ts rest : List Item) (b : Tall Body) → SpellsBody kind ts (sign m s.RightBrace ∷ rest) b → b.levels ≤ room → F (views.sight d) (body (views.sight d) kind room) ts (sign m s.RightBrace ∷ rest) b)
    (slots_find : (d : Definitions) (m : ℕ) (ts rest : List Item) (all : List Slot) → Commas SpellsSlot ts (sign m s.Semicolon ∷ rest) all → F (views.sight d) (slot_list (views.sight d)) ts rest all) where
  -- in a file that ends on this line; the room r is how many levels may stand below a program's own
  pub program_exact : (end : ℕ) → Exact (λ u. false) (λ ts p. SpellsProgram end (running views views.none ts) p) height (λ r. program views (suc r) end)
  program_exact end = record {
    viable = λ r. raise_viable (λ u. false) r (λ s. program views s end) (program_viable views offers here (suc r) (omega arith) end);
    sound = λ r ts p e. let x = program_is_spelled views still offers here (suc r) (omega arith) end ts p e in (x.0, omega (arith, x.1));
    complete = λ r ts p d le. program_found views still (suc r) honest all_hold (λ d kind m ts rest b x le. body_finds d (suc r) kind m ts rest b x le) slots_find (fronts views still offers here (suc r) (omega arith))
        (first_fronts views still offers here (suc r) (omega arith)) end ts p d (omega (arith, le));
  }
