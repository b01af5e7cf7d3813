-- The parser of programs is exact on the words of the lexer.
use Rattle.std.proofs.Common.{ℕ, suc, ◌≤◌, false, List, [], ◌∷◌, refl, sym, subst}
use Rattle.c_lexer.specs.declared.token.Sign.TheVariants as s
use Rattle.c_tree.specs.declared.program.Kind.{Kind}
use Rattle.c_tree.specs.declared.program.Slot.{Slot}
use Rattle.c_grammar.specs.Items.{Item, sign, Defined}
use Rattle.c_grammar.specs.Levels.{Tall}
use Rattle.c_grammar.specs.Commas.{Commas}
use Rattle.c_grammar.specs.Statements.{Body, SpellsSlot, SpellsBody}
use Rattle.c_grammar.specs.Programs.{SpellsProgram, Spells}
use Rattle.parse_laws.proofs.Exact.{Exact}
use Rattle.c_expressions.proofs.Found.{F}
use Rattle.c_statements.specs.Parsers.{body, slot_list}
use Rattle.c_statements.proofs.FoundBodies.{body_found, slot_list_finds}
use Rattle.c_programs.specs.Lexed.{word_sight, word_views}
use Rattle.c_programs.specs.Parsers.{program}
use Rattle.c_programs.proofs.Sounds.{running}
use Rattle.c_programs.proofs.RunningWords.{words_still, running_items}
use Rattle.c_programs.proofs.WordParts.{word_offers, word_capacities}
use Rattle.c_programs.proofs.WordHonest.{word_honest}
use Rattle.c_programs.proofs.Exactness.{height, program_exact}

bodies_found : (defined : List Defined) (room : ℕ) (kind : Kind) (m : ℕ) (ts rest : List Item) (b : Tall Body) → SpellsBody kind ts (sign m s.RightBrace ∷ rest) b → b.levels ≤ room
    → F (word_sight defined) (body (word_sight defined) kind room) ts (sign m s.RightBrace ∷ rest) b
bodies_found defined room kind m ts rest b x le = body_found (word_sight defined) (word_honest defined) room x le (refl, refl, refl)

slots_found : (defined : List Defined) (m : ℕ) (ts rest : List Item) (all : List Slot) → Commas SpellsSlot ts (sign m s.Semicolon ∷ rest) all → F (word_sight defined) (slot_list (word_sight defined)) ts rest all
slots_found defined m ts rest all x = slot_list_finds (word_sight defined) (word_honest defined) m x

-- In a file that ends on this line. What words are spelled by are their items, each by the definitions before it.
pub words_exact : (end : ℕ) → Exact (λ u. false) (λ words p. SpellsProgram end (running word_views [] words) p) height (λ r. program word_views (suc r) end)
words_exact end = program_exact word_views words_still word_offers word_capacities word_honest (λ k. refl) bodies_found slots_found end

-- the same, of the items of the grammar
pub words_spelled : (end : ℕ) → Exact (λ u. false) (Spells end) height (λ r. program word_views (suc r) end)
words_spelled end =
    let x = words_exact end in
    record {
      viable = x.viable;
      sound = λ r ts p e. let y = x.sound r ts p e in (subst (λ (is : List Item). SpellsProgram end is p) (running_items [] ts) y.0, y.1);
      complete = λ r ts p d le. x.complete r ts p (subst (λ (is : List Item). SpellsProgram end is p) (sym (running_items [] ts)) d) le;
    }
