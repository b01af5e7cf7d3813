-- What is broken by the names that statements use.
use Rattle.std.specs.Prelude.{ℕ, Bool, List, ◌++◌, flat_map}
use Rattle.std.specs.declared.option.Option.{Option}
use Rattle.c_tree.specs.declared.program.Mode.{Mode}
use Rattle.c_tree.specs.Lined.{Function, function_of}
use Rattle.c_rules.specs.declared.rule.Rule.TheVariants.{Unknown, WrongKind}
use Rattle.c_rules.specs.declared.role.Role.{Role}
use Rattle.c_rules.specs.Declarations.{Declaration, Thing}
use Rattle.c_rules.specs.Uses.{Use}
use Rattle.c_rules.specs.Meaning.{is_out_of_reach}
use Rattle.c_rules.specs.Using.{is_misused}
use Rattle.c_names.specs.Tables.{meant, meaning_by}
use Rattle.c_acts.specs.declared.first.Break.{Break}
use Rattle.c_acts.specs.declared.uses.Inside.{Inside}
use Rattle.c_acts.specs.First.{break_if}

-- The function that is looked at, and what it stands in.
pub record Around : Type 0 where
  -- the declarations that names mean outside functions
  pub outside : List ℕ → Option Declaration
  pub mode : Mode
  pub monitors : ℕ
  pub function : Function
  pub place : ℕ

abbrev pub around : Inside → Around
around at = record {
  outside = meant at.names.now;
  mode = at.mode;
  monitors = at.monitors;
  function = function_of at.function.now;
  place = at.place;
}

abbrev pub use_of : List ℕ → Role → Bool → Use
use_of name role indexed = record { name = name; role = role; indexed = indexed }

abbrev pub misuses : Around → ℕ → Use → Option Thing → List Break
misuses a line u thing = break_if (is_out_of_reach a.place thing) Unknown line ++ break_if (is_misused u thing) WrongKind line

-- what a use breaks, with these names in scope
abbrev pub use_breaks : Around → (List ℕ → Bool) → ℕ → Use → List Break
use_breaks a inside line u = misuses a line u (meaning_by a.outside inside a.function u.name)

abbrev pub uses_breaks : Around → (List ℕ → Bool) → ℕ → List Use → List Break
uses_breaks a inside line us = flat_map (use_breaks a inside line) us
