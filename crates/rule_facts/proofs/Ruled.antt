-- In a well-formed program each statement is as the rules say.
use Rattle.std.proofs.Common.{length}
use Rattle.std.specs.Prelude.{map}
use Rattle.std.specs.List.{enumerate_from}
use Rattle.c_tree.specs.declared.program.Mode.{Mode}
use Rattle.c_tree.specs.Lined.{Program, bare_array, bare_program}
use Rattle.c_rules.specs.Formed.{Formed, KeepsRules}
use Rattle.c_rules.specs.declared.rule.Count.TheVariants as count
use Rattle.c_rules.proofs.Members.{in_of}
use Rattle.rule_facts.proofs.Calling.{calls_well, one_name}
use Rattle.rule_facts.proofs.Elements.{elements_well}
use Rattle.rule_facts.proofs.Everything.{everywhere_in}
use Rattle.rule_facts.proofs.Fixed.{apart_kept}
use Rattle.rule_facts.proofs.Main.{function_found, main_there, names_apart}
use Rattle.rule_facts.proofs.Own.{threads_behind, threads_own}
use Rattle.rule_facts.proofs.Placed.{places_well}
use Rattle.rule_facts.proofs.Places.{in_functions}
use Rattle.rule_facts.proofs.Ranges.{capacities_counted, capacities_filled, monitors_well}
use Rattle.rule_facts.proofs.Starting.{created_at, starts_well}
use Rattle.rule_facts.specs.Elements.{ElementsFit}
use Rattle.rule_facts.specs.Regular.{Regular}
use Rattle.rule_facts.specs.Statements.{CallsAbove, PlacesFit, WithinMonitors}
use Rattle.rule_facts.specs.Threading.{StartsWell}

pub regular : (p : Program) (mode : Mode) → Formed p mode → Regular p
regular p mode formed =
    let keeps : KeepsRules p mode = formed.keeps_rules in
    record {
      apart = apart_kept p mode keeps;
      names = one_name p mode keeps;
      found = λ f at. function_found p.functions f.1 (names_apart p mode keeps) (in_functions 0 p.functions f (in_of (enumerate_from 0 p.functions) f at));
      main = main_there p mode keeps;
      calls = λ f at. everywhere_in (λ g. CallsAbove p g.0) p (calls_well p mode keeps) f (in_of (enumerate_from 0 p.functions) f at);
      places = λ f at. everywhere_in (λ g. PlacesFit (bare_program p)) p (places_well p mode keeps) f (in_of (enumerate_from 0 p.functions) f at);
      elements = λ f at. everywhere_in (λ g. ElementsFit (map bare_array p.arrays)) p (elements_well p mode keeps) f (in_of (enumerate_from 0 p.functions) f at);
      monitors = λ f at. everywhere_in (λ g. WithinMonitors (length p.monitors)) p (monitors_well p mode keeps) f (in_of (enumerate_from 0 p.functions) f at);
      starts = λ f at. everywhere_in (λ g. StartsWell p g) p (starts_well p mode keeps) f (in_of (enumerate_from 0 p.functions) f at);
      own = λ f at. threads_own p mode keeps f (in_of (enumerate_from 0 p.functions) f at);
      behind = λ f at. threads_behind p mode keeps f (in_of (enumerate_from 0 p.functions) f at);
      created = created_at p mode keeps;
      counted = capacities_counted p mode keeps;
      capacities = λ capacity at. capacities_filled p mode keeps capacity (in_of p.monitors capacity at);
      few = formed.within count.Monitors;
    }
