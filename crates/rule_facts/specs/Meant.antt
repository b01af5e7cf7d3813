-- What the rules say of each use of a name.
use Rattle.std.specs.Prelude.{◌≡◌, Bool, false, true, Some}
use Rattle.c_tree.specs.Lined.{Program}
use Rattle.c_rules.specs.declared.role.Role.{Role}
use Rattle.c_rules.specs.declared.role.Role.TheVariants.{Start, Called}
use Rattle.c_rules.specs.Declarations.{Thing}
use Rattle.c_rules.specs.Sites.{Site}
use Rattle.c_rules.specs.Uses.{Use, fits}
use Rattle.c_rules.specs.Meaning.{meaning, is_out_of_reach}

-- a name that is used at a statement means something within reach, which is used as what it is
pub record Meant (p : Program) (site : Site) (u : Use) : Type 0 where
  pub thing : Thing
  pub meant : meaning p site u.name ≡ Some thing
  pub fit : fits thing u.role u.indexed ≡ true
  pub reached : is_out_of_reach site.place (Some thing) ≡ false

-- a use that names a function
abbrev pub names_function : Role → Bool
names_function Start = true
names_function (Called result) = true
names_function role = false
