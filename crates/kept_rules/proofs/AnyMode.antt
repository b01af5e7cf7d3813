-- A program that is well formed is one that may have copies and monitors.
use Rattle.std.proofs.Common.{[], refl}
use Rattle.c_tree.specs.declared.program.Mode.{Mode}
use Rattle.c_tree.specs.Lined.{Program}
use Rattle.c_tree.specs.declared.program.Mode.TheVariants as mode
use Rattle.c_rules.specs.Formed.{Formed}
use Rattle.c_rules.proofs.Members.{in_of}
use Rattle.kept_rules.proofs.Kept.{kept_formed}
use Rattle.kept_rules.proofs.Put.{in_any}
use Rattle.kept_rules.proofs.Relined.{own_same}
use Rattle.kept_rules.proofs.Same.{same_edit}
use Rattle.kept_rules.specs.Uses.{itself}

pub any_formed : (p : Program) (m : Mode) → Formed p m → Formed p mode.Any
any_formed p m formed =
    let own = own_same p p m refl formed in
    kept_formed itself (λ k. k) mode.Any p p m (same_edit p p m refl formed.keeps_rules) (record {
      allowed = λ g at. in_any m g.name (own.allowed g at);
      short = λ line at. in_of [] line at;
      main = own.main;
      monitors = λ line at. in_of [] line at;
      counted = own.counted;
      filled = own.filled;
      few = own.few;
    }) formed
