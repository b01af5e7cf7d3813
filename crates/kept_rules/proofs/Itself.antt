-- A well-formed program is a copy of itself.
use Rattle.std.proofs.Common.{false, refl, true, ◌≡◌}
use Rattle.std.specs.Prelude.{Contains}
use Rattle.c_tree.specs.declared.program.Mode.{Mode}
use Rattle.c_tree.specs.Lined.{Function, Program}
use Rattle.c_rules.specs.Sites.{is_main}
use Rattle.c_rules.specs.Formed.{Formed}
use Rattle.c_rules.specs.Uses.{is_start}
use Rattle.kept_rules.proofs.Put.{in_any}
use Rattle.kept_rules.proofs.Relined.{own_same}
use Rattle.kept_rules.proofs.Same.{same_edit}
use Rattle.kept_rules.specs.Uses.{IsCopyOf}

pub copy_of_itself : (p : Program) (m : Mode) → Formed p m → ((f : Function) → Contains p.functions f → is_main f ≡ true → is_start f.kind ≡ false) → IsCopyOf (λ n. n) (λ k. k) p p
copy_of_itself p m formed no_thread =
    let edit_so = same_edit p p m refl formed.keeps_rules in
    let own = own_same p p m refl formed in
    record {
      declared = edit_so.declared;
      monitors = refl;
      cap_len = refl;
      functions = edit_so.functions;
      ordered = λ g h a b less. less;
      called = λ x u at of is. let a = edit_so.called x u at of is in record { place = a.place; function = a.function; listed = a.listed; named = a.named };
      apart = edit_so.apart;
      fresh = edit_so.fresh;
      allowed = λ g at. in_any m g.name (own.allowed g at);
      main = own.main;
      no_thread = no_thread;
    }
