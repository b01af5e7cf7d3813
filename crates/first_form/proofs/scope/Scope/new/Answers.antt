use Rattle.std.proofs.Common.{◌∙◌, sym, ap, map}
use Rattle.c_tree.specs.declared.program.Cell.{Cell}
use Rattle.c_tree.specs.declared.program.Object.{Object}
use Rattle.first_form.proofs.OuterNames.{ints_of_shown, mutexes_of_shown}
use Rattle.first_form.proofs.Sets.{knows_at}
use Rattle.first_form.proofs.scope.Scope.new.Goals as goal

pub invariant_of-result : goal.invariant_of-result
invariant_of-result c = record {
  has_ints = knows_at c.in_ok-name_set.field-0 _ _ (ap (map (λ (x : Cell). x.name)) c.as_slice.ensures ∙ sym (ints_of_shown c.args.program.now)) c.in_ok-name_set.ensures;
  has_mutexes = knows_at c.in_ok-name_set-2.field-0 _ _ (ap (map (λ (x : Object). x.name)) c.as_slice-2.ensures ∙ sym (mutexes_of_shown c.args.program.now)) c.in_ok-name_set-2.ensures;
}
