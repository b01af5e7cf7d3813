-- What stays while the changes of a block are taken back.
use Rattle.std.proofs.Common.{◌≡◌, []}
use Rattle.context_locals.specs.declared.known.Known.{Known}
use Rattle.context_locals.specs.Known.{outers_of, IsKept}

pub record Closing (old now : Known) : Type 0 where
  pub names : now.names ≡ old.names
  pub outer : outers_of now ≡ outers_of old
  pub kept : IsKept now
  -- nothing is left only where there was nothing
  pub untouched : now.changes.items ≡ [] → now.values.items ≡ old.values.items
