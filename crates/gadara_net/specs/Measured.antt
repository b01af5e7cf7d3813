-- What is known of a set before lines for it are judged.
use Rattle.std.specs.Prelude.{◌≡◌, ℕ, ◌<◌, List, length, slice_index, ◌⊎◌}
use Rattle.certificate.specs.declared.LineKind.{LineKind}
use Rattle.certificate.specs.declared.LineKind.TheVariants.{Thread as OfThread, Guard as OfGuard, Monitor as OfMonitor}
use Rattle.net_laws.specs.Net.{Net}
use Rattle.net_laws.specs.Siphons.{InSiphon}
use Rattle.net_laws.specs.Candidates.{members}
use Rattle.net_laws.specs.Lines.{held_of, tokens_of}
use Rattle.gadara_net.specs.declared.flow.Flow.{Flow}
use Rattle.gadara_net.specs.declared.lines.Form.{Form}
use Rattle.gadara_net.specs.declared.lines.Form.TheVariants.{Thread, Guard, Monitor}
use Rattle.gadara_net.specs.Sets.{HasMembers}
use Rattle.gadara_net.specs.Flows.{flow_net, NamesResources}

-- for each point what it holds of the set outside the set's least siphon, and 0 inside
pub record AreOutside (n : Net) (mask : ℕ) (sums : List ℕ) : Type 0 where
  pub each : length sums ≡ n.points
  pub sum : (p : ℕ) → p < n.points →
      (InSiphon n (members mask) p × (slice_index sums p ≡ 0)) ⊎ ((InSiphon n (members mask) p → ⊥) × (slice_index sums p ≡ held_of n (members mask) p))

-- the set is a nonempty one of the flow's resources, with these tokens, and these are held outside its least siphon
pub record AreMeasured (f : Flow) (mask tokens : ℕ) (sums : List ℕ) : Type 0 where
  pub some : HasMembers mask
  pub named : NamesResources f mask
  pub total : tokens ≡ tokens_of (flow_net f) (members mask)
  pub outside : AreOutside (flow_net f) mask sums

-- the kind of line of this form and number
abbrev pub kind_of : Form → ℕ → LineKind
kind_of Thread i = OfThread i
kind_of Guard g = OfGuard g
kind_of Monitor c = OfMonitor c
