-- Why it isn't known whether a net is covered.
use Rattle.std.specs.Prelude.{◌≡◌, ℕ, ⊤}
use Rattle.net_laws.specs.Net.{Net}
use Rattle.candidates.specs.Components.{HasSmallComponents, IsFirstLarge}
use Rattle.siphon_enum.specs.Listed.{HasMoreMinimal}
use Rattle.program_nets.specs.declared.error.CoverageError.{CoverageError}
use Rattle.program_nets.specs.declared.error.CoverageError.TheVariants.{ComponentTooLarge, TooManySiphons, Memory}

-- a strong component is too large, and this is the first; or else there are more minimal sets than the limit
abbrev pub IsCoverageError : Net → ℕ → CoverageError → Type 0
IsCoverageError n limit (ComponentTooLarge resources) = IsFirstLarge n resources
IsCoverageError n limit (TooManySiphons told) = (told ≡ limit) × HasSmallComponents n × HasMoreMinimal n limit
IsCoverageError n limit Memory = ⊤
