-- Names that slices hold.
use Rattle.std.specs.Prelude.{ℕ, List, map}
use denote.Ref.{Bor}

abbrev pub texts : List (Bor (List ℕ)) → List (List ℕ)
texts names = map (λ name. name.now) names
