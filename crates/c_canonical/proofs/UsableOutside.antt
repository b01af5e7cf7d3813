-- A name that is seen can be used outside functions, and written.
use Rattle.std.proofs.Common.{◌≡◌, ℕ, Bool, true, false, List, Some, None, subst, ◌∙◌, ap}
use Rattle.std.specs.Prelude.{if◌then◌else◌}
use Rattle.c_layout.specs.Layout.{IsName}
use Rattle.c_grammar.specs.declared.words.FixedWord.TheVariants as w
use Rattle.c_grammar.specs.Items.{What, undefined_name, spelling, is_keyword, name_of, cell_name, function_name}
use Rattle.c_canonical.specs.ShapedPrograms.{UsableCell, UsableFunction}
use Rattle.c_canonical.proofs.Seen.{Genuine}
use Rattle.c_canonical.proofs.Usable.{fixed_is, name_known}

-- The token that a name is, where nothing is defined.
seen_back : (Bounded : Type 0) (a : What) (n : List ℕ) → Genuine Bounded a → name_of a ≡ Some n → undefined_name n ≡ a
seen_back Bounded (What.Name m) n g e = let same : m ≡ n = cc in subst (λ (k : List ℕ). undefined_name k ≡ What.Name m) same g.0
seen_back Bounded (What.Fixed x) n g e = go (is_keyword x) e
  where
    go : (b : Bool) → (if b then None else Some (spelling x)) ≡ Some n → undefined_name n ≡ What.Fixed x
    go true d = absurd cc
    go false d = let same : spelling x ≡ n = cc in subst (λ (k : List ℕ). undefined_name k ≡ What.Fixed x) same (fixed_is x)
seen_back Bounded _ n g e = absurd cc

cell_as_name : (a : What) (n : List ℕ) → cell_name a ≡ Some n → name_of a ≡ Some n
cell_as_name (What.Fixed w.Capacities) n e = absurd cc
cell_as_name _ n e = e

function_as_name : (a : What) (n : List ℕ) → function_name a ≡ Some n → name_of a ≡ Some n
function_as_name (What.Fixed w.Main) n e = absurd cc
function_as_name _ n e = e

pub cell_name_known : {Bounded : Type 0} (a : What) (n : List ℕ) → Genuine Bounded a → cell_name a ≡ Some n → UsableCell n × (Bounded → IsName n)
cell_name_known a n g e = let q = cell_as_name a n e in (ap cell_name (seen_back _ a n g q) ∙ e, (name_known a n g q).1)

pub function_name_known : {Bounded : Type 0} (a : What) (n : List ℕ) → Genuine Bounded a → function_name a ≡ Some n → UsableFunction n × (Bounded → IsName n)
function_name_known a n g e = let q = function_as_name a n e in (ap function_name (seen_back _ a n g q) ∙ e, (name_known a n g q).1)
