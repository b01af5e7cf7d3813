-- Breaks under a condition, and lines of statements that pass a test.
use Rattle.std.proofs.Common.{◌≡◌, ℕ, Bool, true, false, List, inl, inr, map, refl}
use Rattle.std.specs.Prelude.{filter}
use Rattle.c_tree.specs.Lined.{Program, line_of}
use Rattle.c_rules.specs.declared.rule.Rule.{Rule}
use Rattle.c_rules.specs.Sites.{Site, sites, lines_where}
use Rattle.c_rules.proofs.Members.{In, in_map, in_filter, from_map, from_filter, Image, image}
use Rattle.c_acts.specs.declared.first.Break.{Break}
use Rattle.c_acts.specs.First.{break, break_if}

pub in_if : (c : Bool) (r : Rule) (line : ℕ) → c ≡ true → In (break r line) (break_if c r line)
in_if true r line e = inl refl
in_if false r line e = absurd (cc e)

pub from_if : (c : Bool) (r : Rule) (line : ℕ) (b : Break) → In b (break_if c r line) → (c ≡ true) × (break r line ≡ b)
from_if true r line b (inl e) = (refl, e)
from_if true r line b (inr n) = absurd n
from_if false r line b n = absurd n

-- a line where a statement stands that passes a test
pub data Stands (p : Program) (test : Site → Bool) (line : ℕ) : Type 0 where
  stands : (site : Site) → In site (sites p) → test site ≡ true → line_of site.stmt ≡ line → Stands p test line

of_image : (p : Program) (test : Site → Bool) (line : ℕ) → Image (λ (site : Site). line_of site.stmt) (filter test (sites p)) line → Stands p test line
of_image p test line (image site h e) = let k = from_filter test (sites p) site h in stands site k.0 k.1 e

pub from_where : (p : Program) (test : Site → Bool) (line : ℕ) → In line (lines_where test p) → Stands p test line
from_where p test line h = of_image p test line (from_map (λ (site : Site). line_of site.stmt) (filter test (sites p)) line h)

pub in_where : (p : Program) (test : Site → Bool) (site : Site) → In site (sites p) → test site ≡ true → In (line_of site.stmt) (lines_where test p)
in_where p test site h e = in_map (λ (s : Site). line_of s.stmt) (filter test (sites p)) site (in_filter test (sites p) site h e)

-- lines of items that pass a test
pub in_lines : {X : Type 0} (line : X → ℕ) (test : X → Bool) (xs : List X) (x : X) → In x xs → test x ≡ true → In (line x) (map line (filter test xs))
in_lines line test xs x h e = in_map line (filter test xs) x (in_filter test xs x h e)

pub data Item {X : Type 0} (line : X → ℕ) (test : X → Bool) (xs : List X) (n : ℕ) : Type 0 where
  item : (x : X) → In x xs → test x ≡ true → line x ≡ n → Item line test xs n

of_item : {X : Type 0} (line : X → ℕ) (test : X → Bool) (xs : List X) (n : ℕ) → Image line (filter test xs) n → Item line test xs n
of_item line test xs n (image x h e) = let k = from_filter test xs x h in item x k.0 k.1 e

pub from_lines : {X : Type 0} (line : X → ℕ) (test : X → Bool) (xs : List X) (n : ℕ) → In n (map line (filter test xs)) → Item line test xs n
from_lines line test xs n h = of_item line test xs n (from_map line (filter test xs) n h)
