-- A program whose functions are copied is an edit, and well formed.
use Rattle.std.proofs.Common.{List, [], ap, arith, false, inl, inr, length, subst, sym, true, ℕ, ◌<◌, ◌==◌, ◌∙◌, ◌≡◌, ◌≤◌}
use Rattle.std.specs.Prelude.{Contains}
use Rattle.std.specs.List.{enumerate_from, list_any}
use Rattle.std.proofs.lemmas.Bool.{cases_eq}
use Rattle.c_tree.specs.declared.program.Mode.{Mode}
use Rattle.c_tree.specs.Lined.{Function, Program, bare_stmt}
use Rattle.c_tree.specs.Expressions.{Expr, Place}
use Rattle.c_tree.specs.declared.program.Kind.TheVariants as kind
use Rattle.c_tree.specs.declared.program.Mode.TheVariants as mode
use Rattle.c_rules.specs.Sites.{Site, is_main, sites, sites_in}
use Rattle.c_rules.specs.Formed.{Formed}
use Rattle.c_rules.specs.Uses.{Use, is_start, uses_of}
use Rattle.c_rules.specs.Using.{capacity_count_lines}
use Rattle.c_rules.specs.Objects.{empty_capacity_lines}
use Rattle.c_rules.proofs.Members.{From, In, contains_of, from, from_flat_map, in_of}
use Rattle.rule_facts.proofs.Everything.{each_from, site_of}
use Rattle.rule_facts.proofs.Places.{in_functions, one_at}
use Rattle.rule_facts.proofs.Ruled.{regular}
use Rattle.rule_facts.proofs.Tests.{any_none}
use Rattle.rule_facts.specs.Apart.{Listed}
use Rattle.rule_facts.specs.Meant.{names_function}
use Rattle.rule_facts.specs.Regular.{Regular}
use Rattle.rule_facts.specs.Statements.{Callee, CallsAbove}
use Rattle.rule_facts.specs.Threading.{Creates, StartsWell}
use Rattle.kept_rules.proofs.Called.{in_like, read_function}
use Rattle.kept_rules.proofs.Kept.{kept_formed}
use Rattle.kept_rules.proofs.Like.{monitor_of}
use Rattle.kept_rules.proofs.Naming.{NamesFunction, names_it}
use Rattle.kept_rules.proofs.Origin.{Origin, origin}
use Rattle.kept_rules.proofs.Put.{counted_put, filled_put}
use Rattle.kept_rules.proofs.Unknown.{no_uses}
use Rattle.kept_rules.proofs.Used.{read}
use Rattle.kept_rules.specs.Edit.{Way}
use Rattle.kept_rules.specs.Programs.{Above, IsEditOf}
use Rattle.kept_rules.specs.Uses.{HasFunction, IsCopyOf, copying}

-- a function that stands above this place
pub record StrictlyAbove (p : Program) (here : ℕ) (n : List ℕ) : Type 0 where
  pub place : ℕ
  pub function : Function
  pub listed : Listed p (place, function)
  pub named : function.name ≡ n
  pub above : place < here

not_thread : (f : Function) → f.kind ≡ kind.Thread → is_start f.kind ≡ false → ⊥
not_thread f is e = let k : true ≡ false = ap is_start (sym is) ∙ e in cc k

-- what begins a thread isn't main, so it stands above the create
strict_start : (p : Program) → Regular p → ((f : Function) → Contains p.functions f → is_main f ≡ true → is_start f.kind ≡ false) → (f : ℕ × Function) → Listed p f → (slot : Place) (n : List ℕ) (arg : Expr)
    → is_main f.1 ≡ true → Creates p f.0 slot n arg → StrictlyAbove p f.0 n
strict_start p regular no_thread f at slot n arg is c = elim (cases_eq c.starts.place f.0) [
  | inr other ↦ record { place = c.starts.place; function = c.starts.function; listed = c.starts.listed; named = c.starts.named; above = less_of c.starts.place f.0 c.above other }
  | inl e ↦
      let one : c.starts.function ≡ f.1 = one_at 0 p.functions f.0 c.starts.function f.1
      (subst (λ k. In (k, c.starts.function) (enumerate_from 0 p.functions)) e (in_of (enumerate_from 0 p.functions) (c.starts.place, c.starts.function) c.starts.listed)) (in_of (enumerate_from 0 p.functions) f at) in
      absurd (not_thread c.starts.function c.starts.kind (no_thread c.starts.function
      (contains_of p.functions c.starts.function (in_functions 0 p.functions (c.starts.place, c.starts.function) (in_of (enumerate_from 0 p.functions) (c.starts.place, c.starts.function) c.starts.listed)))
      (ap is_main one ∙ is)))
]
  where
    less_of : (a b : ℕ) → a ≤ b → (a ≡ b → ⊥) → a < b
    less_of a b h n = grind arith

-- each use of a function is of one that stands above
strict_at : (p : Program) → Regular p → ((f : Function) → Contains p.functions f → is_main f ≡ true → is_start f.kind ≡ false) → (f : ℕ × Function) → Listed p f → (y : Site) → In y (sites_in f) → (u : Use)
    → In u (uses_of y.stmt) → names_function u.role ≡ true → StrictlyAbove p f.0 u.name
strict_at p regular no_thread f at y here u of is = by (names_it y.stmt u of is)
  where
    called : CallsAbove p f.0 (bare_stmt y.stmt)
    called = each_from (CallsAbove p f.0) f [] f.1.params f.1.body (regular.calls f at) y here

    started : StartsWell p f (bare_stmt y.stmt)
    started = each_from (StartsWell p f) f [] f.1.params f.1.body (regular.starts f at) y here

    by : NamesFunction y.stmt u → StrictlyAbove p f.0 u.name
    by (NamesFunction.calls_it line target args e) =
        let c : Callee p f.0 target u.name args = subst (λ s. CallsAbove p f.0 (bare_stmt s)) e called in
        record { place = c.place; function = c.function; listed = c.listed; named = c.named; above = c.above }
    by (NamesFunction.starts_it line slot arg e) =
        let c : (is_main f.1 ≡ true) × Creates p f.0 slot u.name arg = subst (λ s. StartsWell p f (bare_stmt s)) e started in
        strict_start p regular no_thread f at slot u.name arg c.0 c.1

-- the function of a site
pub data SitsIn (p : Program) (x : Site) : Type 0 where
  sits_in : (f : ℕ × Function) → In f (enumerate_from 0 p.functions) → In x (sites_in f) → x.place ≡ f.0 → SitsIn p x

sits : (p : Program) (x : Site) → In x (sites p) → SitsIn p x
sits p x at = by (from_flat_map sites_in (enumerate_from 0 p.functions) x at)
  where
    by : From sites_in (enumerate_from 0 p.functions) x → SitsIn p x
    by (from f among here) = SitsIn.sits_in f among here (site_of f [] f.1.params f.1.body x here).0

called_above : (name : List ℕ → List ℕ) (place : ℕ → ℕ) (q p : Program) → IsCopyOf name place q p → Regular p → (x : Site) → In x (sites q) → (u : Use) → In u (uses_of x.stmt) → names_function u.role ≡ true
    → HasFunction q u.name → Origin (copying name) place p x → Above q x.place u.name
called_above name place q p e regular x in_q u at is d (Origin.put monitor) = absurd (subst (In u) (no_uses q x x.stmt (monitor_of (copying name) x.stmt monitor)) at)
called_above name place q p e regular x in_q u at is d (Origin.like g f y among fe in_p like) = by (sits p y in_p) (sits q x in_q)
  where
    r : Way
    r = copying name

    in_y : In (read r u) (uses_of y.stmt)
    in_y = in_like r g (place g.0, f) x y like u at

    named_so : (read r u).name ≡ name u.name
    named_so = read_function r u is

    by : SitsIn p y → SitsIn q x → Above q x.place u.name
    by (SitsIn.sits_in h in_h y_in at_h) (SitsIn.sits_in k in_k x_in at_k) =
        let c = strict_at p regular e.no_thread h (contains_of (enumerate_from 0 p.functions) h in_h) y y_in (read r u) in_y is in
        let s = e.functions (d.place, d.function) d.listed in
        let one = (regular.names (place d.place) c.place s.function c.function s.listed c.listed (sym s.edit.name ∙ (ap name d.named ∙ (sym named_so ∙ sym c.named)))).0 in
        let below : place d.place < h.0 = subst (λ j. j < h.0) (sym one) c.above in
        let same_place : h.0 ≡ place k.0 = sym at_h ∙ (like.place.1 ∙ ap place (sym like.place.0 ∙ at_k)) in
        let less : d.place < k.0 = e.ordered (d.place, d.function) k d.listed (contains_of (enumerate_from 0 q.functions) k in_k) (subst (λ j. place d.place < j) same_place below) in
        record {
          place = d.place;
          function = d.function;
          listed = d.listed;
          above = subst (λ j. d.place ≤ j) (sym at_k) (at_most_of d.place k.0 less);
          named = d.named;
        }
      where
        at_most_of : (a b : ℕ) → a < b → a ≤ b
        at_most_of a b h = omega arith

pub copy_edit : (name : List ℕ → List ℕ) (place : ℕ → ℕ) (q p : Program) → IsCopyOf name place q p → Regular p → IsEditOf (copying name) place q p
copy_edit name place q p e regular = record {
  declared = e.declared;
  functions = e.functions;
  monitors = subst (λ ms. length p.monitors ≤ length ms) (sym e.monitors) (omega arith);
  limit = omega arith;
  called = λ x u at of is. called_above name place q p e regular x (in_of (sites q) x at) u (in_of (uses_of x.stmt) u of) is (e.called x u at of is) (origin (copying name) place q p x e.functions (in_of (sites q) x at));
  apart = e.apart;
  fresh = e.fresh;
}

not_empty : (c : ℕ) → 1 ≤ c → (c == 0) ≡ false
not_empty c h = grind arith

pub copy_formed : (name : List ℕ → List ℕ) (place : ℕ → ℕ) (q p : Program) (m : Mode) → IsCopyOf name place q p → Formed p m → Formed q mode.Any
copy_formed name place q p m e formed =
    let rules : Regular p = regular p m formed in
    let counted_so : q.cap_len ≡ length q.monitors = e.cap_len ∙ (rules.counted ∙ ap length (sym e.monitors)) in
    let filled_so : list_any (λ capacity. capacity == 0) q.monitors ≡ false =
    ap (list_any (λ capacity. capacity == 0)) e.monitors ∙ any_none (λ capacity. capacity == 0) p.monitors (λ c at. not_empty c (rules.capacities c (contains_of p.monitors c at))) in
    kept_formed (copying name) place mode.Any q p m (copy_edit name place q p e rules) (record {
      allowed = e.allowed;
      short = λ line at. in_of [] line at;
      main = e.main;
      monitors = λ line at. in_of [] line at;
      counted = λ line at. counted_put q counted_so line (in_of (capacity_count_lines q) line at);
      filled = λ line at. filled_put q counted_so filled_so line (in_of (empty_capacity_lines q) line at);
      few = subst (λ ms. length ms ≤ 16) (sym e.monitors) rules.few;
    }) formed
