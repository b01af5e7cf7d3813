-- A program with takes and gives of monitors put in is an edit, and well formed.
use Rattle.std.proofs.Common.{Bool, List, [], ap, arith, false, inl, inr, length, not, refl, subst, sym, true, ℕ, ◌&&◌, ◌+◌, ◌==◌, ◌||◌, ◌∙◌, ◌∷◌, ◌≡◌}
use Rattle.std.specs.Prelude.{None, Some, bytes_eq, if◌then◌else◌, is_some, map, nat_lt}
use Rattle.std.specs.List.{enumerate_from, list_any}
use Rattle.std.specs.Option.{option_map_or}
use Rattle.std.specs.declared.option.Option.{Option}
use Rattle.c_tree.specs.declared.program.Mode.{Mode}
use Rattle.c_tree.specs.Lined.{Function, Program}
use Rattle.c_tree.specs.Numbering.{main_name}
use Rattle.c_tree.specs.declared.program.Mode.TheVariants as mode
use Rattle.c_rules.specs.declared.rule.Rule.TheVariants as rule
use Rattle.c_rules.specs.Sites.{Site, is_main, sites}
use Rattle.c_rules.specs.Threads.{no_main}
use Rattle.c_rules.specs.Formed.{Formed, KeepsRules}
use Rattle.c_rules.specs.Names.{is_function_name, is_kept, is_plain_name, original}
use Rattle.c_rules.specs.Names.{names_function as names_a_function}
use Rattle.c_rules.specs.Naming.{capacity_lines}
use Rattle.c_rules.specs.Uses.{Use, uses_of}
use Rattle.c_rules.specs.Using.{capacity_count_lines}
use Rattle.c_rules.specs.Counts.{limit}
use Rattle.c_rules.specs.Objects.{empty_capacity_lines}
use Rattle.c_rules.proofs.Members.{In, contains_of, from_map, in_map, in_of}
use Rattle.rule_facts.proofs.Main.{has_main, names_apart}
use Rattle.rule_facts.proofs.Meant.{fits_function, use_meant}
use Rattle.rule_facts.proofs.Tests.{NoLines, no_lines}
use Rattle.rule_facts.specs.Apart.{Apart, function_names}
use Rattle.rule_facts.specs.Meant.{names_function}
use Rattle.kept_rules.proofs.Kept.{kept_formed}
use Rattle.kept_rules.proofs.Like.{monitor_of}
use Rattle.kept_rules.proofs.Origin.{Origin, origin}
use Rattle.kept_rules.proofs.Relined.{allowed_there}
use Rattle.kept_rules.proofs.Same.{function_use, read_itself}
use Rattle.kept_rules.proofs.Unknown.{no_uses}
use Rattle.kept_rules.proofs.Used.{read, uses_read}
use Rattle.kept_rules.specs.Edit.{Way, puts}
use Rattle.kept_rules.specs.Programs.{Above, AreEdits, IsEditOf, IsFunctionEdit, Source}
use Rattle.kept_rules.specs.Uses.{IsPutInto, Puts, putting}

-- ---- functions side by side

pub data Pair (fs : List (ℕ × Function)) (j : ℕ) (P : Function → Type 0) : Type 0 where
  pair : (f : Function) → In (j, f) fs → P f → Pair fs j P

pair_more : (h : ℕ × Function) (fs : List (ℕ × Function)) (j : ℕ) (P : Function → Type 0) → Pair fs j P → Pair (h ∷ fs) j P
pair_more h fs j P (Pair.pair f at is) = Pair.pair f (inr at) is

source_of : (r : Way) (k : ℕ) (gs fs : List Function) → Puts r gs fs → (j : ℕ) (g : Function) → In (j, g) (enumerate_from k gs) → Pair (enumerate_from k fs) j (IsFunctionEdit r g)
source_of r k gs fs Puts.none j g at = absurd at
source_of r k gs fs (Puts.more h f hs es is puts) j g (inl e) =
    Pair.pair f (inl (ap (λ x. (x.0, f)) e)) (subst (λ x. IsFunctionEdit r x f) (ap (λ x. x.1) e) is)
source_of r k gs fs (Puts.more h f hs es is puts) j g (inr at) = pair_more (k, f) (enumerate_from (k + 1) es) j (IsFunctionEdit r g) (source_of r (k + 1) hs es puts j g at)

target_of : (limit : ℕ) (k : ℕ) (gs fs : List Function) → Puts (putting limit) gs fs → (j : ℕ) (f : Function) → In (j, f) (enumerate_from k fs) → Pair (enumerate_from k gs) j (λ g. g.name ≡ f.name)
target_of limit k gs fs Puts.none j f at = absurd at
target_of limit k gs fs (Puts.more g h hs es is puts) j f (inl e) =
    Pair.pair g (inl (ap (λ x. (x.0, g)) e)) (is.name ∙ ap (λ x. x.1.name) e)
target_of limit k gs fs (Puts.more g h hs es is puts) j f (inr at) = pair_more (k, g) (enumerate_from (k + 1) hs) j (λ g. g.name ≡ f.name) (target_of limit (k + 1) hs es puts j f at)

names_put : (limit : ℕ) (gs fs : List Function) → Puts (putting limit) gs fs → map (λ (g : Function). g.name) gs ≡ map (λ (f : Function). f.name) fs
names_put limit gs fs Puts.none = refl
names_put limit gs fs (Puts.more g f hs es is puts) = let a = is.name in let b = names_put limit hs es puts in cc (a, b)

main_put : (limit : ℕ) (gs fs : List Function) → Puts (putting limit) gs fs → list_any is_main gs ≡ list_any is_main fs
main_put limit gs fs Puts.none = refl
main_put limit gs fs (Puts.more g f hs es is puts) = ap (λ b. b || list_any is_main hs) is.main ∙ ap (λ b. is_main f || b) (main_put limit hs es puts)

edits_put : (r : Way) (q p : Program) → Puts r q.functions p.functions → AreEdits r (λ k. k) q p
edits_put r q p puts g at = by (source_of r 0 q.functions p.functions puts g.0 g.1 (in_of (enumerate_from 0 q.functions) g at))
  where
    by : Pair (enumerate_from 0 p.functions) g.0 (IsFunctionEdit r g.1) → Source r (λ k. k) p g
    by (Pair.pair f among is) = record { function = f; listed = contains_of (enumerate_from 0 p.functions) (g.0, f) among; edit = is }

-- ---- what is called

above_put : (limit : ℕ) (q p : Program) → Puts (putting limit) q.functions p.functions → (here : ℕ) (n : List ℕ) → Above p here n → Above q here n
above_put limit q p puts here n a = by (target_of limit 0 q.functions p.functions puts a.place a.function (in_of (enumerate_from 0 p.functions) (a.place, a.function) a.listed))
  where
    by : Pair (enumerate_from 0 q.functions) a.place (λ g. g.name ≡ a.function.name) → Above q here n
    by (Pair.pair g among is) = record { place = a.place; function = g; listed = contains_of (enumerate_from 0 q.functions) (a.place, g) among; above = a.above; named = is ∙ a.named }

called_put : (limit : ℕ) (q p : Program) (mode : Mode) → Puts (putting limit) q.functions p.functions → KeepsRules p mode → (x : Site) (u : Use) → In u (uses_of x.stmt) → names_function u.role ≡ true → Origin (putting limit) (λ k. k) p x → Above q x.place u.name
called_put limit q p mode puts keeps x u at is (Origin.put monitor) = absurd (subst (In u) (no_uses q x x.stmt (monitor_of (putting limit) x.stmt monitor)) at)
called_put limit q p mode puts keeps x u at is (Origin.like g f y among fe in_p like) =
    let in_y : In u (uses_of y.stmt) = subst (λ v. In v (uses_of y.stmt)) (read_itself limit u) (subst (In (read (putting limit) u)) (uses_read (putting limit) x.stmt y.stmt like.stmt) (in_map (read (putting limit)) (uses_of x.stmt) u at)) in
    let m = use_meant p (keeps rule.Unknown) (keeps rule.WrongKind) y u in_p in_y in
    let here : y.place ≡ x.place = like.place.1 ∙ sym like.place.0 in
    subst (λ k. Above q k u.name) here (above_put limit q p puts y.place u.name (function_use p y u m.thing (fits_function m.thing u.role u.indexed is m.fit) m.meant m.reached))

pub put_edit : (q p : Program) (mode : Mode) → IsPutInto q p → KeepsRules p mode → IsEditOf (putting (length q.monitors)) (λ k. k) q p
put_edit q p mode e keeps =
    let ns : function_names q ≡ function_names p = names_put (length q.monitors) q.functions p.functions e.functions in
    record {
      declared = e.declared;
      functions = edits_put (putting (length q.monitors)) q p e.functions;
      monitors = e.monitors;
      limit = omega arith;
      called = λ x u at of is. called_put (length q.monitors) q p mode e.functions keeps x u (in_of (uses_of x.stmt) u of) is (origin (putting (length q.monitors)) (λ k. k) q p x (edits_put (putting (length q.monitors)) q p e.functions) (in_of (sites q) x at));
      apart = subst Apart (sym ns) (names_apart p mode keeps);
      fresh = λ g at. inl (contains_of (function_names p) g.name (subst (In g.name) ns (in_map (λ (f : Function). f.name) q.functions g (in_of q.functions g at))));
    }

-- ---- names for any program

pub in_any : (m : Mode) (n : List ℕ) → is_function_name m n ≡ true → is_function_name mode.Any n ≡ true
in_any mode.Any n e = e
in_any mode.Source n e = go (is_kept n) (original n) e
  where
    go : (kept : Bool) (o : Option (List ℕ)) → not (kept || is_some o) ≡ true
        → (not kept && option_map_or (λ front. is_plain_name front && not (bytes_eq front main_name) && names_a_function (length n) front) o true) ≡ true
    go true o e = absurd (cc e)
    go false None e = refl
    go false (Some front) e = absurd (cc e)

-- ---- capacities

no_caps : (a b : ℕ) → a ≡ b → (a == 0) ≡ true → (nat_lt 0 b || nat_lt 0 a) ≡ false
no_caps a b e z = let first : nat_lt 0 b ≡ false = grind arith in let last : nat_lt 0 a ≡ false = grind arith in cc (first, last)

same_number : (a b : ℕ) → a ≡ b → (a == b) ≡ true
same_number a b e = grind arith

pub filled_put : (q : Program) → q.cap_len ≡ length q.monitors → list_any (λ capacity. capacity == 0) q.monitors ≡ false → NoLines (empty_capacity_lines q)
filled_put q e none = go (q.cap_len == 0) refl
  where
    go : (b : Bool) → (q.cap_len == 0) ≡ b → NoLines (if b || list_any (λ capacity. capacity == 0) q.monitors then capacity_lines q else [])
    go false z = subst (λ a. NoLines (if a then capacity_lines q else [])) (sym none) (λ line at. at)
    go true z = subst (λ a. NoLines (if a then q.cap_line ∷ [] else [])) (sym (no_caps q.cap_len (length q.monitors) e z)) (λ line at. at)

pub counted_put : (q : Program) → q.cap_len ≡ length q.monitors → NoLines (capacity_count_lines q)
counted_put q e = subst (λ a. NoLines (if a then [] else capacity_lines q)) (sym (same_number q.cap_len (length q.monitors) e)) (λ line at. at)

pub put_formed : (q p : Program) (m : Mode) → IsPutInto q p → Formed p m → Formed q mode.Any
put_formed q p m e formed =
    let keeps = formed.keeps_rules in
    let ns : function_names q ≡ function_names p = names_put (length q.monitors) q.functions p.functions e.functions in
    kept_formed (putting (length q.monitors)) (λ k. k) mode.Any q p m (put_edit q p m e keeps) (record {
      allowed = λ g at. in_any m g.name (allowed_there p m keeps g.name (from_map (λ (f : Function). f.name) p.functions g.name
          (subst (In g.name) ns (in_map (λ (f : Function). f.name) q.functions g (in_of q.functions g at)))));
      short = λ line at. in_of [] line at;
      main = main_put (length q.monitors) q.functions p.functions e.functions ∙ has_main p (no_lines (no_main p) (keeps rule.NoMain));
      monitors = λ line at. in_of [] line at;
      counted = λ line at. counted_put q e.counted line (in_of (capacity_count_lines q) line at);
      filled = λ line at. filled_put q e.counted e.filled line (in_of (empty_capacity_lines q) line at);
      few = e.few;
    }) formed
