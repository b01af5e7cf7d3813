-- Lengths, capacities and monitors are in range in an edited program.
use Rattle.std.proofs.Common.{Bool, List, arith, cond, false, length, refl, true, ℕ, ◌++◌, ◌<◌, ◌==◌, ◌||◌, ◌∙◌, ◌≡◌, ◌≤◌}
use Rattle.std.specs.Prelude.{Contains, IsTrue, nat_le, nat_lt, unwrap_or}
use Rattle.std.specs.List.{list_any}
use Rattle.c_tree.specs.declared.program.Mode.{Mode}
use Rattle.c_tree.specs.Bare as bare
use Rattle.c_tree.specs.Lined.{Give, Program, Stmt, Take, Wait, bare_array, bare_object, bare_slot}
use Rattle.c_tree.specs.declared.program.Array as declared_array
use Rattle.c_tree.specs.declared.program.Object.{Object}
use Rattle.c_tree.specs.declared.program.Slot.{Slot}
use Rattle.c_rules.specs.declared.rule.Rule.TheVariants as rule
use Rattle.c_rules.specs.Sites.{Site, lines_where}
use Rattle.c_rules.specs.Formed.{KeepsRules}
use Rattle.c_rules.specs.Counts.{limit}
use Rattle.c_rules.specs.Objects.{empty_capacity_lines, has_no_member, has_no_object, has_no_slot, is_beyond, out_of_range}
use Rattle.c_rules.proofs.Members.{contains_of, in_of}
use Rattle.rule_facts.proofs.Ranges.{beyond_free, member_lines, object_lines, slot_lines}
use Rattle.rule_facts.proofs.Tests.{both, first_part, last_part, no_lines, none_listed, same_lines}
use Rattle.kept_rules.proofs.Lines.{by_lines, put_on}
use Rattle.kept_rules.proofs.Numbers.{objects_same}
use Rattle.kept_rules.proofs.Origin.{Origin, origin}
use Rattle.kept_rules.specs.Edit.{EditOf, PutTakes, Way, is_simple, puts}
use Rattle.kept_rules.specs.Programs.{IsEditOf, KeepsOwn}

within_more : (a b k : ℕ) → a ≤ b → nat_le a k ≡ false → nat_le b k ≡ false
within_more a b k h e = grind arith

within_limit : (limit len k : ℕ) → limit ≤ len → nat_lt k limit ≡ true → nat_le len k ≡ false
within_limit limit len k h e = grind arith

less_of : (a b : ℕ) → a < b → nat_lt a b ≡ true
less_of a b h = grind arith

or_false : (a b : Bool) → (a || b) ≡ false → (a ≡ false) × (b ≡ false)
or_false true b e = absurd (cc e)
or_false false b e = (refl, e)

both_false : (a b : Bool) → a ≡ false → b ≡ false → (a || b) ≡ false
both_false true b e h = absurd (cc e)
both_false false b e h = h

-- takes of a wait are of monitors that are there
takes_within : (limit few many : ℕ) (xs ys : List ℕ) → few ≤ many → limit ≤ many → PutTakes limit xs ys → list_any (nat_le few) ys ≡ false → list_any (nat_le many) xs ≡ false
takes_within limit few many xs ys h l PutTakes.none e = refl
takes_within limit few many xs ys h l (PutTakes.put k us vs less more) e =
    both_false (nat_le many k) (list_any (nat_le many) us) (within_limit limit many k l (less_of k limit less)) (takes_within limit few many us vs h l more e)
takes_within limit few many xs ys h l (PutTakes.keep k us vs more) e =
    let two = or_false (nat_le few k) (list_any (nat_le few) vs) e in
    both_false (nat_le many k) (list_any (nat_le many) us) (within_more few many k h two.0) (takes_within limit few many us vs h l more two.1)

put_within : (r : Way) (q : Program) (s : Stmt) → r.limit ≤ length q.monitors → IsTrue (puts r s) → is_beyond q s ≡ false
put_within r q (Take line monitor) h is = within_limit r.limit (length q.monitors) monitor h is
put_within r q (Give line monitor) h is = within_limit r.limit (length q.monitors) monitor h is
put_within r q s h is = absurd (cc is)

beyond_on : (q : Program) (l m : ℕ) (b : bare.Stmt) → is_beyond q (put_on l b) ≡ is_beyond q (put_on m b)
beyond_on q l m (bare.Declare name value) = refl
beyond_on q l m b = refl

beyond_more : (q p : Program) (s : Stmt) → IsTrue (is_simple s) → length p.monitors ≤ length q.monitors → is_beyond p s ≡ false → is_beyond q s ≡ false
beyond_more q p (Take line monitor) is h e = within_more (length p.monitors) (length q.monitors) monitor h e
beyond_more q p (Give line monitor) is h e = within_more (length p.monitors) (length q.monitors) monitor h e
beyond_more q p (Wait line cond mutex takes) is h e = absurd (cc is)
beyond_more q p s is h e = refl

like_within : (r : Way) (q p : Program) (s t : Stmt) → length p.monitors ≤ length q.monitors → r.limit ≤ length q.monitors → EditOf r s t → is_beyond p t ≡ false → is_beyond q s ≡ false
like_within r q p s t h l (EditOf.same u v a b e) k = by_lines (is_beyond q) (beyond_on q) s t a b e ∙ beyond_more q p t b h k
like_within r q p s t h l (EditOf.wait k m cond mutex takes others x) e = takes_within r.limit (length p.monitors) (length q.monitors) takes others h l x e
like_within r q p s t h l e k = refl

pub kept_ranges : (r : Way) (place : ℕ → ℕ) (n : Mode) (q p : Program) (mode : Mode) → IsEditOf r place q p → KeepsOwn n q → KeepsRules p mode
    → (line : ℕ) → Contains (out_of_range q) line → ⊥
kept_ranges r place n q p mode e own keeps line at =
    let sites_q = lines_where (λ site. is_beyond q site.stmt) q in
    let sites_p = lines_where (λ site. is_beyond p site.stmt) p in
    let four = first_part (member_lines p ++ object_lines p ++ slot_lines p ++ empty_capacity_lines p) sites_p (no_lines (out_of_range p) (keeps rule.IndexRange)) in
    let three = first_part (member_lines p ++ object_lines p ++ slot_lines p) (empty_capacity_lines p) four in
    let two = first_part (member_lines p ++ object_lines p) (slot_lines p) three in
    both (member_lines q ++ object_lines q ++ slot_lines q ++ empty_capacity_lines q) sites_q
    (both (member_lines q ++ object_lines q ++ slot_lines q) (empty_capacity_lines q)
    (both (member_lines q ++ object_lines q) (slot_lines q)
    (both (member_lines q) (object_lines q)
    (same_lines (λ (a : declared_array.Array). a.line) has_no_member bare_array (λ (a : bare.Array). a.len == 0) (λ a. refl) q.arrays p.arrays e.declared.arrays
    (first_part (member_lines p) (object_lines p) two))
    (same_lines (λ (o : Object). o.line) has_no_object bare_object (λ (o : bare.Object). unwrap_or o.len 1 == 0) (λ o. refl) (q.mutexes ++ q.conds) (p.mutexes ++ p.conds) (objects_same r place q p e)
    (last_part (member_lines p) (object_lines p) two)))
    (same_lines (λ (t : Slot). t.line) has_no_slot bare_slot (λ (t : bare.Slot). unwrap_or t.len 1 == 0) (λ t. refl) q.threads p.threads e.declared.threads
    (last_part (member_lines p ++ object_lines p) (slot_lines p) three)))
    (no_lines (empty_capacity_lines q) own.filled))
    (λ l h. none_listed (λ site. is_beyond q site.stmt) q (λ x among. beyond_at x (origin r place q p x e.functions among)) l (contains_of sites_q l h))
    line (in_of (out_of_range q) line at)
  where
    beyond_at : (x : Site) → Origin r place p x → is_beyond q x.stmt ≡ false
    beyond_at x (Origin.put is) = put_within r q x.stmt e.limit is
    beyond_at x (Origin.like g f y among fe in_p like) = like_within r q p x.stmt y.stmt e.monitors e.limit like.stmt (beyond_free p mode keeps y in_p)
