-- Parts of a room with so many members, and the next of them by their masks as numbers.
use Rattle.std.proofs.Common.{◌≡◌, ℕ, suc, ◌+◌, ◌*◌, ◌/◌, ◌%◌, ◌^◌, ◌<◌, ◌≤◌, ◌||◌, ◌⊎◌, ◌↔◌, inl, inr, sym, ap, ◌∙◌, subst, ⊎_elim, arith}
use Rattle.std.specs.Prelude.{◌==◌, IsTrue, IsFalse, bit_or}
use Rattle.std.specs.Int.RustNames.{count_ones}
use Rattle.std.proofs.lemmas.Bool.{cases_lt, cases_eq, cases_Bool, both_ways, or_cases, or_left, or_right, eqb-true, eqb-false}
use Rattle.std.proofs.lemmas.Nat.{shr_split, pow_pos, ones_cat, zero_from_ones, mul-le}
use Rattle.std.proofs.lemmas.Nat.Bits.{bit_at-lt}
use Rattle.place_sets.specs.Sets.{IsPartOf}
use Rattle.net_laws.specs.Candidates.{members}
use Rattle.gadara_net.proofs.Bits.{members-union}
use Rattle.candidates.specs.Subsets.{IsChoice, HasNoChoice, IsOneMore, IsStep}
use Rattle.candidates.proofs.Numbers.{low_below, members_low, low_part, part_low, part_le, part_count, part_whole, ones_split, ones_bit, ones_next, some_ones, or_low, member_below}

-- ---- numbers in two parts

less_above : (P S v T u : ℕ) → T < S → u < P → T * P + u < S * P + v
less_above P S v T u lt small = omega (arith, mul-le (T + 1) P S P (omega arith) (omega arith))

-- a place of the lower part added
added : (P S v T u set t cS cv cT cu size : ℕ) → S * P + v ≡ set → T * P + u ≡ t → v < P → u < P → u ≤ v
    → (cv ≤ cu → u ≡ v) → (u ≡ v → cu ≡ cv) → (T ≡ S → cT ≡ cS) → (T ≡ S + 1 → cT ≡ cS + 1)
    → cT + cu ≡ size → cS + cv < size → set ≤ t → set + P ≤ t
added P S v T u set t cS cv cT cu size set_is t_is v_lt u_lt le whole same keep up size_is fewer from =
    ⊎_elim
    (λ lt. absurd (omega (arith, less_above P S v T u lt u_lt)))
    (λ ge. ⊎_elim
    (λ gt. ⊎_elim
    (λ more. omega (arith, mul-le (S + 2) P T P (omega arith) (omega arith)))
    (λ one.
    let is : T ≡ S + 1 = omega arith in
    let c = up is in
    let e : u ≡ v = whole (omega arith) in
    let product : T * P ≡ (S + 1) * P = ap (λ x. x * P) is in
    omega arith)
    (cases_lt (S + 1) T))
    (λ up_to.
    let is : T ≡ S = omega arith in
    let c = keep is in
    let product : T * P ≡ S * P = ap (λ x. x * P) is in
    let e : u ≡ v = omega arith in
    let counts = same e in
    absurd (omega arith))
    (cases_lt S T))
    (cases_lt T S)

-- no part of the room with more members lies between a set and the set with the least place that it lacks
pub added_least : (room set q size t : ℕ) → IsTrue (members room q) → IsFalse (members set q) → ((i : ℕ) → i < q → IsTrue (members room i) → IsTrue (members set i))
    → IsChoice room size t → count_ones set < size → set ≤ t → set + 2 ^ q ≤ t
added_least room set q size t has lacks full choice fewer from =
    let low = part_low t room set q choice.part full in
    let even : set / 2 ^ q % 2 ≡ 0 = omega (arith, bit_at-lt set q, eqb-false _ _ lacks) in
    added (2 ^ q) (set / 2 ^ q) (set % 2 ^ q) (t / 2 ^ q) (t % 2 ^ q) set t
    (count_ones (set / 2 ^ q)) (count_ones (set % 2 ^ q)) (count_ones (t / 2 ^ q)) (count_ones (t % 2 ^ q)) size
    (shr_split set q) (shr_split t q) (low_below set q) (low_below t q) (part_le _ _ low)
    (part_whole q _ _ (low_below t q) (low_below set q) low) (ap count_ones) (ap count_ones)
    (λ e. ap count_ones e ∙ ones_next (set / 2 ^ q) even)
    (sym (ones_split t q) ∙ choice.count)
    (subst (λ x. x < size) (ones_split set q) fewer)
    from

raised_numbers : (P F w T u set t : ℕ) → F * P + w ≡ set → T * P + u ≡ t → u < P → u ≤ w → set < t → (F + 1) * P ≤ t
raised_numbers P F w T u set t set_is t_is u_lt le above =
    ⊎_elim
    (λ lt. absurd (omega (arith, less_above P F w T u lt u_lt)))
    (λ ge. ⊎_elim
    (λ gt. omega (arith, mul-le (F + 1) P T P (omega arith) (omega arith)))
    (λ up_to.
    let is : T ≡ F = omega arith in
    let product : T * P ≡ F * P = ap (λ x. x * P) is in
    absurd (omega arith))
    (cases_lt F T))
    (cases_lt T F)

-- no part of the room lies between a part that has all below a place and what is raised at that place
raised_least : (room set p t : ℕ) → IsPartOf (members t) (members room) → ((i : ℕ) → i < p → IsTrue (members room i) → IsTrue (members set i)) → set < t → (set / 2 ^ p + 1) * 2 ^ p ≤ t
raised_least room set p t part full above =
    raised_numbers (2 ^ p) (set / 2 ^ p) (set % 2 ^ p) (t / 2 ^ p) (t % 2 ^ p) set t (shr_split set p) (shr_split t p) (low_below t p)
    (part_le _ _ (part_low t room set p part full)) above

filled_numbers : (P S w T u set full t cS cT cu size : ℕ) → S * P ≡ set → S * P + w ≡ full → w < P → T * P + u ≡ t → u < P → cS ≡ size → cT + cu ≡ size → (T ≡ S → cT ≡ cS) → (cu ≡ 0 → u ≡ 0) → set < t → full < t
filled_numbers P S w T u set full t cS cT cu size set_is full_is w_lt t_is u_lt s_size t_size keep none above =
    ⊎_elim
    (λ lt. absurd (omega (arith, less_above P S 0 T u lt u_lt)))
    (λ ge. ⊎_elim
    (λ gt. omega (arith, less_above P T u S w gt w_lt))
    (λ up_to.
    let is : T ≡ S = omega arith in
    let c = keep is in
    let product : T * P ≡ S * P = ap (λ x. x * P) is in
    let e : u ≡ 0 = none (omega arith) in
    absurd (omega arith))
    (cases_lt S T))
    (cases_lt T S)

-- a set below its least member
none_below : (set low : ℕ) → ((i : ℕ) → i < low → IsFalse (members set i)) → set % 2 ^ low ≡ 0
none_below set low none =
    let part : IsPartOf (members (set % 2 ^ low)) (members 0) = λ i on.
    absurd (both_ways _ (none i (member_below (set % 2 ^ low) low i (low_below set low) on)) (low_part set low i on)) in
    omega (arith, part_le (set % 2 ^ low) 0 part)

-- a part of the room with as many members that is above a set is above the set with all that the room has below its least member
pub above_filled : (room set low t : ℕ) → ((i : ℕ) → i < low → IsFalse (members set i)) → IsChoice room (count_ones set) t → set < t → bit_or set (room % 2 ^ low) < t
above_filled room set low t none choice above =
    let full = bit_or set (room % 2 ^ low) in
    let nothing = none_below set low none in
    let same : full / 2 ^ low ≡ set / 2 ^ low = or_low set room low low (omega arith) in
    let whole : set / 2 ^ low * 2 ^ low ≡ set = omega (arith, shr_split set low) in
    let full_is : set / 2 ^ low * 2 ^ low + full % 2 ^ low ≡ full = subst (λ x. x * 2 ^ low + full % 2 ^ low ≡ full) same (shr_split full low) in
    let zeros : count_ones (set % 2 ^ low) ≡ 0 = ap count_ones nothing ∙ ones_bit 0 (omega arith) in
    filled_numbers (2 ^ low) (set / 2 ^ low) (full % 2 ^ low) (t / 2 ^ low) (t % 2 ^ low) set full t
    (count_ones (set / 2 ^ low)) (count_ones (t / 2 ^ low)) (count_ones (t % 2 ^ low)) (count_ones set)
    whole full_is (low_below full low) (shr_split t low) (low_below t low)
    (omega (arith, ones_split set low, zeros)) (sym (ones_split t low) ∙ choice.count)
    (ap count_ones) (zero_from_ones (t % 2 ^ low)) above

-- what the set with all that the room has below a place has
pub filled_members : (set room low i : ℕ) → IsTrue (members (bit_or set (room % 2 ^ low)) i) → IsTrue (members set i) ⊎ IsTrue (members room i)
filled_members set room low i on = ⊎_elim (λ s. inl s) (λ r. inr (low_part room low i r)) (or_cases _ _ (sym (members-union set (room % 2 ^ low) i) ∙ on))

pub filled_keeps : (set room low i : ℕ) → IsTrue (members set i) → IsTrue (members (bit_or set (room % 2 ^ low)) i)
filled_keeps set room low i on = members-union set (room % 2 ^ low) i ∙ or_left _ _ on

pub filled_has : (set room low i : ℕ) → i < low → IsTrue (members room i) → IsTrue (members (bit_or set (room % 2 ^ low)) i)
filled_has set room low i lt on = members-union set (room % 2 ^ low) i ∙ or_right _ _ (members_low room low i lt ∙ on)

-- the place that is raised lies above the least member
raised_above : (set room low p : ℕ) → IsTrue (members set low) → IsTrue (members room p) → IsFalse (members (bit_or set (room % 2 ^ low)) p) → low < p
raised_above set room low p has free lacks =
    ⊎_elim
    (λ lt. lt)
    (λ le. ⊎_elim
    (λ same. absurd (both_ways _ lacks (filled_keeps set room low p (subst (λ x. IsTrue (members set x)) (sym same) has))))
    (λ differs. absurd (both_ways _ lacks (filled_has set room low p (omega (arith, le, differs)) free)))
    (cases_eq p low))
    (cases_lt low p)

-- how many members are left once a place above the least member is raised
raised_few : (set room low p : ℕ) → IsTrue (members set low) → IsTrue (members room p) → IsFalse (members (bit_or set (room % 2 ^ low)) p)
    → count_ones ((bit_or set (room % 2 ^ low) / 2 ^ p + 1) * 2 ^ p) ≤ count_ones set
raised_few set room low p has free lacks =
    let full = bit_or set (room % 2 ^ low) in
    let lt = raised_above set room low p has free lacks in
    let same : full / 2 ^ p ≡ set / 2 ^ p = or_low set room low p (omega arith) in
    let even : full / 2 ^ p % 2 ≡ 0 = omega (arith, bit_at-lt full p, eqb-false _ _ lacks) in
    let up = ones_next (full / 2 ^ p) even in
    let counts = ap count_ones same in
    let zero_ones = ones_bit 0 (omega arith) in
    let some = some_ones (set % 2 ^ p) low (members_low set p low lt ∙ has) in
    let cat = ones_cat p (full / 2 ^ p + 1) 0 (pow_pos p) in
    let plain : (full / 2 ^ p + 1) * 2 ^ p + 0 ≡ (full / 2 ^ p + 1) * 2 ^ p = omega arith in
    let whole = ap count_ones plain in
    omega (arith, ones_split set p)

-- the raised set is the next step
pub raised_step : (set room low p next : ℕ) → IsPartOf (members set) (members room) → IsTrue (members set low) → ((i : ℕ) → i < low → IsFalse (members set i))
    → IsTrue (members room p) → IsFalse (members (bit_or set (room % 2 ^ low)) p) → ((i : ℕ) → i < p → IsTrue (members room i) → IsTrue (members (bit_or set (room % 2 ^ low)) i))
    → next ≡ (bit_or set (room % 2 ^ low) / 2 ^ p + 1) * 2 ^ p → ((r : ℕ) → IsTrue (members next r) → (p ≡ r) ⊎ IsTrue (members (bit_or set (room % 2 ^ low)) r)) → IsStep room set next
raised_step set room low p next part has none free lacks full is only = record {
  part = λ i on. ⊎_elim
      (λ here. subst (λ x. IsTrue (members room x)) here free)
      (λ old. ⊎_elim (λ s. part i s) (λ r. r) (filled_members set room low i old))
      (only i on);
  few = subst (λ x. count_ones x ≤ count_ones set) (sym is) (raised_few set room low p has free lacks);
  above =
      let whole = bit_or set (room % 2 ^ low) in
      let le : set ≤ whole = part_le set whole (λ i on. filled_keeps set room low i on) in
      omega (arith, raised_over (2 ^ p) (whole / 2 ^ p) (whole % 2 ^ p) whole (shr_split whole p) (low_below whole p));
  least = λ other choice above. subst (λ x. x ≤ other) (sym is) (raised_least room (bit_or set (room % 2 ^ low)) p other choice.part full (above_filled room set low other none choice above));
}
  where
    raised_over : (P F w whole : ℕ) → F * P + w ≡ whole → w < P → whole < (F + 1) * P
    raised_over P F w whole e lt = omega arith

-- the same of a set that is said to be the filled one
pub raised_step_of : (set room low p full next : ℕ) → full ≡ bit_or set (room % 2 ^ low) → IsPartOf (members set) (members room) → IsTrue (members set low) → ((i : ℕ) → i < low → IsFalse (members set i))
    → IsTrue (members room p) → IsFalse (members full p) → ((i : ℕ) → i < p → IsTrue (members room i) → IsTrue (members full i))
    → next ≡ (full / 2 ^ p + 1) * 2 ^ p → ((r : ℕ) → IsTrue (members next r) → (p ≡ r) ⊎ IsTrue (members full r)) → IsStep room set next
raised_step_of set room low p full next e part has none free lacks below is only =
    raised_step set room low p next part has none free
    (subst (λ x. IsFalse (members x p)) e lacks)
    (λ i lt on. subst (λ x. IsTrue (members x i)) e (below i lt on))
    (is ∙ ap (λ x. (x / 2 ^ p + 1) * 2 ^ p) e)
    (λ r on. ⊎_elim (λ here. inl here) (λ old. inr (subst (λ x. IsTrue (members x r)) e old)) (only r on))

-- the room has nothing that is neither in a set nor left over
pub nothing_left : (room set free i : ℕ) → ((r : ℕ) → IsTrue (members free r) ↔ (IsTrue (members room r) × IsFalse (members set r))) → IsFalse (members free i) → IsTrue (members room i) → IsTrue (members set i)
nothing_left room set free i are off on =
    ⊎_elim (λ yes. yes) (λ no. absurd (both_ways _ off ((are i).1 (on, no)))) (cases_Bool (members set i))

-- a set that lacks nothing of the room and has fewer members than are wanted
pub none_filled : (room set size from : ℕ) → IsPartOf (members room) (members set) → count_ones set < size → HasNoChoice room size from
none_filled room set size from all fewer t choice = absurd (omega (arith, part_count t set (λ i on. all i (choice.part i on)), choice.count))

-- where the filled set lacks nothing of the room, no part with as many members is above the set
pub no_step : (set room low : ℕ) → ((i : ℕ) → i < low → IsFalse (members set i)) → IsPartOf (members room) (members (bit_or set (room % 2 ^ low))) → HasNoChoice room (count_ones set) (suc set)
no_step set room low none all t choice =
    ⊎_elim
    (λ lt. lt)
    (λ above. absurd (omega (arith, above_filled room set low t none choice above, part_le t (bit_or set (room % 2 ^ low)) (λ i on. all i (choice.part i on)))))
    (cases_lt t (suc set))

-- the empty set is followed by no other one without members
pub no_step_empty : (set room : ℕ) → set ≡ 0 → HasNoChoice room (count_ones set) (suc set)
no_step_empty set room is t choice = omega (arith, zero_from_ones t (choice.count ∙ ap count_ones is ∙ ones_bit 0 (omega arith)))

-- the set with the least place that it lacks
pub one_more : (room set q more : ℕ) → IsPartOf (members set) (members room) → IsTrue (members room q) → IsFalse (members set q)
    → ((i : ℕ) → i < q → IsTrue (members room i) → IsTrue (members set i)) → more ≡ set + 2 ^ q → ((r : ℕ) → members more r ≡ (members set r || q == r)) → IsOneMore room set more
one_more room set q more part has lacks full is are = record {
  part = λ i on. ⊎_elim
      (λ s. part i s)
      (λ same. subst (λ x. IsTrue (members room x)) (eqb-true q i same) has)
      (or_cases _ _ (sym (are i) ∙ on));
  size = subst (λ x. count_ones x ≡ count_ones set + 1) (sym is) counted;
  above = omega (arith, is, pow_pos q);
  least = λ size other choice fewer from. subst (λ x. x ≤ other) (sym is) (added_least room set q size other has lacks full choice fewer from);
}
  where
    even : set / 2 ^ q % 2 ≡ 0
    even = omega (arith, bit_at-lt set q, eqb-false _ _ lacks)

    split : (P S v x : ℕ) → S * P + v ≡ x → (S + 1) * P + v ≡ x + P
    split P S v x e = omega arith

    counted : count_ones (set + 2 ^ q) ≡ count_ones set + 1
    counted =
        let cat = ones_cat q (set / 2 ^ q + 1) (set % 2 ^ q) (low_below set q) in
        let whole = ap count_ones (split (2 ^ q) (set / 2 ^ q) (set % 2 ^ q) set (shr_split set q)) in
        omega (arith, ones_next (set / 2 ^ q) even, ones_split set q)
