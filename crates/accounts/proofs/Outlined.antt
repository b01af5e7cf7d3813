-- The outlines of a well-formed program, and its net.
use Rattle.std.proofs.Common.{◌≡◌, ℕ, suc, ◌+◌, ◌-◌, ◌<◌, ◌≤◌, Bool, true, false, List, [], ◌∷◌, length, replicate, get_or, refl, ap, ◌∙◌, arith}
use Rattle.std.specs.Prelude.{if◌then◌else◌, nat_lt, slice_get, slice_index, unwrap_or, Contains}
use Rattle.std.proofs.lemmas.Bool.{lt-ltb, ltb-false}
use Rattle.std.proofs.lemmas.Option.{slice_get-get_or, get_or_from_slice_get}
use Rattle.c_rules.specs.declared.rule.Count.TheVariants as count
use Rattle.c_tree.specs.Lined.{Program, bare_program}
use Rattle.c_tree.specs.Numbering.{mutex_count, resource_count}
use Rattle.context_items.proofs.Loops.{has_first_parts}
use Rattle.context_laws.proofs.Sound.{walk_outlined}
use Rattle.context_laws.proofs.WholeOutlines.{outlines_whole}
use Rattle.held_counts.specs.Counts.{all_counts}
use Rattle.held_counts.specs.Held.{HasCounts}
use Rattle.net_laws.specs.Net.{Net}
use Rattle.outlines.specs.Outline.{Thread}
use Rattle.outlines.specs.Points.{all_rows}
use Rattle.outlines.specs.Rows.{is_sleeping, row_at, edges_from}
use Rattle.reached_states.specs.Counts.{tokens_of}
use Rattle.rule_facts.proofs.Ruled.{regular}
use Rattle.accounts.specs.Laws.{FormedAreOutlined, ProgramsHaveNets, NetsHaveResources}

pub formed_outlined : FormedAreOutlined
formed_outlined p mode es places formed shaped found =
    let kept = regular p mode formed in
    let firsts = has_first_parts p shaped in
    record { regular = kept; firsts = firsts; outlines = walk_outlined p es places kept firsts found }

-- ---- the net

abbrev count_at : List (List ℕ) → ℕ → List ℕ
count_at cs k = unwrap_or (slice_get cs k) []

counted_from : (held : ℕ → List ℕ) (cs : List (List ℕ)) (p : ℕ) → ((k : ℕ) → held (p + k) ≡ count_at cs k) → HasCounts held p cs
counted_from held [] p same = tt
counted_from held (c ∷ cs) p same =
    let here : p ≡ p + 0 = omega arith in
    (ap held here ∙ same 0, counted_from held cs (suc p) (λ k. let along : suc p + k ≡ p + suc k = omega arith in ap held along ∙ same (suc k)))

-- the net of these outlines, with these counts at its points
abbrev pub net_with : Program → List Thread → (ℕ → List ℕ) → Net
net_with p es counts = record {
  threads = length es;
  mutexes = mutex_count (bare_program p);
  resources = resource_count (bare_program p);
  points = length (all_rows 0 es 0);
  edges = edges_from 0 (all_rows 0 es 0);
  thread_of = λ i. (row_at (all_rows 0 es 0) i).thread;
  waiting = λ i. is_sleeping (row_at (all_rows 0 es 0) i).kind;
  tokens = tokens_of (bare_program p);
  held = λ i. slice_index (counts i);
}

pub programs_have : ProgramsHaveNets
programs_have p mode es places formed shaped found accepted =
    let has = formed_outlined p mode es places formed shaped found in
    let whole = outlines_whole p es places has.regular has.outlines in
    let listed = all_counts (replicate (resource_count (bare_program p)) 0) 0 es in (
      net_with p es (count_at listed),
      count_at listed,
      record {
        formed = formed;
        shaped = shaped;
        found = found;
        held = record {
          net = record { threads = refl; points = refl; edges = refl; thread_of = λ i lt. refl; waiting = λ i lt. refl };
          named = whole.0;
          whole = whole.1;
          accepted = accepted;
          counted = counted_from (count_at listed) listed 0 (λ k. let same : 0 + k ≡ k = omega arith in ap (count_at listed) same);
          held = λ i r lt. refl;
        };
        mutexes = refl;
        resources = refl;
        tokens = λ r lt. refl;
      },
    )

-- ---- its resources

-- a capacity that isn't 0
filled_at : (capacities : List ℕ) (k : ℕ) → ((c : ℕ) → Contains capacities c → 1 ≤ c) → k < length capacities → 0 < unwrap_or (slice_get capacities k) 0
filled_at capacities k filled lt =
    let there = slice_get-get_or capacities k 0 lt in
    let is : unwrap_or (slice_get capacities k) 0 ≡ get_or capacities k 0 = ap (λ o. unwrap_or o 0) there in
    let least = filled (get_or capacities k 0) (k, lt, get_or_from_slice_get capacities k (get_or capacities k 0) (get_or capacities k 0) there) in
    omega (arith, is, least)

tokens_there : (p : Program) (r : ℕ) → ((c : ℕ) → Contains p.monitors c → 1 ≤ c) → r < resource_count (bare_program p) → 0 < tokens_of (bare_program p) r
tokens_there p r filled lt = by (nat_lt r (mutex_count (bare_program p))) refl
  where
    by : (b : Bool) → nat_lt r (mutex_count (bare_program p)) ≡ b → 0 < (if b then 1 else unwrap_or (slice_get p.monitors (r - mutex_count (bare_program p))) 0)
    by true e = omega arith
    by false e = filled_at p.monitors (r - mutex_count (bare_program p)) filled (omega (arith, lt, ltb-false r (mutex_count (bare_program p)) e))

pub nets_have_resources : NetsHaveResources
nets_have_resources p mode es places n counts net =
    let within = net.resources in
    let first = net.mutexes in
    let mutexes : mutex_count (bare_program p) ≤ 48 = net.formed.within count.Mutexes in
    let monitors : length p.monitors ≤ 16 = net.formed.within count.Monitors in
    record {
      filled = λ r lt.
          let is = net.tokens r lt in
          let some = tokens_there p r (regular p mode net.formed).capacities (omega (arith, lt, within)) in
          omega (arith, is, some);
      kinds = omega (arith, first, within);
      single = λ r lt.
          let is = net.tokens r (omega (arith, lt, first, within)) in
          let one : tokens_of (bare_program p) r ≡ 1 = ap (λ b. if b then 1 else unwrap_or (slice_get p.monitors (r - mutex_count (bare_program p))) 0) (lt-ltb r (mutex_count (bare_program p)) (omega (arith, lt, first))) in
          is ∙ one;
      few = omega (arith, within, mutexes, monitors);
    }
