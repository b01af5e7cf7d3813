-- What is within its numbers fits the table.
use Rattle.std.proofs.Common.{◌≡◌, ℕ, ◌+◌, ◌≤◌, List, [], ◌∷◌, length, map, refl, sym, ap, ◌∙◌, arith}
use Rattle.std.specs.Prelude.{sum_by, option_map, bytes_eq, pos, Bool, true, false}
use Rattle.std.specs.declared.option.Option.{Option}
use Rattle.std.proofs.lemmas.List.Sums.{sum_by-cons}
use Rattle.c_tree.specs.declared.program.Object.{Object}
use Rattle.c_tree.specs.declared.program.Program as declared_program
use Rattle.c_tree.specs.Bare as bare
use Rattle.c_tree.specs.Lined.{program_of, bare_object, bare_program}
use Rattle.c_tree.specs.Numbering as numbering
use Rattle.c_tree.specs.Numbering.{Creation, creations}
use Rattle.c_rules.specs.declared.rule.Count.{Count}
use Rattle.c_rules.specs.declared.rule.Count.TheVariants as count
use Rattle.c_rules.specs.Counts.{amount, limit}
use Rattle.c_check.specs.Tables.{object_count, starts_of, start_of, Numbered, numbered_from, resource_in, numbers_of}
use Rattle.c_check.specs.declared.numbers.Start.{Start}

mapped : (p : bare.Program) (cs : List Creation) → length (map (start_of p) cs) ≡ length cs
mapped p [] = refl
mapped p (c ∷ cs) = let h = mapped p cs in omega (arith, h)

pub started : (p : bare.Program) → length (starts_of p) ≡ numbering.thread_count p
started p = let h = mapped p (creations p) in omega (arith, h)

pub summed : (os : List Object) → sum_by object_count os ≡ sum_by numbering.object_count (map bare_object os)
summed [] = refl
summed (o ∷ os) = sum_by-cons object_count o os ∙ ap (λ n. object_count o + n) (summed os) ∙ sym (sum_by-cons numbering.object_count (bare_object o) (map bare_object os))

module _ (p : declared_program.Program) (h : (what : Count) → amount (program_of p) what ≤ limit what) where
  pub few_threads : length (starts_of (bare_program (program_of p))) ≤ 32
  few_threads = let e = started (bare_program (program_of p)) in let k = h count.Threads in omega (arith, e, k)

  pub few_mutexes : sum_by object_count p.mutexes ≤ 48
  few_mutexes = let e = summed p.mutexes in let k = h count.Mutexes in omega (arith, e, k)

  pub few_monitors : length p.monitors ≤ 16
  few_monitors = h count.Monitors

  pub numbers_eq : (n : ℕ) (starts : List Start) (mutexes : List Numbered) (m k : ℕ) → n ≡ length starts → starts ≡ starts_of (bare_program (program_of p)) → mutexes ≡ numbered_from 0 (map bare_object p.mutexes)
      → m ≡ sum_by object_count p.mutexes → k ≡ length p.monitors
      → record { thread_count = n; starts = starts; mutexes = mutexes; mutex_count = m; monitors = k } ≡ numbers_of (bare_program (program_of p))
  numbers_eq n starts mutexes m k e f g i j =
      let threads = e ∙ ap length f ∙ started (bare_program (program_of p)) in
      let total = i ∙ summed p.mutexes in
      λ t. record { thread_count = threads t; starts = f t; mutexes = g t; mutex_count = total t; monitors = j t }

-- the numbers of a table's mutexes are those of the program
numbered_by : (t : Bool) (before : ℕ) (o : bare.Object) (os : List bare.Object) (name : List ℕ) (index : Option ℕ) → bytes_eq o.name name ≡ t
    → resource_in (numbered_from (before + numbering.object_count o) os) name index ≡ numbering.numbered (before + numbering.object_count o) os name (option_map (λ k. pos k) index)
    → resource_in (numbered_from before (o ∷ os)) name index ≡ numbering.numbered before (o ∷ os) name (option_map (λ k. pos k) index)
numbered_by true before o os name index e h = rw e refl
numbered_by false before o os name index e h = rw e h

pub resources_so : (before : ℕ) (os : List bare.Object) (name : List ℕ) (index : Option ℕ) → resource_in (numbered_from before os) name index ≡ numbering.numbered before os name (option_map (λ k. pos k) index)
resources_so before [] name index = refl
resources_so before (o ∷ os) name index = numbered_by (bytes_eq o.name name) before o os name index refl (resources_so (before + numbering.object_count o) os name index)
