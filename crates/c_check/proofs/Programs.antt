-- All that is noted of a program.
use Rattle.std.proofs.Common.{◌≡◌, ℕ, arith, List, [], ◌∷◌, ◌++◌, length, refl, ap, ◌∙◌, None}
use Rattle.std.specs.declared.option.Option.{Option}
use Rattle.std.specs.List.{enumerate_from}
use Rattle.c_tree.specs.declared.program.Mode.{Mode}
use Rattle.c_tree.specs.Lined.{Program, Function}
use Rattle.c_rules.specs.Declarations.{Declaration, outer}
use Rattle.c_names.specs.Tables.{Names, meant}
use Rattle.c_acts.specs.declared.first.Break.{Break}
use Rattle.c_acts.specs.First.{noted_all}
use Rattle.c_check.specs.Functions.{functions_breaks}
use Rattle.c_check.specs.Outer.{all_joined, outer_breaks, part_breaks}
use Rattle.c_check.specs.Breaks.{none_told, all_breaks}
use Rattle.c_acts.proofs.Noted.{noted_both}
use Rattle.c_check.proofs.Outers.{same_told}

no_entries : {X : Type 0} (xs : List X) → length xs ≡ 0 → xs ≡ []
no_entries [] e = refl
no_entries (x ∷ xs) e = absurd (omega arith)

pub empty_table : {S : Type 0} (names : Names S) → length names.entries ≡ 0 → meant names ≡ none_told
empty_table names e = same_told (meant names) none_told (λ name. rw (no_entries names.entries e) refl)

pub program_breaks : (p : Program) (mode : Mode) (start told : List ℕ → Option Declaration) (ds : List Declaration) (fs : List Function) (f g h : Option Break)
    → start ≡ none_told → ds ≡ outer p → fs ≡ p.functions → told ≡ all_joined start ds
    → f ≡ noted_all None (outer_breaks mode start ds) → g ≡ noted_all f (part_breaks mode p)
    → h ≡ noted_all g (functions_breaks told mode (length p.monitors) (enumerate_from 0 fs)) → h ≡ noted_all None (all_breaks p mode)
program_breaks p mode start told ds fs f g h s d e t u v w =
    noted_both None f h (outer_breaks mode none_told (outer p)) (part_breaks mode p ++ functions_breaks (all_joined none_told (outer p)) mode (length p.monitors) (enumerate_from 0 p.functions))
    (u ∙ ap (λ x. noted_all None (outer_breaks mode x ds)) s ∙ ap (λ x. noted_all None (outer_breaks mode none_told x)) d)
    (noted_both f g h (part_breaks mode p) (functions_breaks (all_joined none_told (outer p)) mode (length p.monitors) (enumerate_from 0 p.functions)) v
    (w ∙ ap (λ x. noted_all g (functions_breaks x mode (length p.monitors) (enumerate_from 0 fs))) (t ∙ ap (λ x. all_joined x ds) s ∙ ap (all_joined none_told) d)
    ∙ ap (λ x. noted_all g (functions_breaks (all_joined none_told (outer p)) mode (length p.monitors) (enumerate_from 0 x))) e))
