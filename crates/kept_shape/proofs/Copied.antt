-- The names of copies can be used as those of what they are copied from.
use Rattle.std.proofs.Common.{◌≡◌, ◌≢◌, ℕ, true, false, List, [], ◌∷◌, map, inl, inr, refl, sym, subst, ◌∙◌, ⊎_elim}
use Rattle.std.specs.Prelude.{All, Contains, bytes_eq}
use Rattle.std.specs.List.{enumerate_from}
use Rattle.std.proofs.lemmas.List.Elements.{All-head, All-tail}
use Rattle.std.proofs.lemmas.Slice.Eq.{bytes_eq-Decides}
use Rattle.c_tree.specs.declared.program.Kind.{Kind}
use Rattle.c_tree.specs.declared.program.Kind.TheVariants as k
use Rattle.c_tree.specs.Numbering.{main_name}
use Rattle.c_tree.specs.Everywhere.{Everywhere}
use Rattle.c_tree.specs.Lined.{Stmt, Function, Program, bare_stmt, bare_stmts, bare_function, bare_program}
use Rattle.c_rules.specs.Names.{is_kept}
use Rattle.c_rules.specs.Sites.{Site, sites, sites_in}
use Rattle.c_rules.specs.Uses.{Use, uses_of, of_target, of_place}
use Rattle.c_rules.specs.declared.role.Role.TheVariants.{OfThread}
use Rattle.c_rules.proofs.Members.{In, in_of, contains_of, in_append_right, in_flat_map}
use Rattle.rule_facts.specs.Apart.{Listed, function_names}
use Rattle.rule_facts.specs.Meant.{names_function}
use Rattle.rule_facts.proofs.Places.{in_functions, Placed, place_in}
use Rattle.rule_facts.proofs.Everything.{everywhere_in}
use Rattle.c_canonical.specs.ShapedPrograms.{UsableFunction, ShapedHead, ShapedFunction, ShapedProgram}
use Rattle.kept_rules.specs.Uses.{HasFunction, IsCopyOf}
use Rattle.kept_shape.specs.Edited.{UsesFit, NamesFit}
use Rattle.kept_shape.proofs.Names.{IsFree, free_usable, free_callable, free_declared, declared_free, main_free, copy_free, allowed_not_kept, reserved_ends}

-- the function of a shaped program has a free name, where that isn't kept
head_free : (kind : Kind) (n : List ℕ) (params : List (List ℕ)) → is_kept n ≡ false → ShapedHead kind n params → IsFree n
head_free k.Main n params kept h = subst IsFree (sym h.0) main_free
head_free k.Int n params kept h = declared_free n kept h.0
head_free k.Void n params kept h = declared_free n kept h.0
head_free k.Thread n (param ∷ []) kept h = declared_free n kept h.0
head_free k.Thread n _ kept h = absurd h

of_names : (fs : List Function) → All ShapedFunction (map bare_function fs) → (n : List ℕ) → is_kept n ≡ false → In n (map (λ f. f.name) fs) → IsFree n
of_names [] all n kept at = absurd at
of_names (f ∷ fs) all n kept (inl e) =
    subst IsFree e (head_free f.kind f.name f.params (subst (λ m. is_kept m ≡ false) (sym e) kept) (All-head ShapedFunction (bare_function f) (map bare_function fs) all).0)
of_names (f ∷ fs) all n kept (inr at) = of_names fs (All-tail ShapedFunction (bare_function f) (map bare_function fs) all) n kept at

module _ (name : List ℕ → List ℕ) (place : ℕ → ℕ) (q p : Program) (e : IsCopyOf name place q p) (s : ShapedProgram (bare_program p)) where
  each_free : (g : Function) → Contains q.functions g → IsFree g.name
  each_free g at =
      let kept = allowed_not_kept g.name (e.allowed g at) in
      ⊎_elim
      (λ known. of_names p.functions s.functions g.name kept (in_of (function_names p) g.name known))
      (λ reserved. copy_free g.name kept (reserved_ends g.name kept reserved))
      (e.fresh g at)

  named_free : (n : List ℕ) → HasFunction q n → IsFree n
  named_free n h = subst IsFree h.named (each_free h.function (contains_of q.functions h.function (in_functions 0 q.functions (h.place, h.function) (in_of (enumerate_from 0 q.functions) (h.place, h.function) h.listed))))

  uses_fit : (t : Stmt) → ((u : Use) → In u (uses_of t) → names_function u.role ≡ true → IsFree u.name) → UsesFit name (bare_stmt t)
  uses_fit (Stmt.Call line target function args) all = λ c. free_callable function (all _ (in_append_right (of_target target) _ _ (inl refl)) refl)
  uses_fit (Stmt.Create line slot function arg) all = λ c. free_usable function (all _ (in_append_right (of_place OfThread slot) _ _ (inl refl)) refl)
  uses_fit _ all = tt

  site_fits : (f : ℕ × Function) (x : Site) → In f (enumerate_from 0 q.functions) → In x (sites_in f) → UsesFit name (bare_stmt x.stmt)
  site_fits f x at there =
      uses_fit x.stmt (λ u among is. named_free u.name
      (e.called x u (contains_of (sites q) x (in_flat_map sites_in (enumerate_from 0 q.functions) f x at there)) (contains_of (uses_of x.stmt) u among) is))

  -- what a function's name is read as isn't `main` where the function isn't
  not_main : (g : ℕ × Function) → Listed q g → UsableFunction (name g.1.name) → g.1.name ≢ main_name
  not_main g at usable same =
      let x = e.functions g at in
      let main : bytes_eq x.function.name main_name ≡ true = sym x.edit.main ∙ (bytes_eq-Decides g.1.name main_name).1 same in
      let is = x.edit.name ∙ (bytes_eq-Decides x.function.name main_name).0 main in
      absurd (cc (subst UsableFunction is usable))

  pub copies_fit : NamesFit name q
  copies_fit = record {
    used = λ g at. by_place g (place_in 0 q.functions g (in_of q.functions g at));
    declared = λ g at usable. declared_by g (place_in 0 q.functions g (in_of q.functions g at)) (each_free g at) usable;
  }
    where
      by_place : (g : Function) → Placed (enumerate_from 0 q.functions) g → Everywhere (UsesFit name) (bare_stmts g.body)
      by_place g (Placed.placed k at) = everywhere_in (λ f. UsesFit name) q site_fits (k, g) at

      declared_by : (g : Function) → Placed (enumerate_from 0 q.functions) g → IsFree g.name → UsableFunction (name g.name) → UsableFunction g.name
      declared_by g (Placed.placed k at) free usable = free_declared g.name free (not_main (k, g) (contains_of (enumerate_from 0 q.functions) (k, g) at) usable)
