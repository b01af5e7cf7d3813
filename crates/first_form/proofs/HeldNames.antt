-- The names that are held, along a body.
use Rattle.std.proofs.Common.{◌≡◌, ℕ, ◌+◌, ◌<◌, ◌≤◌, Bool, true, false, not, ◌&&◌, ◌||◌, List, [], ◌∷◌, ◌++◌, length, get_or, take, drop, map, filter, reverse, if◌then◌else◌, Some, refl, sym, ap, ◌∙◌, bytes_eq}
use Rattle.std.specs.declared.option.Option.{Option}
use Rattle.std.specs.List.{list_any}
use Rattle.std.proofs.Math.Bool.{or_comm}
use Rattle.std.proofs.lemmas.List.{map_more, map-append, reverse-append, at_drop_more, at_drop_all}
use Rattle.std.proofs.lemmas.Map.Views.{any-filter_same}
use Rattle.c_tree.specs.declared.stmt.Stmt as declared
use Rattle.c_tree.specs.Bare.{Stmt, Program}
use Rattle.c_tree.specs.Lined.{stmt_of, stmts_of, line_of}
use Rattle.c_rules.specs.Names.{mentions}
use Rattle.first_form.specs.FirstForm.{mutexes_of, holds, holds_some, releases_held, is_balanced, is_lock, nested_line}
use Rattle.first_form.specs.Shown.{shown_stmt, shown_body}
use Rattle.first_form.specs.Sets.{texts}
use Rattle.first_form.specs.Locks.{AreHeld, above}
use Rattle.first_form.proofs.Sets.{same_bytes, symmetric, mentions_push}
use Rattle.first_form.proofs.Lists.{mentions_of}
use denote.Ref.{Bor}

-- one more name
pub taken : (names more : List (Bor (List ℕ))) (k : Bor (List ℕ)) → more ≡ names ++ k ∷ []
    → (q : List ℕ) → mentions (texts more) q ≡ (bytes_eq k.now q || mentions (texts names) q)
taken names more k e q =
    ap (λ xs. mentions (texts xs) q) e ∙ ap (λ xs. mentions xs q) (map-append (λ (r : Bor (List ℕ)). r.now) names (k ∷ []))
    ∙ mentions_push (texts names) k.now q ∙ or_comm (mentions (texts names) q) (bytes_eq q k.now) ∙ ap (λ b. b || mentions (texts names) q) (symmetric q k.now)

-- all but one name
pub released : (names left : List (Bor (List ℕ))) (name : List ℕ) → left ≡ filter (λ k. not (bytes_eq k.now name)) names
    → (q : List ℕ) → mentions (texts left) q ≡ (not (bytes_eq name q) && mentions (texts names) q)
released names left name e q =
    ap (λ xs. mentions (texts xs) q) e
    ∙ mentions_of (λ (k : Bor (List ℕ)). k.now) (filter (λ k. not (bytes_eq k.now name)) names) q
    ∙ any-filter_same (λ (k : Bor (List ℕ)). bytes_eq q k.now) (λ k. not (bytes_eq k.now name)) (not (bytes_eq name q))
    (λ k t. ap not (ap (λ x. bytes_eq x name) (sym (same_bytes q k.now t)) ∙ symmetric q name)) names
    ∙ ap (λ b. not (bytes_eq name q) && b) (sym (mentions_of (λ (k : Bor (List ℕ)). k.now) names q))

either : {A : Type 0} (f g : A → Bool) (xs : List A) → list_any (λ x. f x || g x) xs ≡ (list_any f xs || list_any g xs)
either f g [] = refl
either f g (x ∷ xs) = ap (λ b. (f x || g x) || b) (either f g xs) ∙ regroup (f x) (g x) (list_any f xs) (list_any g xs)
  where
    regroup : (a b c d : Bool) → ((a || b) || (c || d)) ≡ ((a || c) || (b || d))
    regroup true b c d = refl
    regroup false true true d = refl
    regroup false true false d = refl
    regroup false false c d = refl

none : {A : Type 0} (xs : List A) → list_any (λ x. false) xs ≡ false
none [] = refl
none (x ∷ xs) = none xs

-- two lists have a name in common, looked for from either side
common : (xs ys : List (List ℕ)) → list_any (mentions xs) ys ≡ list_any (mentions ys) xs
common xs [] = sym (none xs)
common xs (y ∷ ys) =
    ap (λ b. mentions xs y || b) (common xs ys)
    ∙ sym (either (λ x. bytes_eq x y) (mentions ys) xs ∙ ap (λ (f : List ℕ → Bool). list_any f xs || list_any (mentions ys) xs) (λ i x. symmetric x y i))

-- whether some mutex is held
pub some_held : (p : Program) (names : List (List ℕ)) (ss : List Stmt) → AreHeld names ss → list_any (mentions (mutexes_of p)) names ≡ holds_some p ss
some_held p names ss held = common (mutexes_of p) names ∙ ap (λ (f : List ℕ → Bool). list_any f (mutexes_of p)) (λ i name. held name i)

module _ (body : List declared.Stmt) (index : ℕ) (s : declared.Stmt) (l : index < length body) (is : s ≡ get_or body index s) where
  above_more : above body (index + 1) ≡ shown_stmt s ∷ above body index
  above_more =
      ap reverse (map_more shown_stmt body index s l ∙ ap (λ x. map shown_stmt (take index body) ++ shown_stmt x ∷ []) (sym is))
      ∙ reverse-append (map shown_stmt (take index body)) (shown_stmt s ∷ [])

  here : {Y : Type 0} (F : List declared.Stmt → Y) → F (drop index body) ≡ F (s ∷ drop (index + 1) body)
  here F = at_drop_more F body index s l ∙ ap (λ x. F (x ∷ drop (index + 1) body)) (sym is)

  pub balanced_step : (p : Program) (names : List (List ℕ)) (whole : Bool) → true ≡ releases_held (above body index) (shown_stmt s)
      → AreHeld names (shown_stmt s ∷ above body index) → is_balanced p (above body index) (shown_body (drop index body)) ≡ whole
      → AreHeld names (above body (index + 1)) × (is_balanced p (above body (index + 1)) (shown_body (drop (index + 1) body)) ≡ whole)
  balanced_step p names whole allowed held e = (
    (λ q. held q ∙ ap (λ ss. holds ss q) (sym above_more)),
    ap (λ ss. is_balanced p ss (shown_body (drop (index + 1) body))) above_more
        ∙ ap (λ b. b && is_balanced p (shown_stmt s ∷ above body index) (shown_body (drop (index + 1) body))) allowed
        ∙ sym (here (λ ss. is_balanced p (above body index) (shown_body ss))) ∙ e,
  )

  pub balanced_stops : (p : Program) (whole : Bool) → false ≡ releases_held (above body index) (shown_stmt s)
      → is_balanced p (above body index) (shown_body (drop index body)) ≡ whole → false ≡ whole
  balanced_stops p whole refused e =
      ap (λ b. b && is_balanced p (shown_stmt s ∷ above body index) (shown_body (drop (index + 1) body))) refused
      ∙ sym (here (λ ss. is_balanced p (above body index) (shown_body ss))) ∙ e

  nested_here : (p : Program) (b : Bool) → b ≡ (is_lock (shown_stmt s) && holds_some p (above body index))
      → nested_line p (above body index) (stmts_of (drop index body)) ≡ (if b then Some (line_of (stmt_of s)) else nested_line p (shown_stmt s ∷ above body index) (stmts_of (drop (index + 1) body)))
  nested_here p b e = here (λ ss. nested_line p (above body index) (stmts_of ss))
      ∙ ap (λ t. if t then Some (line_of (stmt_of s)) else nested_line p (shown_stmt s ∷ above body index) (stmts_of (drop (index + 1) body))) (sym e)

  pub nested_step : (p : Program) (names : List (List ℕ)) (whole : Option ℕ) → false ≡ (is_lock (shown_stmt s) && holds_some p (above body index))
      → AreHeld names (shown_stmt s ∷ above body index) → nested_line p (above body index) (stmts_of (drop index body)) ≡ whole
      → AreHeld names (above body (index + 1)) × (nested_line p (above body (index + 1)) (stmts_of (drop (index + 1) body)) ≡ whole)
  nested_step p names whole b held e = (
    (λ q. held q ∙ ap (λ ss. holds ss q) (sym above_more)),
    ap (λ ss. nested_line p ss (stmts_of (drop (index + 1) body))) above_more ∙ sym (nested_here p false b) ∙ e,
  )

  pub nested_found : (p : Program) (whole : Option ℕ) → true ≡ (is_lock (shown_stmt s) && holds_some p (above body index))
      → nested_line p (above body index) (stmts_of (drop index body)) ≡ whole → Some (line_of (stmt_of s)) ≡ whole
  nested_found p whole b e = sym (nested_here p true b) ∙ e

pub balanced_end : (p : Program) (body : List declared.Stmt) (index : ℕ) (whole : Bool) → length body ≤ index
    → is_balanced p (above body index) (shown_body (drop index body)) ≡ whole → not (holds_some p (above body index)) ≡ whole
balanced_end p body index whole l e = sym (at_drop_all (λ ss. is_balanced p (above body index) (shown_body ss)) body index l) ∙ e
