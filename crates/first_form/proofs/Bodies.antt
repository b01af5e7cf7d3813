-- Bodies whose last statement is of one sort and whose others are of another.
use Rattle.std.proofs.Common.{◌≡◌, Bool, true, false, ◌&&◌, List, [], ◌∷◌, ◌++◌, refl, sym, ap, ◌∙◌, Some, None}
use Rattle.std.specs.List.{list_all}
use Rattle.std.proofs.Math.Bool.{and-true, and-false}
use Rattle.c_tree.specs.declared.stmt.Stmt as declared
use Rattle.c_tree.specs.Bare.{Stmt, Stmts, Nil, Cons, Program, Return, Join}
use Rattle.first_form.specs.FirstForm.{is_slot, is_joining, is_first_act, is_thread_body}
use Rattle.first_form.specs.Shown.{shown_stmt, shown_body}
use Rattle.first_form.specs.Bodies.{returns_null, returns_nothing, is_join}

regroup : (a r b : Bool) → (a && (r && b)) ≡ (r && (a && b))
regroup true r b = refl
regroup false true b = refl
regroup false false b = refl

module _ (F : Stmts → Bool) (ends each : Stmt → Bool)
    (single : (s : Stmt) → F (Cons s Nil) ≡ ends s) (more : (s t : Stmt) (rest : Stmts) → F (Cons s (Cons t rest)) ≡ (each s && F (Cons t rest))) where
  -- a test of a body is one of its last statement and one of each other
  pub split_body : (ss : List declared.Stmt) (last : declared.Stmt)
      → F (shown_body (ss ++ last ∷ [])) ≡ (ends (shown_stmt last) && list_all (λ s. each (shown_stmt s)) ss)
  split_body [] last = single (shown_stmt last) ∙ sym (and-true (ends (shown_stmt last)))
  split_body (s ∷ []) last =
      more (shown_stmt s) (shown_stmt last) Nil ∙ ap (λ b. each (shown_stmt s) && b) (split_body [] last)
      ∙ regroup (each (shown_stmt s)) (ends (shown_stmt last)) true
  split_body (s ∷ t ∷ ss) last =
      more (shown_stmt s) (shown_stmt t) (shown_body (ss ++ last ∷ [])) ∙ ap (λ b. each (shown_stmt s) && b) (split_body (t ∷ ss) last)
      ∙ regroup (each (shown_stmt s)) (ends (shown_stmt last)) (list_all (λ s. each (shown_stmt s)) (t ∷ ss))

joining_single : (p : Program) (s : Stmt) → is_joining p (Cons s Nil) ≡ returns_null s
joining_single p (Return (Some e)) = refl
joining_single p (Return None) = refl
joining_single p (Join slot) = and-false (is_slot p slot)
joining_single p s = refl

joining_more : (p : Program) (s t : Stmt) (rest : Stmts) → is_joining p (Cons s (Cons t rest)) ≡ (is_join p s && is_joining p (Cons t rest))
joining_more p (Join slot) t rest = refl
joining_more p (Return (Some e)) t rest = refl
joining_more p (Return None) t rest = refl
joining_more p s t rest = refl

pub joining_split : (p : Program) (ss : List declared.Stmt) (last : declared.Stmt)
    → is_joining p (shown_body (ss ++ last ∷ [])) ≡ (returns_null (shown_stmt last) && list_all (λ s. is_join p (shown_stmt s)) ss)
joining_split p ss last = split_body (is_joining p) returns_null (is_join p) (joining_single p) (joining_more p) ss last

thread_single : (p : Program) (s : Stmt) → is_thread_body p (Cons s Nil) ≡ returns_nothing s
thread_single p (Return None) = refl
thread_single p (Return (Some e)) = refl
thread_single p s = and-false (is_first_act p s)

thread_more : (p : Program) (s t : Stmt) (rest : Stmts) → is_thread_body p (Cons s (Cons t rest)) ≡ (is_first_act p s && is_thread_body p (Cons t rest))
thread_more p (Return None) t rest = refl
thread_more p (Return (Some e)) t rest = refl
thread_more p s t rest = refl

pub thread_split : (p : Program) (ss : List declared.Stmt) (last : declared.Stmt)
    → is_thread_body p (shown_body (ss ++ last ∷ [])) ≡ (returns_nothing (shown_stmt last) && list_all (λ s. is_first_act p (shown_stmt s)) ss)
thread_split p ss last = split_body (is_thread_body p) returns_nothing (is_first_act p) (thread_single p) (thread_more p) ss last

-- both parts of such a test, as the code asks for them
module _ {A : Type 0} (F : List A → Bool) (body rest : List A) (last : A) (ends each : Bool) (splits : F (rest ++ last ∷ []) ≡ (ends && each)) (is : body ≡ rest ++ last ∷ []) where
  pub when_ends : (all end : Bool) → end ≡ true → end ≡ ends → all ≡ each → all ≡ F body
  when_ends all end e f g = g ∙ sym (ap F is ∙ splits ∙ ap (λ b. b && each) (sym f ∙ e))

  pub unless_ends : (end : Bool) → end ≡ false → end ≡ ends → end ≡ F body
  unless_ends end e f = e ∙ sym (ap F is ∙ splits ∙ ap (λ b. b && each) (sym f ∙ e))

  pub when_each : (all : Bool) → all ≡ true → all ≡ each → ends ≡ F body
  when_each all e f = sym (ap F is ∙ splits ∙ ap (λ b. ends && b) (sym f ∙ e) ∙ and-true ends)

  pub unless_each : (all : Bool) → all ≡ false → all ≡ each → false ≡ F body
  unless_each all e f = sym (ap F is ∙ splits ∙ ap (λ b. ends && b) (sym f ∙ e) ∙ and-false ends)
