-- What a builder takes, piece by piece.
use Rattle.std.proofs.Common.{◌≡◌, ℕ, ◌+◌, List, [], ◌∷◌, ◌++◌, map, refl, sym, ap, subst, ◌∙◌, append_assoc, append-nil}
use Rattle.c_tree.specs.Bare as bare
use Rattle.c_tree.specs.Numbering.{mutex_count}
use Rattle.context_items.specs.Marks.{Mark}
use Rattle.outline_pieces.specs.declared.builder.Builder.{Builder}
use Rattle.outline_pieces.specs.declared.pieces.Piece.{Piece}
use Rattle.outline_pieces.specs.declared.pieces.Piece.TheVariants as piece
use Rattle.outline_pieces.specs.Pieces.{wait_pieces}
use Rattle.outline_pieces.specs.Taken.{HasTaken}
use Rattle.flow_graph.specs.Shapes.{Shape}
use Rattle.flow_graph.specs.Weaving.{Woven, Entries, led_by, around, waiting, weave, next_resource, behind_next, thread_of}
use Rattle.flow_graph.specs.Walking.{left_behind, nothing_more, piece_of, Adds, AddsThreads, HasTakenMore, IsOne}
use Rattle.flow_graph.proofs.Woven.{wait_append}

-- ---- pieces

pub none_taken : (b : Builder) → HasTakenMore [] b b
none_taken b m n ps taken = subst (HasTaken m n b) (sym (append-nil ps)) taken

pub both_taken : (a b : List Piece) (x y z : Builder) → HasTakenMore a x y → HasTakenMore b y z → HasTakenMore (a ++ b) x z
both_taken a b x y z first second m n ps taken = subst (HasTaken m n z) (append_assoc ps a b) (second m n (ps ++ a) (first m n ps taken))

-- a piece, pieces, and a piece
pub between : (a : Piece) (inner : List Piece) (b : Piece) (w x y z : Builder) → HasTakenMore (a ∷ []) w x → HasTakenMore inner x y → HasTakenMore (b ∷ []) y z → HasTakenMore (a ∷ (inner ++ b ∷ [])) w z
between a inner b w x y z first second third = both_taken (a ∷ []) (inner ++ b ∷ []) w x z first (both_taken inner (b ∷ []) x y z second third)

-- pieces that stand between two
put_between : (inner : List Piece) (b : Piece) (rest : List Piece) → (inner ++ []) ++ b ∷ rest ≡ (inner ++ b ∷ []) ++ rest
put_between inner b rest = ap (λ xs. xs ++ b ∷ rest) (append-nil inner) ∙ sym (append_assoc inner (b ∷ []) rest)

-- ---- what is woven

pub adds_none : (w : Woven) (b : Builder) → Adds w w b b
adds_none w b = record { added = []; taken = none_taken b; is = refl }

pub adds_both : (u v w : Woven) (x y z : Builder) → Adds u v x y → Adds v w y z → Adds u w x z
adds_both u v w x y z first second = record {
  added = first.added ++ second.added;
  taken = both_taken first.added second.added x y z first.taken second.taken;
  is = first.is ∙ ap (λ (k : Woven). record { pieces = first.added ++ k.pieces; left = k.left }) second.is
      ∙ ap (λ ps. record { pieces = ps; left = w.left }) (sym (append_assoc first.added second.added w.pieces));
}

pub adds_one : (w rest : Woven) (x : Piece) (old new : Builder) → w ≡ led_by x rest → HasTakenMore (x ∷ []) old new → Adds w rest old new
adds_one w rest x old new is taken = record { added = x ∷ []; taken = taken; is = is }

-- ---- one shape

one_woven : (p : bare.Program) (c : Entries) (s : Shape) (more : List Shape) (ms : List Mark) → IsOne s → weave p c (s ∷ more) ms ≡ led_by (piece_of s (next_resource ms)) (weave p c more (left_behind s ms))
one_woven p c (Shape.Step line) more ms one = refl
one_woven p c (Shape.Join line) more ms one = refl
one_woven p c (Shape.Leave line) more ms one = refl
one_woven p c (Shape.Acquire line) more ms one = refl
one_woven p c (Shape.Release line) more ms one = refl
one_woven p c (Shape.Wait line takes) more ms one = absurd one
one_woven p c (Shape.Try line) more ms one = refl
one_woven p c (Shape.Branch line) more ms one = refl
one_woven p c Shape.Else more ms one = refl
one_woven p c Shape.ArmsEnd more ms one = refl
one_woven p c (Shape.Loop line) more ms one = refl
one_woven p c Shape.LoopEnd more ms one = refl
one_woven p c (Shape.Call line name) more ms one = absurd one

pub one_added : (p : bare.Program) (c : Entries) (s : Shape) (more : List Shape) (before behind : List Mark) (r : ℕ) (x : Piece) (old new : Builder) → IsOne s → piece_of s r ≡ piece_of s (next_resource before) → behind ≡ left_behind s before
    → x ≡ piece_of s r → HasTakenMore (x ∷ []) old new → Adds (weave p c (s ∷ more) before) (weave p c more behind) old new
one_added p c s more before behind r x old new one resource left is taken =
    adds_one (weave p c (s ∷ more) before) (weave p c more behind) x old new
    (one_woven p c s more before one ∙ ap (λ y. led_by y (weave p c more (left_behind s before))) (sym (is ∙ resource)) ∙ ap (λ ms. led_by x (weave p c more ms)) (sym left)) taken

-- ---- a wait

pub wait_added : (p : bare.Program) (c : Entries) (line : ℕ) (takes : List ℕ) (more : List Shape) (before behind : List Mark) (r mutexes : ℕ) (resources : List ℕ) (old new : Builder)
    → r ≡ next_resource before → behind ≡ behind_next before → mutexes ≡ mutex_count p → resources ≡ map (λ k. mutexes + k) takes → HasTakenMore (wait_pieces line r resources []) old new
    → Adds (weave p c (Shape.Wait line takes ∷ more) before) (weave p c more behind) old new
wait_added p c line takes more before behind r mutexes resources old new resource left count are taken = record {
  added = wait_pieces line r resources [];
  taken = taken;
  is = ap (λ ms. waiting p line (next_resource before) takes (weave p c more ms)) (sym left)
      ∙ ap (λ q. waiting p line q takes (weave p c more behind)) (sym resource)
      ∙ ap (λ rs. record { pieces = wait_pieces line r rs (weave p c more behind).pieces; left = (weave p c more behind).left }) (sym (are ∙ ap (λ m. map (λ k. m + k) takes) count))
      ∙ ap (λ ps. record { pieces = ps; left = (weave p c more behind).left }) (wait_append line r resources [] (weave p c more behind).pieces);
}

-- ---- a function that is entered

pub call_added : (w rest : Woven) (line : ℕ) (inner : Woven) (behind : List Mark → Woven) (left : List Mark) (a b c d : Builder) → w ≡ around line inner behind → rest ≡ behind left
    → HasTakenMore (piece.Inner line ∷ []) a b → Adds inner (nothing_more left) b c → HasTakenMore (piece.InnerEnd ∷ []) c d → Adds w rest a d
call_added w rest line inner behind left a b c d is same first entered last = record {
  added = piece.Inner line ∷ (entered.added ++ piece.InnerEnd ∷ []);
  taken = between (piece.Inner line) entered.added piece.InnerEnd a b c d first entered.taken last;
  is = is ∙ ap (λ (k : Woven). around line k behind) entered.is
      ∙ ap (λ ps. record { pieces = piece.Inner line ∷ ps; left = (behind left).left }) (put_between entered.added piece.InnerEnd (behind left).pieces)
      ∙ ap (λ (k : Woven). record { pieces = piece.Inner line ∷ ((entered.added ++ piece.InnerEnd ∷ []) ++ k.pieces); left = k.left }) (sym same);
}

-- ---- threads

pub threads_none : (ps : List Piece) (b : Builder) → AddsThreads ps ps b b
threads_none ps b = record { added = []; taken = none_taken b; is = refl }

pub threads_both : (ps qs rs : List Piece) (x y z : Builder) → AddsThreads ps qs x y → AddsThreads qs rs y z → AddsThreads ps rs x z
threads_both ps qs rs x y z first second = record {
  added = first.added ++ second.added;
  taken = both_taken first.added second.added x y z first.taken second.taken;
  is = first.is ∙ ap (λ k. first.added ++ k) second.is ∙ sym (append_assoc first.added second.added rs);
}

pub thread_added : (lines : ℕ × ℕ) (w : Woven) (behind : List Mark → List Piece) (left : List Mark) (a b c d : Builder) → HasTakenMore (piece.Begin lines.0 ∷ []) a b → Adds w (nothing_more left) b c
    → HasTakenMore (piece.Finish lines.1 ∷ []) c d → AddsThreads (thread_of lines w behind) (behind left) a d
thread_added lines w behind left a b c d first entered last = record {
  added = piece.Begin lines.0 ∷ (entered.added ++ piece.Finish lines.1 ∷ []);
  taken = between (piece.Begin lines.0) entered.added (piece.Finish lines.1) a b c d first entered.taken last;
  is = ap (λ (k : Woven). thread_of lines k behind) entered.is ∙ ap (λ ps. piece.Begin lines.0 ∷ ps) (put_between entered.added (piece.Finish lines.1) (behind left));
}
