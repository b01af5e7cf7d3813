-- A walk over places, one after the other.
use Rattle.std.proofs.Common.{◌≡◌, ℕ, ◌+◌, ◌<◌, ◌≤◌, List, [], ◌∷◌, ◌++◌, length, drop, get_or, refl, sym, ap, subst, ◌∙◌, Option, None, Some, append_assoc, append-nil}
use Rattle.std.proofs.lemmas.List.{drop_more, drop_all}
use Rattle.held_counts.specs.Refusals.{Refusal}
use Rattle.outline_pieces.specs.declared.pieces.Piece.TheVariants.{Begin}
use Rattle.outline_pieces.specs.Places.{place}
use Rattle.edges.specs.declared.Point.{Point}
use Rattle.outline_pieces.specs.declared.pieces.Place.{Place}
use Rattle.outline_pieces.specs.declared.walk.Walk.{Walk}
use Rattle.outline_pieces.specs.declared.error.FlowError.{FlowError}
use Rattle.outline_pieces.specs.declared.error.FlowError.TheVariants as error
use Rattle.outline_pieces.specs.Walks.{Outcome, Refused, Held, refused_or, mapped, with_point, point_of, refused_at, step, walked}
use Rattle.outline_pieces.specs.Errors.{Tells, refusal_of}

pub mapped_same : (o : Outcome) → o ≡ mapped (λ l. [] ++ l) o
mapped_same (Refused r) = refl
mapped_same (Held ps) = refl

with_more : (xs : List Point) (x : Option Point) (o : Outcome) →
    mapped (λ l. xs ++ l) (mapped (with_point x) o) ≡ mapped (λ l. (xs ++ with_point x []) ++ l) o
with_more xs x (Refused r) = refl
with_more xs None (Held ps) = ap (λ z. Held (z ++ ps)) (sym (append-nil xs))
with_more xs (Some x) (Held ps) = ap Held (sym (append_assoc xs (x ∷ []) ps))

-- where a place isn't refused, the walk goes on behind it
pub go_on : (m : ℕ) (nothing : List ℕ) (w : Walk) (p : Place) (ps : List Place) (xs : List Point) →
    refused_at m nothing w p.piece ≡ None →
    mapped (λ l. xs ++ l) (walked m nothing w (p ∷ ps))
    ≡ mapped (λ l. (xs ++ with_point (point_of nothing w p.thread p.piece) []) ++ l) (walked m nothing (step nothing w p.piece) ps)
go_on m nothing w p ps xs free =
    let next = walked m nothing (step nothing w p.piece) ps in
    let x = point_of nothing w p.thread p.piece in
    ap (λ r. mapped (λ l. xs ++ l) (refused_or r (mapped (with_point x) next))) free ∙ with_more xs x next

refused : (r : Option Refusal) (o : Outcome) (xs : List Point) (e : FlowError) → Tells e r → Tells e (refusal_of (mapped (λ l. xs ++ l) (refused_or r o)))
refused r o xs error.TooManyPoints t = t
refused None o xs (error.Held kind line) t = absurd (cc t)
refused (Some r) o xs (error.Held kind line) t = t
refused r o xs error.Memory t = tt

-- where a place is refused, the walk is refused
pub stop : (m : ℕ) (nothing : List ℕ) (w : Walk) (p : Place) (ps : List Place) (xs : List Point) (e : FlowError) →
    Tells e (refused_at m nothing w p.piece) → Tells e (refusal_of (mapped (λ l. xs ++ l) (walked m nothing w (p ∷ ps))))
stop m nothing w p ps xs e t =
    refused (refused_at m nothing w p.piece) (mapped (with_point (point_of nothing w p.thread p.piece)) (walked m nothing (step nothing w p.piece) ps)) xs e t

abbrev nowhere : Place
nowhere = place 0 0 (Begin 0)

-- the same for the place with this number, of all places
pub go_on_at : (m : ℕ) (nothing : List ℕ) (whole : Outcome) (w v : Walk) (ps : List Place) (i : ℕ) (xs ys : List Point) →
    i < length ps → whole ≡ mapped (λ l. xs ++ l) (walked m nothing w (drop i ps)) → refused_at m nothing w (get_or ps i nowhere).piece ≡ None →
    v ≡ step nothing w (get_or ps i nowhere).piece →
    ys ≡ xs ++ with_point (point_of nothing w (get_or ps i nowhere).thread (get_or ps i nowhere).piece) [] →
    whole ≡ mapped (λ l. ys ++ l) (walked m nothing v (drop (i + 1) ps))
go_on_at m nothing whole w v ps i xs ys lt so free steps points =
    so
    ∙ ap (λ z. mapped (λ l. xs ++ l) (walked m nothing w z)) (drop_more ps i nowhere lt)
    ∙ go_on m nothing w (get_or ps i nowhere) (drop (i + 1) ps) xs free
    ∙ ap (λ z. mapped (λ l. z ++ l) (walked m nothing (step nothing w (get_or ps i nowhere).piece) (drop (i + 1) ps))) (sym points)
    ∙ ap (λ z. mapped (λ l. ys ++ l) (walked m nothing z (drop (i + 1) ps))) (sym steps)

pub stop_at : (m : ℕ) (nothing : List ℕ) (whole : Outcome) (w : Walk) (ps : List Place) (i : ℕ) (xs : List Point) (e : FlowError) →
    i < length ps → whole ≡ mapped (λ l. xs ++ l) (walked m nothing w (drop i ps)) → Tells e (refused_at m nothing w (get_or ps i nowhere).piece) →
    Tells e (refusal_of whole)
stop_at m nothing whole w ps i xs e lt so t =
    let P : Outcome → Type 0 = λ o. Tells e (refusal_of o) in
    let at : whole ≡ mapped (λ l. xs ++ l) (walked m nothing w (get_or ps i nowhere ∷ drop (i + 1) ps)) =
    so ∙ ap (λ z. mapped (λ l. xs ++ l) (walked m nothing w z)) (drop_more ps i nowhere lt) in
    subst P (sym at) (stop m nothing w (get_or ps i nowhere) (drop (i + 1) ps) xs e t)

-- behind all places
pub all_walked : (m : ℕ) (nothing : List ℕ) (whole : Outcome) (w : Walk) (ps : List Place) (i : ℕ) (xs : List Point) →
    length ps ≤ i → whole ≡ mapped (λ l. xs ++ l) (walked m nothing w (drop i ps)) → whole ≡ Held xs
all_walked m nothing whole w ps i xs le so =
    so ∙ ap (λ z. mapped (λ l. xs ++ l) (walked m nothing w z)) (drop_all i ps le) ∙ ap Held (append-nil xs)
