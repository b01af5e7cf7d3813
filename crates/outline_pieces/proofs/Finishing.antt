-- What a builder finds of the threads whose pieces it has taken.
use Rattle.std.proofs.Common.{◌≡◌, ℕ, ◌≤◌, false, List, replicate, refl, sym, ap, ◌∙◌, Option, None, Some}
use Rattle.edges.specs.declared.Point.{Point}
use Rattle.outlines.specs.Outline.{Thread}
use Rattle.outlines.specs.Points.{all_rows}
use Rattle.held_counts.specs.Counts.{all_counts}
use Rattle.held_counts.specs.Refusals.{Refusal, refused_threads}
use Rattle.outline_pieces.specs.declared.builder.Builder.{Builder}
use Rattle.outline_pieces.specs.declared.builder.TheConstants.{MOST_POINTS}
use Rattle.outline_pieces.specs.declared.pieces.Place.{Place}
use Rattle.outline_pieces.specs.declared.error.FlowError.{FlowError}
use Rattle.outline_pieces.specs.declared.error.FlowError.TheVariants as error
use Rattle.outline_pieces.specs.declared.flow_parts.FlowParts.{FlowParts}
use Rattle.outline_pieces.specs.Pieces.{threads_pieces}
use Rattle.outline_pieces.specs.Places.{threads_places}
use Rattle.outline_pieces.specs.Walks.{Held, refused_or, start, walked}
use Rattle.outline_pieces.specs.Backward as backward
use Rattle.outline_pieces.specs.Errors.{Tells, refusal_of}
use Rattle.outline_pieces.specs.Shown.{points_of}
use Rattle.outline_pieces.specs.Taken.{HasTaken}
use Rattle.outline_pieces.specs.Found.{IsFlowOf, IsErrorFor}
use Rattle.outline_pieces.proofs.Holding.{hold_threads}
use Rattle.outline_pieces.proofs.Edging.{edges_of_threads}
use Rattle.outline_pieces.proofs.Taking.{kept_of, thread_of, few_points}

none_refused : (r : Option Refusal) (ps qs : List Point) → refused_or r (Held ps) ≡ Held qs → r ≡ None
none_refused None ps qs e = refl
none_refused (Some r) ps qs e = absurd (cc e)

same_points : (r : Option Refusal) (ps qs : List Point) → refused_or r (Held ps) ≡ Held qs → qs ≡ ps
same_points None ps qs e = cc e
same_points (Some r) ps qs e = absurd (cc e)

told : (r : Option Refusal) (ps : List Point) → refusal_of (refused_or r (Held ps)) ≡ r
told None ps = refl
told (Some r) ps = refl

module _ (m n : ℕ) (b : Builder) (ths : List Thread) (going : b.failed ≡ false) (few : b.course.next ≤ MOST_POINTS)
    (has : HasTaken m n b (threads_pieces ths)) (nothing : List ℕ) (empty : nothing ≡ replicate b.resources 0)
    (places : List Place) (all : places ≡ b.kept) where
  -- the walk over what was kept
  walk_is : walked b.mutexes nothing (start nothing) places
      ≡ refused_or (refused_threads m (replicate n 0) ths) (Held (points_of (all_rows 0 ths 0) (all_counts (replicate n 0) 0 ths)))
  walk_is =
      let none : nothing ≡ replicate n 0 = empty ∙ ap (λ z. replicate z 0) has.resources_are in
      ap (λ z. walked b.mutexes nothing (start nothing) z) (all ∙ kept_of m n b ths going few has)
      ∙ ap (λ z. walked z nothing (start nothing) (threads_places 0 ths 0)) has.mutexes_are
      ∙ ap (λ z. walked m z (start z) (threads_places 0 ths 0)) none
      ∙ hold_threads m (replicate n 0) 0 ths 0 (start (replicate n 0))

  pub found : (flow : FlowParts) → flow.threads ≡ b.course.thread → walked b.mutexes nothing (start nothing) places ≡ Held flow.points →
      flow.edges ≡ (backward.over backward.start b.kept).edges → IsFlowOf m (replicate n 0) ths flow
  found flow threads points edges =
      let is = sym walk_is ∙ points in
      record {
        few = few_points m n b ths going few has;
        accepted = none_refused _ _ _ is;
        threads = threads ∙ thread_of m n b ths going few has;
        points = same_points _ _ _ is;
        edges = edges ∙ ap (λ z. (backward.over backward.start z).edges) (kept_of m n b ths going few has) ∙ edges_of_threads ths;
      }

  pub refused : (e : FlowError) → Tells e (refusal_of (walked b.mutexes nothing (start nothing) places)) → IsErrorFor m (replicate n 0) ths e
  refused error.TooManyPoints never = absurd never
  refused (error.Held kind line) tells =
      (few_points m n b ths going few has, sym (told (refused_threads m (replicate n 0) ths) _) ∙ sym (ap refusal_of walk_is) ∙ tells)
  refused error.Memory tells = tt
