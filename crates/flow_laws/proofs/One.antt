-- A program has one flow, or one error.
use Rattle.std.proofs.Common.{◌≡◌, ℕ, List, length, Option, None, Some, refl, sym, ap, ◌∙◌, subst, ◌⊎◌, inl, inr, arith}
use Rattle.std.proofs.lemmas.Option.{same_Some}
use Rattle.c_tree.specs.Lined.{bare_program}
use Rattle.c_tree.specs.Numbering.{mutex_count}
use Rattle.contexts.specs.Walk.{Walked, Found}
use Rattle.contexts.specs.Outlines.{outlines}
use Rattle.edges.specs.declared.Edge.{Edge}
use Rattle.edges.specs.declared.Point.{Point}
use Rattle.outlines.specs.Outline.{Thread}
use Rattle.outlines.specs.Rows.{edges_from}
use Rattle.outlines.specs.Points.{all_rows}
use Rattle.held_counts.specs.declared.HeldKind.{HeldKind}
use Rattle.held_counts.specs.Counts.{all_counts}
use Rattle.held_counts.specs.Refusals.{Refusal}
use Rattle.outline_pieces.specs.declared.error.FlowError.{FlowError}
use Rattle.outline_pieces.specs.declared.error.FlowError.TheVariants.{TooManyPoints, Held, Memory}
use Rattle.outline_pieces.specs.declared.flow_parts.FlowParts.{FlowParts}
use Rattle.outline_pieces.specs.Shown.{points_of}
use Rattle.outline_pieces.specs.Found.{IsFlowOf, IsErrorFor}
use Rattle.flow_graph.specs.Flow.{nothing_held}
use Rattle.flow_laws.specs.Laws.{FlowsAreOne, FlowsHaveNoError, ErrorsAreOne, ProgramsHaveFlows}

-- a walk finds the same threads
same_threads : (w : Walked (List Thread)) (es fs : List Thread) (n m : List ℕ) → w ≡ Found es n → w ≡ Found fs m → es ≡ fs
same_threads w es fs n m one other = let same : Found es n ≡ Found fs m = sym one ∙ other in cc same

abbrev flow_with : ℕ → List Point → List Edge → FlowParts
flow_with threads points edges = record { threads = threads; points = points; edges = edges }

module _ (m : ℕ) (nothing : List ℕ) (ths : List Thread) where
  one_flow : (a b : FlowParts) → IsFlowOf m nothing ths a → IsFlowOf m nothing ths b → a ≡ b
  one_flow a b one other =
      ap (λ t. flow_with t a.points a.edges) (one.threads ∙ sym other.threads)
      ∙ ap (λ ps. flow_with b.threads ps a.edges) (one.points ∙ sym other.points)
      ∙ ap (λ es. flow_with b.threads b.points es) (one.edges ∙ sym other.edges)

  no_error : (flow : FlowParts) (e : FlowError) → IsFlowOf m nothing ths flow → IsErrorFor m nothing ths e → e ≡ Memory
  no_error flow TooManyPoints is many = let few = is.few in absurd (omega (arith, few, many))
  no_error flow (Held kind line) is refused = let never : None ≡ Some (record { kind = kind; line = line }) = sym is.accepted ∙ refused.1 in absurd (cc never)
  no_error flow Memory is error = refl

  same_refusal : (r : Option Refusal) (kind other : HeldKind) (line at : ℕ) →
      r ≡ Some (record { kind = kind; line = line }) → r ≡ Some (record { kind = other; line = at }) → Held kind line ≡ Held other at
  same_refusal r kind other line at first second =
      let same : record { kind = kind; line = line } ≡ record { kind = other; line = at } = same_Some _ _ (sym first ∙ second) in
      ap (λ (x : Refusal). Held x.kind x.line) same

  one_error : (d e : FlowError) → IsErrorFor m nothing ths d → IsErrorFor m nothing ths e → (d ≡ Memory) ⊎ ((e ≡ Memory) ⊎ (d ≡ e))
  one_error Memory e first second = inl refl
  one_error TooManyPoints Memory first second = inr (inl refl)
  one_error TooManyPoints TooManyPoints first second = inr (inr refl)
  one_error TooManyPoints (Held kind line) first second = let few = second.0 in absurd (omega (arith, few, first))
  one_error (Held kind line) Memory first second = inr (inl refl)
  one_error (Held kind line) TooManyPoints first second = let few = first.0 in absurd (omega (arith, few, second))
  one_error (Held kind line) (Held other at) first second = inr (inr (same_refusal _ kind other line at first.1 second.1))

pub flows_one : FlowsAreOne
flows_one p a b one other =
    let m = mutex_count (bare_program p) in
    let nothing = nothing_held (bare_program p) in
    let same = same_threads (outlines p) other.threads one.threads other.places one.places other.found one.found in
    one_flow m nothing one.threads a b one.parts (subst (λ ths. IsFlowOf m nothing ths b) same other.parts)

pub flows_no_error : FlowsHaveNoError
flows_no_error p flow e is error =
    let m = mutex_count (bare_program p) in
    let nothing = nothing_held (bare_program p) in
    let same = same_threads (outlines p) error.threads is.threads error.places is.places error.found is.found in
    no_error m nothing is.threads flow e is.parts (subst (λ ths. IsErrorFor m nothing ths e) same error.error)

pub errors_one : ErrorsAreOne
errors_one p d e one other =
    let m = mutex_count (bare_program p) in
    let nothing = nothing_held (bare_program p) in
    let same = same_threads (outlines p) other.threads one.threads other.places one.places other.found one.found in
    one_error m nothing one.threads d e one.error (subst (λ ths. IsErrorFor m nothing ths e) same other.error)

pub programs_have : ProgramsHaveFlows
programs_have p = (
  λ has.
      let rows = all_rows 0 has.threads 0 in
      let flow = flow_with (length has.threads) (points_of rows (all_counts (nothing_held (bare_program p)) 0 has.threads)) (edges_from 0 rows) in (
        flow,
        record {
          threads = has.threads;
          places = has.places;
          found = has.found;
          parts = record { few = has.few; accepted = has.accepted; threads = refl; points = refl; edges = refl };
        },
      ),
  λ had. let is = had.1 in record { threads = is.threads; places = is.places; found = is.found; few = is.parts.few; accepted = is.parts.accepted },
)
