-- From the threads that were walked along to the flow of a program.
use Rattle.std.proofs.Common.{◌≡◌, ℕ, List, [], sym, ap, subst, ◌∙◌, append-nil}
use Rattle.c_tree.specs.Lined.{Program}
use Rattle.outlines.specs.Outline.{Thread}
use Rattle.contexts.specs.Walk.{Found}
use Rattle.contexts.specs.Outlines.{outlines}
use Rattle.context_items.specs.Marks.{Mark, marks_of}
use Rattle.outline_pieces.specs.declared.builder.Builder.{Builder}
use Rattle.outline_pieces.specs.Pieces.{threads_pieces}
use Rattle.outline_pieces.specs.Taken.{HasTaken}
use Rattle.flow_graph.specs.Weaving.{program_pieces}
use Rattle.flow_graph.specs.Walking.{AddsThreads}
use Rattle.flow_graph.proofs.Woven.{marks_make_pieces}

-- a builder that has walked along all threads has taken the pieces of the outlines
pub taken_all : (q p : Program) (ms : List Mark) (threads : List Thread) (places : List ℕ) (m n : ℕ) (old new : Builder) → q ≡ p → outlines p ≡ Found threads places → ms ≡ marks_of threads
    → HasTaken m n old [] → AddsThreads (program_pieces q ms) [] old new → HasTaken m n new (threads_pieces threads)
taken_all q p ms threads places m n old new same found marks begun adds =
    subst (HasTaken m n new)
    (sym (append-nil adds.added) ∙ sym adds.is ∙ ap (λ r. program_pieces r ms) same ∙ ap (program_pieces p) marks ∙ marks_make_pieces p threads places found)
    (adds.taken m n [] begun)
