-- The flow of a program is the only one, and its net is the program's.
use Rattle.std.specs.Prelude.{◌≡◌, ◌↔◌, ◌⊎◌, ℕ, List, length, slice_index}
use Rattle.c_canonical.specs.ShapedPrograms.{ShapedProgram}
use Rattle.c_rules.specs.Formed.{Formed}
use Rattle.c_tree.specs.declared.program.Mode.{Mode}
use Rattle.c_tree.specs.Lined.{Program, bare_program}
use Rattle.c_tree.specs.Numbering.{resource_count}
use Rattle.outlines.specs.Outline.{Thread}
use Rattle.outline_pieces.specs.declared.error.FlowError.{FlowError}
use Rattle.outline_pieces.specs.declared.error.FlowError.TheVariants.{Memory}
use Rattle.outline_pieces.specs.declared.flow_parts.FlowParts.{FlowParts}
use Rattle.outline_pieces.specs.Nets.{counts_in}
use Rattle.flow_graph.specs.Flow.{IsFlow, IsFlowError, HasFlow}
use Rattle.reached_states.specs.Counts.{tokens_of}
use Rattle.accounts.specs.Accounts.{IsNetOfProgram}
use Rattle.flow_laws.specs.Nets.{tokens_in, net_in}

-- ---- one flow

-- two flows of a program are equal
abbrev pub FlowsAreOne : Type 0
FlowsAreOne = (p : Program) (a b : FlowParts) → IsFlow p a → IsFlow p b → a ≡ b

-- a program that has a flow has no error but want of memory
abbrev pub FlowsHaveNoError : Type 0
FlowsHaveNoError = (p : Program) (flow : FlowParts) (e : FlowError) → IsFlow p flow → IsFlowError p e → e ≡ Memory

-- two errors of a program are equal, where none is want of memory
abbrev pub ErrorsAreOne : Type 0
ErrorsAreOne = (p : Program) (d e : FlowError) → IsFlowError p d → IsFlowError p e → (d ≡ Memory) ⊎ ((e ≡ Memory) ⊎ (d ≡ e))

-- the threads of a program have points and edges exactly where it has a flow
abbrev pub ProgramsHaveFlows : Type 0
ProgramsHaveFlows = (p : Program) → HasFlow p ↔ ((flow : FlowParts) × IsFlow p flow)

-- ---- its net

-- these are the tokens of the resources
abbrev pub TokensAreOfResources : Type 0
TokensAreOfResources = (p : Program) → (length (tokens_in p) ≡ resource_count (bare_program p)) × ((r : ℕ) → slice_index (tokens_in p) r ≡ tokens_of (bare_program p) r)

-- the net of a flow is that of the program, with what is held at each of the flow's points
abbrev pub FlowsAreNets : Type 0
FlowsAreNets =
    (p : Program) (mode : Mode) (flow : FlowParts) → Formed p mode → ShapedProgram (bare_program p) → IsFlow p flow
    → (threads : List Thread) × (places : List ℕ) × IsNetOfProgram p mode threads places (net_in p flow) (counts_in flow)
