-- Programs whose flow has a net with lines never get stuck.
use Rattle.std.specs.Prelude.{List}
use Rattle.certificate.specs.declared.Line.{Line}
use Rattle.c_canonical.specs.ShapedPrograms.{ShapedProgram}
use Rattle.c_rules.specs.Formed.{Formed}
use Rattle.c_tree.specs.declared.program.Mode.{Mode}
use Rattle.c_tree.specs.Lined.{Program, bare_program}
use Rattle.c_meaning.specs.Stuck.{NeverStuck}
use Rattle.net_laws.specs.Lines.{IsCovered, HasLines, IsValid}
use Rattle.outline_pieces.specs.declared.flow_parts.FlowParts.{FlowParts}
use Rattle.flow_graph.specs.Flow.{IsFlow}
use Rattle.flow_laws.specs.Nets.{net_in}

-- each candidate has a line for a set whose least siphon lies in its own
abbrev pub LinesKeepUnstuck : Type 0
LinesKeepUnstuck =
    (p : Program) (mode : Mode) (flow : FlowParts) → Formed p mode → ShapedProgram (bare_program p) → IsFlow p flow → HasLines (net_in p flow) → NeverStuck (bare_program p)

-- the net is covered
abbrev pub CoveredAreUnstuck : Type 0
CoveredAreUnstuck =
    (p : Program) (mode : Mode) (flow : FlowParts) → Formed p mode → ShapedProgram (bare_program p) → IsFlow p flow → IsCovered (net_in p flow) → NeverStuck (bare_program p)

-- a certificate of these lines is valid
abbrev pub ValidAreUnstuck : Type 0
ValidAreUnstuck =
    (p : Program) (mode : Mode) (flow : FlowParts) (lines : List Line) → Formed p mode → ShapedProgram (bare_program p) → IsFlow p flow
    → IsValid (net_in p flow) lines → NeverStuck (bare_program p)
