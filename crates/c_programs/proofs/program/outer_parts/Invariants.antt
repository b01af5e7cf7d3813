use Rattle.std.proofs.Common.{◌≡◌, ◌≤◌, length}
use Rattle.parse_laws.specs.Parser.{loop}
use Rattle.c_programs.specs.Parsers.{turn}
use Rattle.c_programs.specs.Gives.{views, reading_of}
use Rattle.c_programs.proofs.program.outer_parts.Given as goal

abbrev pub invariant-turns : goal.invariant-turns
invariant-turns l = record {
  gives : loop (turn (views l.text) l.room) (reading_of l.fn.reading) l.tokens ≡ loop (turn (views l.text) l.room) (reading_of l.reading) l.rest;
  few : length l.rest ≤ 65536;
}

abbrev pub decreases-turns : goal.decreases-turns
decreases-turns l = length l.rest
