use Rattle.std.proofs.Common.{refl}
use Rattle.c_lexer.specs.Pieces.{Piece}
use Rattle.c_lexer.proofs.DirectivePieces.{include_cut, define_cuts, refused_cut}
use Rattle.c_lexer.proofs.directives.line.Goals as goal

pub returns-in-Some : goal.returns-in-Some
returns-in-Some c =
    let e = rw c.from-rest.ensures at c.in-Some.ensures in
    record {
      piece = Piece.skip;
      begins = include_cut c.args.text.now c.in-Some.len c.requires.some c.requires.hash e.within e.reads;
      shows = refl;
    }

pub returns-in-Ok : goal.returns-in-Ok
returns-in-Ok c =
    define_cuts c.args.text.now c.args.place c.in-Ok.definition c.requires.some c.requires.hash (rw c.from-rest.ensures at c.in_default.ensures) (rw c.from-rest.ensures at c.in-Ok.ensures)

pub returns-in-Err : goal.returns-in-Err
returns-in-Err c = record {
  piece = Piece.refused c.in-Err.fault;
  begins = refused_cut c.args.text.now c.in-Err.fault c.requires.some c.requires.hash (rw c.from-rest.ensures at c.in_default.ensures) (rw c.from-rest.ensures at c.in-Err.ensures);
  shows = refl;
}
