use Rattle.std.proofs.Common.{rules}
use Rattle.c_tree.specs.Lined.{program_of}
use Rattle.answers.specs.Run.{Texts}
use Rattle.answers.proofs.Declined.{ends_err, schedule_declined, input_declined, traced_told}
use Rattle.answers.proofs.run.run_files.Goals as goal

pub returns-in_err-events : goal.returns-in_err-events
returns-in_err-events c =
    let names : Texts = record { program = c.args.program.name.now; schedule = c.args.schedule.name.now; input = c.args.input.name.now } in
    let read : Texts = record { program = c.args.program.bytes.now; schedule = c.args.schedule.bytes.now; input = c.args.input.bytes.now } in
    ends_err names read _ c.in_err-events.field-0.0 (search rules) (schedule_declined names read (program_of c.in_ok-read.read.program) c.in_ok-read.ensures.spells _ c.in_err-events.ensures)

pub returns-in_err-values : goal.returns-in_err-values
returns-in_err-values c =
    let names : Texts = record { program = c.args.program.name.now; schedule = c.args.schedule.name.now; input = c.args.input.name.now } in
    let read : Texts = record { program = c.args.program.bytes.now; schedule = c.args.schedule.bytes.now; input = c.args.input.bytes.now } in
    ends_err names read _ c.in_err-values.field-0.0 (search rules)
    (input_declined names read (program_of c.in_ok-read.read.program) c.in_ok-read.ensures.spells _ c.in_ok-events.ensures _ c.in_err-values.ensures)

pub run-requires-clause-small : goal.run-requires-clause-small
run-requires-clause-small c = c.spelled_is_small.ensures _ _ c.in_ok-read.ensures.spells.spelled

pub returns : goal.returns
returns c =
    traced_told _ _ c.in_ok-trace.trace _ (record {
      program = program_of c.in_ok-read.read.program;
      spells = c.in_ok-read.ensures.spells;
      events = _;
      schedule = c.in_ok-events.ensures;
      values = _;
      input = c.in_ok-values.ensures;
    }) c.in_ok-trace.ensures c.in_ok-told_of.ensures
