use Rattle.std.proofs.Common.{refl, ap, ◌∙◌}
use Rattle.command_words.specs.Tasks.{texts}
use Rattle.answers.specs.Commands.{contents_of}
use Rattle.top_call.proofs.Told.{decides_task, unread_task, long_task, name_at_is}
use Rattle.top_call.proofs.top.answer_to.Goals as goal

pub returns-in-Ok-clause-defines : goal.returns-in-Ok-clause-defines
returns-in-Ok-clause-defines g c =
    decides_task c.args.task.now _ _ (texts c.files-names.result.now) c.decide.result c.command.result (contents_of c.in-Ok.files.items) (contents_of c.deref.result.now)
    c.command.ensures c.files-names.ensures (ap contents_of c.deref.ensures.value) c.in-Ok.ensures.read c.decide.ensures

pub returns-in-Failed-clause-defines : goal.returns-in-Failed-clause-defines
returns-in-Failed-clause-defines g c =
    let is = c.in-Err.ensures.stopped.unread c.in-Failed.is in
    unread_task c.args.task.now _ _ (texts c.files-names.result.now) c.unread.result c.in-Err.stop.place c.as_str.result.now
    c.files-names.ensures is (name_at_is _ _ _ _ is.inside c.index-names-stop.is c.as_str.ensures.value) c.unread.ensures

pub returns-in-TooLong-clause-defines : goal.returns-in-TooLong-clause-defines
returns-in-TooLong-clause-defines g c =
    let stopped = c.in-Err.ensures.stopped in
    long_task c.args.task.now _ _ (texts c.files-names.result.now) c.too_long.result c.command.result c.in-Err.stop.place c.limit.result c.as_str-in-TooLong.result.now
    c.command.ensures c.files-names.ensures stopped.inside (stopped.long c.in-TooLong.is)
    (name_at_is _ _ _ _ stopped.inside c.index-names-stop-in-TooLong.is c.as_str-in-TooLong.ensures.value)
    (c.limit.ensures.value ∙ rw (c.command.ensures, c.command-in-TooLong.ensures) refl) c.too_long.ensures
