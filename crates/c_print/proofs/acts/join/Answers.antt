use Rattle.std.proofs.Common.{append_assoc, append-nil}
use Rattle.c_layout.proofs.Readings.{text_append}
use Rattle.c_print.proofs.acts.join.Goals as goal

pub returns : goal.returns
returns c = rw (c.in_ok-put-2.ensures, c.in_ok-place.ensures, c.in_ok-put.ensures) (simp (append_assoc, append-nil, text_append))
