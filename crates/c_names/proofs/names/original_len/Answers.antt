use Rattle.std.proofs.Common.{◌∙◌, ap, sym}
use Rattle.std.proofs.lemmas.List.{take_rest}
use Rattle.c_rules.specs.Names.{is_copy_end}
use Rattle.c_names.proofs.Originals.{behind_more}
use Rattle.c_names.proofs.names.original_len.Goals as goal

pub loop-len-preserved : goal.loop-len-preserved
loop-len-preserved c =
    let name = c.args.name.now in
    let len = c.loop-len.len in
    c.loop-len.invariant ∙ behind_more name len c.loop-len-test.true (ap is_copy_end (sym (take_rest name len)) ∙ sym c.is_copy_end.ensures ∙ c.if-is_copy_end.false)
