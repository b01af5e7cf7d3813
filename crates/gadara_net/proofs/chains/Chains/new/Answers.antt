use Rattle.std.proofs.Common.{◌<◌, get_or, sym, rules}
use Rattle.std.proofs.lemmas.Option.{slice_get-get_or, slice_get_read}
use Rattle.gadara_net.proofs.Indexes.{IsChained-more}
use Rattle.gadara_net.proofs.chains.Chains.new.Goals as goal

pub loop-i-preserved : goal.loop-i-preserved
loop-i-preserved c =
    let inv = c.loop-i.invariant in
    let keys = c.args.keys.now in
    let last = c.loop-i.last.items in
    let key = get_or keys c.loop-i.i 0 in
    let at = slice_get-get_or keys c.loop-i.i 0 c.loop-i-test.true in
    let below : key < c.args.size = search rules in
    let had = slice_get_read last c.args.size key c.index.result.now (sym inv.sizes) below c.index.ensures in
    rw c.in_ok-push.ensures.items (IsChained-more keys last c.loop-i.before.items c.args.size c.loop-i.i key c.index.result.now inv at had)
