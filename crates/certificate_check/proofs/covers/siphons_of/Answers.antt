use Rattle.std.proofs.Common.{[], ◌∷◌, ◌∙◌, length, refl, ap, arith, length-append}
use Rattle.std.proofs.lemmas.Option.{slice_get_read}
use Rattle.gadara_net.specs.Flows.{flow_net}
use Rattle.certificate_check.proofs.Covered.{siphons_more}
use Rattle.certificate_check.proofs.covers.siphons_of.Goals as goal

pub loop-line-preserved : goal.loop-line-preserved
loop-line-preserved g c =
    let inv = c.loop-line.invariant in
    let lines = c.args.lines.now in
    let made = c.least_siphon.ensures in
    record {
      room = made.room ∙ inv.room;
      each = omega (arith, ap length c.in_ok-push.ensures.items, length-append c.loop-line.siphons.items (c.least_siphon.new.out ∷ []), inv.each);
      are = siphons_more g.S.PlaceSet.bound g.S.PlaceSet.places (flow_net c.args.net.now) lines c.loop-line.siphons.items c.push.new.self.items c.least_siphon.new.out c.loop-line.line-index c.line-item.result
          c.in_ok-push.ensures.items inv.each
          (slice_get_read lines (length lines) c.loop-line.line-index c.line-item.result refl c.loop-line-test.true c.line-item.is)
          (record { size = made.size ∙ (c.in_ok-siphon.ensures.bound ∙ c.places.ensures); places_are = made.places })
          inv.are;
    }
