use Rattle.std.proofs.Common.{◌≡◌, ◌<◌, sym, ◌∙◌, subst, arith}
use Rattle.std.specs.Prelude.{IsTrue}
use Rattle.std.proofs.lemmas.Bool.{eqb-true}
use Rattle.net_laws.specs.Siphons.{HasPlace}
use Rattle.gadara_net.specs.Flows.{flow_net}
use Rattle.siphon_enum.proofs.Rows.{members-shifted, singles_more}
use Rattle.siphon_enum.proofs.unions.unite_singles.Goals as goal

pub least_siphon-requires-clause-named : goal.least_siphon-requires-clause-named
least_siphon-requires-clause-named g c r on =
    let below : c.loop-r.r < 64 = omega (arith, c.keeps_flow.ensures.shaped.few) in
    let same : r ≡ c.loop-r.r = eqb-true _ _ (subst (λ S. IsTrue (S r)) (members-shifted c.loop-r.r below) on) in
    omega (arith, same)

pub loop-r-preserved : goal.loop-r-preserved
loop-r-preserved g c =
    let n = flow_net c.args.net.now in
    let below : c.loop-r.r < 64 = omega (arith, c.keeps_flow.ensures.shaped.few) in
    record {
      size = c.unite.ensures.size ∙ c.loop-r.invariant.size;
      scratch = c.least_siphon.ensures.size ∙ c.loop-r.invariant.scratch;
      room = c.least_siphon.ensures.room ∙ c.loop-r.invariant.room;
      singles = singles_more n c.loop-r.r _ _ c.loop-r.invariant.singles c.unite.ensures.kept (λ place has. c.unite.ensures.gained place ((c.least_siphon.ensures.places place).1 (subst (λ S. HasPlace n S place) (sym (members-shifted c.loop-r.r below)) has)));
    }

pub returns-clause-singles : goal.returns-clause-singles
returns-clause-singles g c r place lt = c.loop-r.invariant.singles r place (omega (arith, lt, c.loop-r-test.false))
