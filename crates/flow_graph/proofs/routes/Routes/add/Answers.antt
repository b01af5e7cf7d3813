use Rattle.std.proofs.Common.{◌≡◌, ℕ, ◌+◌, List, ◌++◌, ◌∷◌, [], length, map, sym, subst, ap, ◌∙◌, Some, arith, if◌then◌else◌}
use Rattle.std.specs.Prelude.{bytes_eq}
use Rattle.std.proofs.lemmas.List.{length_push, map-append, length-map}
use Rattle.std.proofs.lemmas.Result.{on_ok_weaker}
use Rattle.c_tree.specs.Lined.{Function, Program, function_of}
use Rattle.context_walk.specs.Places.{place_at}
use Rattle.context_walk.specs.Prepared.{program_in, placed}
use Rattle.context_walk.proofs.Above.{place_more}
use Rattle.flow_graph.specs.declared.routes.Stop.{Stop}
use Rattle.flow_graph.specs.Routes.{IsRoute}
use Rattle.flow_graph.proofs.Adding.{all_more, route_of}
use Rattle.flow_graph.proofs.routes.Routes.add.Goals as goal

pub returns-clause-routes : goal.returns-clause-routes
returns-clause-routes c =
    let q = c.args.self.now.functions.now in
    let p : Program = program_in q in
    let old = map (λ v. v.items) c.args.self.now.routes.items in
    let stops : List Stop = c.in_ok-stops.stops.items in
    let pushed : map (λ v. v.items) c.push.new.self.items ≡ old ++ stops ∷ [] = ap (map (λ v. v.items)) c.in_ok-push.ensures.items ∙ map-append (λ v. v.items) c.args.self.now.routes.items (c.in_ok-stops.stops ∷ []) in
    let count : length old ≡ length c.args.self.now.routes.items = length-map c.args.self.now.routes.items (λ v. v.items) in
    on_ok_weaker c.put.result (λ put.
    all_more (IsRoute p) old (map (λ v. v.items) c.push.new.self.items) stops pushed c.requires.routes
    (subst (λ k. IsRoute p k stops) (sym count)
    (route_of q c.requires.formed.0 c.args.places.now (length c.args.self.now.routes.items) (function_of c.args.f.now) stops c.requires.prepared c.requires.formed.1 c.requires.places c.requires.next
    c.in_ok-stops.ensures.shapes c.in_ok-stops.ensures.stops))) c.put.ensures

pub returns-clause-places : goal.returns-clause-places
returns-clause-places c =
    let p : Program = program_in c.args.self.now.functions.now in
    let k : ℕ = length c.args.self.now.routes.items in
    let f : Function = function_of c.args.f.now in
    let counted : length c.push.new.self.items ≡ k + 1 = ap length c.in_ok-push.ensures.items ∙ length_push c.args.self.now.routes.items c.in_ok-stops.stops in
    let place : c.len-k.result ≡ k = omega arith in
    on_ok_weaker c.put.result (λ put name.
    put name ∙ ap (λ text. if bytes_eq text name then Some c.len-k.result else placed c.args.places.now name) c.as_slice.ensures
    ∙ ap (λ j. if bytes_eq f.name name then Some j else placed c.args.places.now name) place
    ∙ ap (λ o. if bytes_eq f.name name then Some k else o) (c.requires.places name)
    ∙ sym (place_more p k f name c.requires.next)
    ∙ ap (λ n. place_at p n name) (sym counted)) c.put.ensures
