use Rattle.std.proofs.Common.{◌≡◌, ℕ, ◌+◌, length, sym, ap, ◌∙◌, Some, if◌then◌else◌, arith}
use Rattle.std.specs.Prelude.{bytes_eq}
use Rattle.std.proofs.lemmas.List.{length_push}
use Rattle.std.proofs.lemmas.Result.{on_ok_weaker}
use Rattle.c_tree.specs.Lined.{Function, Program, function_of}
use Rattle.context_walk.specs.Places.{place_at}
use Rattle.context_walk.specs.Prepared.{count_in, program_in, placed}
use Rattle.context_walk.proofs.Above.{place_more}
use Rattle.context_walk.proofs.Preparing.{prepared_more}
use Rattle.context_walk.proofs.functions.Functions.add.Goals as goal

pub returns-clause-so_far : goal.returns-clause-so_far
returns-clause-so_far c =
    let p : Program = program_in c.args.self.now in
    let k : ℕ = count_in c.args.self.now in
    let f : Function = function_of c.args.f.now in
    let counted : length c.push.new.self.items ≡ k + 1 = ap length c.in_ok-push.ensures.items ∙ length_push c.args.self.now.functions.items c.in_ok-prepared.prepared in
    let place : c.len-k.result ≡ k = omega arith in
    on_ok_weaker c.put.result (λ put. record {
      each = prepared_more p c.args.self.now.functions.items c.push.new.self.items c.in_ok-prepared.prepared c.in_ok-push.ensures.items c.requires.so_far.each c.in_ok-prepared.ensures;
      places = λ name.
          put name ∙ ap (λ text. if bytes_eq text name then Some c.len-k.result else placed c.args.self.now.places name) c.as_slice.ensures
          ∙ ap (λ j. if bytes_eq f.name name then Some j else placed c.args.self.now.places name) place
          ∙ ap (λ o. if bytes_eq f.name name then Some k else o) (c.requires.so_far.places name)
          ∙ sym (place_more p k f name c.requires.next)
          ∙ ap (λ n. place_at p n name) (sym counted);
      mutexes = c.requires.so_far.mutexes;
    }) c.put.ensures
