use Rattle.std.proofs.Common.{subst, sym, ap, Some}
use Rattle.std.proofs.Common.{arith}
use Rattle.std.proofs.lemmas.Grind.{common_steps}
use Rattle.gd_host.specs.Outside.{Adds}
use Rattle.gd_host.specs.Memory.{MemoryState, seen_of, err_room, is_to_fail}
use Rattle.gd_host.proofs.Tells.{fill_adds, fetch_whole, fetch_long, long_fetch}
use Rattle.gd_host.proofs.memory.MemoryHostHost.TheImpl.Goals as goal

pub complain-tells : goal.complain-tells
complain-tells c =
    let host : MemoryState = c.args.self.now in
    record {
      added = subst (λ now. Adds (Some host.err) (Some now.err) c.args.bytes.now c.result) (sym c.ensures.after)
          (fill_adds (is_to_fail host) err_room host.err c.args.bytes.now c.result c.ensures.answer);
      cause = c.ensures.cause;
      bounded = c.ensures.bounded;
      files = ap (λ now. (seen_of now).files) c.ensures.after;
      out = ap (λ now. (seen_of now).out) c.ensures.after;
      asked = ap (λ now. (seen_of now).asked) c.ensures.after;
      read_faults = ap (λ now. (seen_of now).read_faults) c.ensures.after;
      write_faults = ap (λ now. (seen_of now).write_faults) c.ensures.after;
    }

pub fetch-tells : goal.fetch-tells
fetch-tells c = record {
  within = grind (arith, common_steps);
  whole = fetch_whole c.args.self.now c.args.name.now c.args.limit c.result c.ensures.answer;
  too_long = fetch_long c.args.self.now c.args.name.now c.args.limit c.result c.ensures.answer;
  not_too_long = long_fetch c.args.self.now c.args.name.now c.args.limit c.result c.ensures.answer;
  failed = grind (arith, common_steps);
  never_falls = c.ensures.never_falls;
  bounded = c.ensures.bounded;
  asked = grind (arith, common_steps);
  files = grind (arith, common_steps);
  out = grind (arith, common_steps);
  err = grind (arith, common_steps);
  write_faults = grind (arith, common_steps);
  lost = grind (arith, common_steps);
}
