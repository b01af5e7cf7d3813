use Rattle.std.proofs.Common.{◌≡◌, drop}
use Rattle.gd_host.specs.Memory.{entries_of, first_of}
use Rattle.gd_host.proofs.memory.find.Given as goal

abbrev pub invariant-loop-file : goal.invariant-loop-file
invariant-loop-file l = first_of (entries_of l.files) l.name ≡ first_of (entries_of (drop l.file-index l.files)) l.name
