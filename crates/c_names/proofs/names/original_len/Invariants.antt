use Rattle.std.proofs.Common.{◌≡◌, ◌++◌, take, drop, option_map}
use Rattle.c_rules.specs.Names as spec
use Rattle.c_names.proofs.names.original_len.Given as goal

-- no end of a copy's name begins in front of `len`
abbrev pub invariant-loop-len : goal.invariant-loop-len
invariant-loop-len l = spec.original l.name ≡ option_map (λ front. take l.len l.name ++ front) (spec.original (drop l.len l.name))
