-- What an event did, as a line of a trace.
use Rattle.std.specs.Prelude.{ℕ, List, [], ◌∷◌, ◌++◌, codes, decimal, Some, None}
use Rattle.std.specs.declared.option.Option.{Option}
use Rattle.hex.specs.Hex.{encode_lower}
use Rattle.c_meaning.specs.declared.Did.{Did}
use Rattle.c_meaning.specs.declared.Did.TheVariants as did
use Rattle.c_check.specs.Tables.{Numbers}
use Rattle.c_check.specs.Written.{name_of}

-- a thread that was woken, if any was
abbrev pub woken : Option ℕ → List ℕ
woken None = codes "none"
woken (Some u) = decimal u

-- what was printed, two digits a byte; nothing stands behind the word where nothing was
abbrev pub printing : List ℕ → List ℕ
printing [] = codes "print"
printing (b ∷ rest) = codes "print " ++ encode_lower (b ∷ rest)

-- what was done; mutexes are written by their names, threads and monitors by their numbers
abbrev pub did_text : Numbers → Did → List ℕ → List ℕ
did_text n (did.Create u) printed = codes "create " ++ decimal u
did_text n (did.Join u) printed = codes "join " ++ decimal u
did_text n (did.Lock r) printed = codes "lock " ++ name_of n r
did_text n (did.Unlock r) printed = codes "unlock " ++ name_of n r
did_text n (did.Take k) printed = codes "take " ++ decimal k
did_text n (did.Give k) printed = codes "give " ++ decimal k
did_text n (did.Wait r) printed = codes "wait " ++ name_of n r
did_text n did.Wake printed = codes "wake"
did_text n (did.Retake r) printed = codes "retake " ++ name_of n r
did_text n (did.Signal u) printed = codes "signal " ++ woken u
did_text n did.Broadcast printed = codes "broadcast"
did_text n did.Read printed = codes "read"
did_text n did.Print printed = printing printed
did_text n did.End printed = codes "end"
did_text n did.Step printed = codes "step"

-- the thread, and what it did
abbrev pub act_line : Numbers → ℕ → Did → List ℕ → List ℕ
act_line n thread done printed = decimal thread ++ (codes " " ++ did_text n done printed)
