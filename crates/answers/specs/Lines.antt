-- The lines of complaint. Each ends with a newline.
use Rattle.std.specs.Prelude.{ℕ, List, ◌++◌, codes, decimal}

abbrev pub usage_line : List ℕ
usage_line = codes "gadara: usage: gadara instrument FILE | certify FILE | check FILE CERT | run FILE SCHEDULE INPUT | report FILE | survey N | runtime\n"

abbrev pub unread_line : List ℕ → List ℕ
unread_line name = codes "gadara: " ++ (name ++ codes ": cannot read\n")

abbrev pub unwritten_line : List ℕ
unwritten_line = codes "gadara: cannot write\n"

abbrev pub memory_line : List ℕ
memory_line = codes "gadara: out of memory\n"

abbrev pub too_long_line : List ℕ → ℕ → List ℕ
too_long_line name limit = codes "gadara: " ++ (name ++ (codes ": limit: bytes " ++ (decimal limit ++ codes "\n")))

abbrev pub limit_line : List ℕ → List ℕ → ℕ → List ℕ
limit_line name what number = codes "gadara: " ++ (name ++ (codes ": limit: " ++ (what ++ (codes " " ++ (decimal number ++ codes "\n")))))

abbrev pub refused_line : List ℕ → ℕ → List ℕ → List ℕ
refused_line name line text = codes "gadara: " ++ (name ++ (codes ": line " ++ (decimal line ++ (codes ": " ++ (text ++ codes "\n")))))

abbrev pub not_built_line : List ℕ → List ℕ
not_built_line name = codes "gadara: " ++ (name ++ codes ": not built yet\n")
