-- What is seen of words that are owned.
use Rattle.std.specs.Prelude.{ℕ, List, Option, option_map, String, string_bytes}
use Rattle.std.specs.declared.alloc.Global.{Global}

abbrev pub text_of : Option (String Global) → Option (List ℕ)
text_of text = option_map string_bytes text
