-- The words of a command line, and what they ask for.
use Rattle.std.specs.Prelude.{ℕ, Bool, true, false, not, ◌&&◌, ◌==◌, nat_le, List, [], ◌∷◌, ◌++◌, length, take, drop, codes, bytes_eq, if◌then◌else◌, Some, None, Option, option_and_then, is_some}
use Rattle.std.specs.Str.{all_ascii_digits}
use Rattle.std.specs.Str.Parse.{digits_value}
use Rattle.command_words.specs.declared.command.Command.{Command}
use Rattle.command_words.specs.declared.command.Command.TheVariants.{Instrument, Run, Runtime}
use Rattle.command_words.specs.Tasks.{Task}

-- ---- the words behind a command

-- what the next word is: another word or an option; the value of an option that stands before it; or another word, whatever
-- it looks like, since `--` stands before it
pub data Next : Type 0 where
  any : Next
  siphons : Next
  monitors : Next
  other : Next

-- what the words so far give: the other words in their order, the values of the options, and what the next word is
pub record Given : Type 0 where
  pub files : List (List ℕ)
  pub siphons : Option (List ℕ)
  pub monitors : Option (List ℕ)
  pub next : Next

abbrev pub nothing : Given
nothing = record { files = []; siphons = None; monitors = None; next = Next.any }

abbrev pub with_file : Given → List ℕ → Given
with_file g word = record g { files = g.files ++ word ∷ [] }

-- an option gets a value, where it has none before
abbrev pub with_siphons : Option (List ℕ) → Given → List ℕ → Option Given
with_siphons None g value = Some (record g { siphons = Some value; next = Next.any })
with_siphons (Some before) g value = None

abbrev pub with_monitors : Option (List ℕ) → Given → List ℕ → Option Given
with_monitors None g value = Some (record g { monitors = Some value; next = Next.any })
with_monitors (Some before) g value = None

-- a word begins with these bytes
abbrev pub begins : List ℕ → List ℕ → Bool
begins word front = bytes_eq (take (length front) word) front

-- an option, with its value behind `=` or in the next word; no other one is known
abbrev pub option_given : Given → List ℕ → Option Given
option_given g word =
    if bytes_eq word (codes "--siphons") then Some (record g { next = Next.siphons })
    else if bytes_eq word (codes "--monitors") then Some (record g { next = Next.monitors })
    else if begins word (codes "--siphons=") then with_siphons g.siphons g (drop 10 word)
    else if begins word (codes "--monitors=") then with_monitors g.monitors g (drop 11 word)
    else None

-- a word is no option: it is empty or `-`, or doesn't begin with `-`
abbrev pub is_other : List ℕ → Bool
is_other [] = true
is_other (first ∷ []) = true
is_other (first ∷ second ∷ more) = not (first == 45)

-- one word more
abbrev pub given_as : Next → Given → List ℕ → Option Given
given_as Next.any g word = if bytes_eq word (codes "--") then Some (record g { next = Next.other })
    else if is_other word then Some (with_file g word) else option_given g word
given_as Next.siphons g word = with_siphons g.siphons g word
given_as Next.monitors g word = with_monitors g.monitors g word
given_as Next.other g word = Some (with_file g word)

-- no option waits for its value
abbrev pub complete : Next → Bool
complete Next.any = true
complete Next.siphons = false
complete Next.monitors = false
complete Next.other = true

-- what words give behind others, where each of them is of a known shape
abbrev pub given_behind : Given → List (List ℕ) → Option Given
given_behind g [] = if complete g.next then Some g else None
given_behind g (word ∷ words) = option_and_then (λ more. given_behind more words) (given_as g.next g word)

-- ---- numbers

-- a word is a number of one to nine decimal digits
abbrev pub is_number : List ℕ → Bool
is_number word = nat_le 1 (length word) && (nat_le (length word) 9 && all_ascii_digits word)

abbrev pub number_of : List ℕ → Option ℕ
number_of word = if is_number word then Some (digits_value 10 word) else None

abbrev pub ranged : ℕ → ℕ → ℕ → Option ℕ
ranged least most number = if nat_le least number && nat_le number most then Some number else None

-- the number of an option, within its range; where it isn't given, the number that stands for it
abbrev pub number_within : ℕ → ℕ → ℕ → Option (List ℕ) → Option ℕ
number_within least most unless None = Some unless
number_within least most unless (Some word) = option_and_then (ranged least most) (number_of word)

-- ---- the commands

abbrev pub with_count : ℕ → Command → Given → Option Task
with_count count command g = if length g.files == count then Some (record { command = command; files = g.files }) else None

-- `instrument FILE`, with at most 1 to 512 siphons, and 0 to 16 monitors
abbrev pub instrument_given : Given → Option Task
instrument_given g = option_and_then (λ siphons. option_and_then (λ monitors. with_count 1 (Instrument siphons monitors) g)
    (number_within 0 16 16 g.monitors)) (number_within 1 512 256 g.siphons)

-- a command without options
abbrev pub plain_given : ℕ → Command → Given → Option Task
plain_given count command g = if is_some g.siphons then None else if is_some g.monitors then None else with_count count command g

abbrev pub command_given : List ℕ → Given → Option Task
command_given word g =
    if bytes_eq word (codes "instrument") then instrument_given g
    else if bytes_eq word (codes "run") then plain_given 3 Run g
    else if bytes_eq word (codes "runtime") then plain_given 0 Runtime g
    else None

-- what a list of words asks for, if it is of a known shape
abbrev pub task_of : List (List ℕ) → Option Task
task_of [] = None
task_of (command ∷ words) = option_and_then (command_given command) (given_behind nothing words)
