-- Words and lines that spell events.
use Rattle.std.specs.Prelude.{◌≡◌, ℕ, ◌<◌, List, [], ◌∷◌, ◌==◌, ⊤, codes, decimal}
use Rattle.std.specs.List.{slice_split}
use Rattle.c_meaning.specs.declared.Event.{Event}
use Rattle.c_meaning.specs.declared.EventKind.{EventKind}
use Rattle.c_meaning.specs.declared.EventKind.TheVariants.{Go, Choose, Wake}

-- the words of a line, with single blanks between them
abbrev pub words_of : List ℕ → List (List ℕ)
words_of line = slice_split (λ b. b == 32) line

-- the words of an event, in which threads are written in decimal
abbrev pub kind_words : EventKind → List (List ℕ)
kind_words Go = codes "go" ∷ []
kind_words (Choose u) = codes "choose" ∷ decimal u ∷ []
kind_words Wake = codes "wake" ∷ []

abbrev pub event_words : Event → List (List ℕ)
event_words e = decimal e.thread ∷ kind_words e.kind

-- its threads are numbered below 32
abbrev pub IsOfThreads : EventKind → Type 0
IsOfThreads Go = ⊤
IsOfThreads (Choose u) = u < 32
IsOfThreads Wake = ⊤

abbrev pub HasThreads : Event → Type 0
HasThreads e = (e.thread < 32) × IsOfThreads e.kind

-- words say what happens to a thread
abbrev pub KindSpelled : List (List ℕ) → EventKind → Type 0
KindSpelled words kind = (words ≡ kind_words kind) × IsOfThreads kind

-- words spell an event
abbrev pub WordsSpell : List (List ℕ) → Event → Type 0
WordsSpell words e = (words ≡ event_words e) × HasThreads e

-- a line spells an event
abbrev pub Spells : List ℕ → Event → Type 0
Spells line e = WordsSpell (words_of line) e

-- a word is the number of a thread, in decimal
abbrev pub IsThread : List ℕ → ℕ → Type 0
IsThread word t = (t < 32) × (word ≡ decimal t)
