-- Clap's walk over all the words, beside what they give.
use Rattle.std.proofs.Common.{bytes_eq, drop, ◌≡◌, ℕ, Bool, true, false, ◌⊎◌, List, [], ◌∷◌, Some, None, Option, refl, sym, ap, ◌∙◌, codes, inl, inr, subst, ⊎_elim}
use Rattle.std.specs.Prelude.{if◌then◌else◌, fold, option_and_then, IsUtf8, ⊤}
use Rattle.clap.specs.Kinds.{Kinds, or_else}
use Rattle.clap.specs.Walk.{Walk, settled_rows, walked}
use Rattle.clap.specs.Faults.{settle_fault, turn_fault, walk_fault}
use Rattle.command_words.specs.Words.{Given, Next, given_as, given_behind, complete, with_siphons, with_monitors, with_file, option_given, begins, is_other}
use Rattle.command_words.proofs.ClapLooks.{looks}
use Rattle.command_words.proofs.ClapApp.{shape, rules, Which}
use Rattle.command_words.proofs.ClapStates.{Shows, State, Doomed, Turn, IsBad, IsBadValue, next_for}
use Rattle.command_words.proofs.ClapTurns.{trails_turn}
use Rattle.command_words.proofs.ClapSteps.{free_turn, waits_turn, waits_fault, DoomedTurn, doomed_turn}

-- each of these is text
abbrev pub AreUtf8 : List (List ℕ) → Type 0
AreUtf8 [] = ⊤
AreUtf8 (word ∷ words) = IsUtf8 word × AreUtf8 words

abbrev pub end_of : Walk → List (List ℕ) → Walk
end_of w words = fold (walked rules []) w words

-- ---- where the walk is doomed it fails

abbrev pub Fails : Walk → List (List ℕ) → Type 0
Fails w words = walk_fault shape [] w words ≡ [] → settle_fault rules false (end_of w words).held ≡ [] → ⊥

pub first_of_two : (a b : Kinds) → or_else a b ≡ [] → a ≡ []
first_of_two [] b none = refl
first_of_two (k ∷ ks) b none = absurd (cc none)

pub second_of_two : (a b : Kinds) → or_else a b ≡ [] → b ≡ []
second_of_two [] b none = none
second_of_two (k ∷ ks) b none = absurd (cc none)

doomed_end : (w : Walk) → Doomed w → Fails w []
doomed_end _ (Doomed.doomed rows pending waiting trailing gets fails) none settles = fails settles

fails_by_turn : (w : Walk) (word : List ℕ) (words : List (List ℕ)) → (turn_fault shape [] w word ≡ [] → ⊥) → Fails w (word ∷ words)
unfolding walk_fault
fails_by_turn w word words fails none settles = fails (first_of_two _ _ none)

fails_later : (w after : Walk) (word : List ℕ) (words : List (List ℕ)) → walked rules [] w word ≡ after → Fails after words → Fails w (word ∷ words)
unfolding walk_fault
fails_later w after word words is fails none settles =
    fails (subst (λ (x : Walk). walk_fault shape [] x words ≡ []) is (second_of_two _ _ none)) (subst (λ (x : Walk). settle_fault rules false (end_of x words).held ≡ []) is settles)

pub doomed_fails : (words : List (List ℕ)) (w : Walk) → AreUtf8 words → Doomed w → Fails w words
doomed_fails [] w text doom = doomed_end w doom
doomed_fails (word ∷ words) w text doom = by (doomed_turn w word doom (looks word text.0)) (λ after later. doomed_fails words after text.1 later)
  where
    by : DoomedTurn w word → ((after : Walk) → Doomed after → Fails after words) → Fails w (word ∷ words)
    by (DoomedTurn.stays after is later) rest = fails_later w after word words is (rest after later)
    by (DoomedTurn.ends fails) rest = fails_by_turn w word words fails

-- ---- what is bad stays so

stays_bad_as : (o : Option (List ℕ)) (g : Given) (v : List ℕ) → IsBadValue g.siphons ⊎ IsBadValue g.monitors → o ≡ g.siphons → IsBad (with_siphons o g v)
stays_bad_as (Some before) g v bad e = tt
stays_bad_as None g v bad e = inr (⊎_elim (λ b. absurd (subst IsBadValue (sym e) b)) (λ b. b) bad)

stays_bad_by : (o : Option (List ℕ)) (g : Given) (v : List ℕ) → IsBadValue g.siphons ⊎ IsBadValue g.monitors → o ≡ g.monitors → IsBad (with_monitors o g v)
stays_bad_by (Some before) g v bad e = tt
stays_bad_by None g v bad e = inl (⊎_elim (λ b. b) (λ b. absurd (subst IsBadValue (sym e) b)) bad)

bad_choice : (a b c d : Bool) (g : Given) (word : List ℕ) → IsBadValue g.siphons ⊎ IsBadValue g.monitors
    → IsBad (if a then Some (record g { next = Next.siphons }) else if b then Some (record g { next = Next.monitors })
    else if c then with_siphons g.siphons g (drop 10 word) else if d then with_monitors g.monitors g (drop 11 word) else None)
bad_choice true b c d g word bad = bad
bad_choice false true c d g word bad = bad
bad_choice false false true d g word bad = stays_bad_as g.siphons g (drop 10 word) bad refl
bad_choice false false false true g word bad = stays_bad_by g.monitors g (drop 11 word) bad refl
bad_choice false false false false g word bad = tt

bad_option : (g : Given) (word : List ℕ) → IsBadValue g.siphons ⊎ IsBadValue g.monitors → IsBad (option_given g word)
bad_option g word bad =
    bad_choice (bytes_eq word (codes "--siphons")) (bytes_eq word (codes "--monitors")) (begins word (codes "--siphons=")) (begins word (codes "--monitors=")) g word bad

bad_word : (a b : Bool) (g : Given) (word : List ℕ) → IsBadValue g.siphons ⊎ IsBadValue g.monitors
    → IsBad (if a then Some (record g { next = Next.other }) else if b then Some (with_file g word) else option_given g word)
bad_word true b g word bad = bad
bad_word false true g word bad = bad
bad_word false false g word bad = bad_option g word bad

bad_as : (n : Next) (g : Given) (word : List ℕ) → IsBadValue g.siphons ⊎ IsBadValue g.monitors → IsBad (given_as n g word)
bad_as Next.any g word bad = bad_word (bytes_eq word (codes "--")) (is_other word) g word bad
bad_as Next.siphons g word bad = stays_bad_as g.siphons g word bad refl
bad_as Next.monitors g word bad = stays_bad_by g.monitors g word bad refl
bad_as Next.other g word bad = bad

bad_end : (b : Bool) (g : Given) → IsBadValue g.siphons ⊎ IsBadValue g.monitors → IsBad (if b then Some g else None)
bad_end true g bad = bad
bad_end false g bad = tt

bad_then_by : (words : List (List ℕ)) (o : Option Given) → IsBad o → ((g : Given) → IsBadValue g.siphons ⊎ IsBadValue g.monitors → IsBad (given_behind g words))
    → IsBad (option_and_then (λ more. given_behind more words) o)
bad_then_by words None bad rest = tt
bad_then_by words (Some g) bad rest = rest g bad

bad_behind : (words : List (List ℕ)) (g : Given) → IsBadValue g.siphons ⊎ IsBadValue g.monitors → IsBad (given_behind g words)
bad_behind [] g bad = bad_end (complete g.next) g bad
bad_behind (word ∷ words) g bad = bad_then_by words (given_as g.next g word) (bad_as g.next g word bad) (λ more b. bad_behind words more b)

pub bad_then : (words : List (List ℕ)) (o : Option Given) → IsBad o → IsBad (option_and_then (λ more. given_behind more words) o)
bad_then words o bad = bad_then_by words o bad (bad_behind words)

-- ---- the walk and what is given, side by side

-- the words are taken by clap, whose rows show what they give; or they fail, and no command takes what they give
pub data Outcome (w : Walk) (words : List (List ℕ)) (o : Option Given) : Type 0 where
  taken : (g : Given) → walk_fault shape [] w words ≡ [] → settle_fault rules false (end_of w words).held ≡ []
      → Shows (settled_rows rules (end_of w words).held.pending (end_of w words).held.rows) g → o ≡ Some g → Outcome w words o
  refused : Fails w words → IsBad o → Outcome w words o

unfolded : (w after : Walk) (word : List ℕ) (words : List (List ℕ)) → turn_fault shape [] w word ≡ [] → walked rules [] w word ≡ after → walk_fault shape [] after words ≡ []
    → walk_fault shape [] w (word ∷ words) ≡ []
unfolding walk_fault
unfolded w after word words turn is rest =
    ap (λ (k : Kinds). or_else k (walk_fault shape [] (walked rules [] w word) words)) turn ∙ subst (λ (x : Walk). walk_fault shape [] x words ≡ []) (sym is) rest

-- one word more in front
one_more : (w after : Walk) (g more : Given) (word : List ℕ) (words : List (List ℕ)) → turn_fault shape [] w word ≡ [] → walked rules [] w word ≡ after → given_as g.next g word ≡ Some more
    → Outcome after words (given_behind more words) → Outcome w (word ∷ words) (given_behind g (word ∷ words))
one_more w after g more word words turn is given (Outcome.taken found walks settles shows got) =
    Outcome.taken found (unfolded w after word words turn is walks)
    (subst (λ (x : Walk). settle_fault rules false (end_of x words).held ≡ []) (sym is) settles)
    (subst (λ (x : Walk). Shows (settled_rows rules (end_of x words).held.pending (end_of x words).held.rows) found) (sym is) shows)
    (ap (λ (o : Option Given). option_and_then (λ m. given_behind m words) o) given ∙ got)
one_more w after g more word words turn is given (Outcome.refused fails bad) =
    Outcome.refused (fails_later w after word words is fails) (subst IsBad (sym (ap (λ (o : Option Given). option_and_then (λ m. given_behind m words) o) given)) bad)

turn_of : (w : Walk) (g : Given) → State w g → (word : List ℕ) → IsUtf8 word → Turn w g word
turn_of _ g (State.free rows pending waiting _ free settles shows next) word text = free_turn rows pending waiting g free settles shows next word (looks word text)
turn_of _ g (State.trails rows pending waiting _ settles shows next) word text = trails_turn rows pending waiting g settles shows next word
turn_of _ g (State.waits which rows _ shows next) word text = waits_turn which rows g shows next word (looks word text)

at_end : (w : Walk) (g : Given) → State w g → Outcome w [] (given_behind g [])
unfolding walk_fault
at_end _ g (State.free rows pending waiting _ free settles shows next) = Outcome.taken g refl settles shows (ap (λ (n : Next). if complete n then Some g else None) next)
at_end _ g (State.trails rows pending waiting _ settles shows next) = Outcome.taken g refl settles shows (ap (λ (n : Next). if complete n then Some g else None) next)
at_end _ g (State.waits which rows _ shows next) =
    Outcome.refused (λ none settles. waits_fault which rows settles) (subst IsBad (sym (ap (λ (n : Next). if complete n then Some g else None) next ∙ incomplete which)) tt)
  where
    incomplete : (u : Which) → (if complete (next_for u) then Some g else None) ≡ None
    incomplete Which.siphons = refl
    incomplete Which.monitors = refl

pub outcome : (words : List (List ℕ)) → AreUtf8 words → (w : Walk) (g : Given) → State w g → Outcome w words (given_behind g words)
outcome [] text w g state = at_end w g state
outcome (word ∷ words) text w g state = by (turn_of w g state word text.0) (λ after more s. outcome words text.1 after more s)
  where
    by : Turn w g word → ((after : Walk) (more : Given) → State after more → Outcome after words (given_behind more words)) → Outcome w (word ∷ words) (given_behind g (word ∷ words))
    by (Turn.goes after more turn is given s) rest = one_more w after g more word words turn is given (rest after more s)
    by (Turn.dooms after turn is doom bad) rest = Outcome.refused (fails_later w after word words is (doomed_fails words after text.1 doom)) (bad_then words (given_as g.next g word) bad)
    by (Turn.fails fails bad) rest = Outcome.refused (fails_by_turn w word words fails) (bad_then words (given_as g.next g word) bad)
