-- Lines that say events, one line more.
use Rattle.std.proofs.Common.{◌≡◌, ℕ, ◌+◌, ◌<◌, ◌≤◌, ◌^◌, true, false, List, [], ◌∷◌, ◌++◌, length, get_or, take, map, sym, ap, ◌∙◌, subst, ⊎_elim, arith}
use Rattle.std.specs.Prelude.{not, cond, ◌==◌}
use Rattle.std.proofs.lemmas.List.Splits.{length-slice_split}
use Rattle.std.proofs.lemmas.List.Sums.{count_by-le-length}
use Rattle.std.proofs.lemmas.List.{append-nil, length-append, length-map, get_or-map}
use Rattle.std.proofs.lemmas.List.Elements.{filter-append}
use Rattle.std.proofs.lemmas.Bool.{cases_lt}
use Rattle.c_meaning.specs.declared.Event.{Event}
use Rattle.schedule_texts.specs.declared.event.Line.{Line}
use Rattle.schedule_texts.specs.declared.event.Line.TheVariants.{Silent, Says, Bad}
use Rattle.schedule_texts.specs.Events.{Spells}
use Rattle.schedule_texts.specs.Schedules.{EachSpells, Say, LineIs, is_silent, said, lines_of, most_events, IsBad, IsBadAt, IsTooLong}
use Rattle.schedule_texts.proofs.Shapes.{next, inside}

EachSpells-more : (lines : List (List ℕ)) (es : List Event) (line : List ℕ) (e : Event) → EachSpells lines es → Spells line e → EachSpells (lines ++ line ∷ []) (es ++ e ∷ [])
EachSpells-more [] [] line e each spells = (spells, tt)
EachSpells-more [] (d ∷ es) line e each spells = absurd each
EachSpells-more (l ∷ lines) [] line e each spells = absurd each
EachSpells-more (l ∷ lines) (d ∷ es) line e each spells = (each.0, EachSpells-more lines es line e each.1 spells)

-- a line more that says nothing
pub Say-silent : (lines : List (List ℕ)) (es : List Event) (line : List ℕ) → Say lines es → is_silent line ≡ true → Say (lines ++ line ∷ []) es
Say-silent lines es line say silent =
    let alone : said (line ∷ []) ≡ [] = ap (λ b. cond (not b) (line ∷ []) []) silent in
    subst (λ xs. EachSpells xs es) (sym (filter-append (λ l. not (is_silent l)) lines (line ∷ []) ∙ ap (λ xs. said lines ++ xs) alone ∙ append-nil (said lines))) say

-- a line more that says an event
pub Say-more : (lines : List (List ℕ)) (es : List Event) (line : List ℕ) (e : Event) → Say lines es → is_silent line ≡ false → Spells line e → Say (lines ++ line ∷ []) (es ++ e ∷ [])
Say-more lines es line e say says spells =
    let alone : said (line ∷ []) ≡ line ∷ [] = ap (λ b. cond (not b) (line ∷ []) []) says in
    subst (λ xs. EachSpells xs (es ++ e ∷ [])) (sym (filter-append (λ l. not (is_silent l)) lines (line ∷ []) ∙ ap (λ xs. said lines ++ xs) alone)) (EachSpells-more (said lines) es line e say spells)

pub next_silent : (lines : List (List ℕ)) (k : ℕ) (es : List Event) → k < length lines → Say (take k lines) es → is_silent (get_or lines k []) ≡ true → Say (take (k + 1) lines) es
next_silent lines k es within say silent = subst (λ xs. Say xs es) (sym (next lines k within)) (Say-silent (take k lines) es (get_or lines k []) say silent)

pub next_event : (lines : List (List ℕ)) (k : ℕ) (es : List Event) (e : Event) → k < length lines → Say (take k lines) es → is_silent (get_or lines k []) ≡ false → Spells (get_or lines k []) e → Say (take (k + 1) lines) (es ++ e ∷ [])
next_event lines k es e within say says spells = subst (λ xs. Say xs (es ++ e ∷ [])) (sym (next lines k within)) (Say-more (take k lines) es (get_or lines k []) e say says spells)

-- one event too many
pub too_long : (text : List ℕ) (k : ℕ) (es : List Event) (e : Event) → k < length (lines_of text) → Say (take k (lines_of text)) es → length es ≡ most_events → is_silent (get_or (lines_of text) k []) ≡ false → Spells (get_or (lines_of text) k []) e → IsTooLong text
too_long text k es e within say full says spells = record {
  place = k + 1;
  events = es ++ e ∷ [];
  say = next_event (lines_of text) k es e within say says spells;
  many = omega (arith, length-append es (e ∷ []), full);
}

-- a text has one line more than line breaks at most
pub lines_fit : (text : List ℕ) → length text < 2 ^ 31 → length (lines_of text) ≤ 2 ^ 31
lines_fit text short = omega (arith, length-slice_split (λ b. b == 10) text, count_by-le-length (λ b. b == 10) text, short)

-- the same of the pieces that a text was cut into, each behind a reference
module _ {A : Type 0} (f : A → List ℕ) (items : List A) (d : A) where
  here : (k : ℕ) (answer : Line) → k < length items → LineIs (f (get_or items k d)) answer → LineIs (get_or (map f items) k []) answer
  here k answer within is = subst (λ line. LineIs line answer) (sym (get_or-map f items k d [] within)) is

  pub silent_at : (k : ℕ) (es : List Event) → k < length items → Say (take k (map f items)) es → LineIs (f (get_or items k d)) Silent → Say (take (k + 1) (map f items)) es
  silent_at k es within say is = next_silent (map f items) k es (inside f items k within) say (here k Silent within is)

  pub says_at : (k : ℕ) (es : List Event) (e : Event) → k < length items → Say (take k (map f items)) es → LineIs (f (get_or items k d)) (Says e) → Say (take (k + 1) (map f items)) (es ++ e ∷ [])
  says_at k es e within say is = let at = here k (Says e) within is in next_event (map f items) k es e (inside f items k within) say at.0 at.1

  pub too_long_at : (text : List ℕ) → map f items ≡ lines_of text → (k : ℕ) (es : List Event) (e : Event) → k < length items → Say (take k (map f items)) es → length es ≡ most_events → LineIs (f (get_or items k d)) (Says e) → IsTooLong text
  too_long_at text are k es e within say full is =
      let at = here k (Says e) within is in
      too_long text k es e (subst (λ xs. k < length xs) are (inside f items k within)) (subst (λ xs. Say (take k xs) es) are say) full (subst (λ xs. is_silent (get_or xs k []) ≡ false) are at.0) (subst (λ xs. Spells (get_or xs k []) e) are at.1)

  pub bad_line_at : (text : List ℕ) → map f items ≡ lines_of text → (k : ℕ) (es : List Event) → k < length items → Say (take k (map f items)) es → length es ≤ most_events → LineIs (f (get_or items k d)) Bad → IsBadAt text (k + 1)
  bad_line_at text are k es within say few is = record {
    place = k;
    within = subst (λ xs. k < length xs) are (inside f items k within);
    number = omega arith;
    is_bad = subst (λ xs. IsBad (get_or xs k [])) are (here k Bad within is);
    events = es;
    say = subst (λ xs. Say (take k xs) es) are say;
    few = few;
  }

  pub places_fit : (text : List ℕ) → map f items ≡ lines_of text → length text < 2 ^ 31 → length items ≤ 2 ^ 31
  places_fit text are short = omega (arith, length-map items f, ap length are, lines_fit text short)

-- one event more where there is room
pub room_for : (es : List Event) (e : Event) → length es ≤ most_events → (length es ≡ most_events → ⊥) → length (es ++ e ∷ []) ≤ most_events
room_for es e few other = ⊎_elim (λ less. omega (arith, length-append es (e ∷ []), less)) (λ same. absurd (other (omega (arith, few, same)))) (cases_lt (length es) most_events)
