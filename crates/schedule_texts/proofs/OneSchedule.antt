-- A text is one schedule, or wrong in one way.
use Rattle.std.proofs.Common.{◌≡◌, ◌≢◌, ℕ, zero, suc, ◌<◌, ◌≤◌, false, cond, List, [], ◌∷◌, ◌++◌, length, get_or, take, drop, refl, sym, ap, ◌∙◌, subst, ⊎_elim, arith, Ok, Err, Result}
use Rattle.std.specs.Prelude.{not}
use Rattle.std.proofs.Math.Seq.{split_at}
use Rattle.std.proofs.lemmas.Bool.{cases_lt}
use Rattle.std.proofs.lemmas.Fmt.{decimal_injective}
use Rattle.std.proofs.lemmas.List.{length-append, length-take, take-append-drop, take_all, get_or-take}
use Rattle.std.proofs.lemmas.Grind.{common_steps}
use Rattle.std.proofs.lemmas.List.Elements.{filter-append}
use Rattle.c_meaning.specs.declared.Event.{Event}
use Rattle.c_meaning.specs.declared.EventKind.{EventKind}
use Rattle.c_meaning.specs.declared.EventKind.TheVariants.{Go, Choose, Wake}
use Rattle.schedule_texts.specs.declared.schedule.ScheduleError.{ScheduleError}
use Rattle.schedule_texts.specs.declared.schedule.ScheduleError.TheVariants.{BadEvent, TooLong, Memory}
use Rattle.schedule_texts.specs.Events.{Spells, IsOfThreads, kind_words}
use Rattle.schedule_texts.specs.Schedules.{EachSpells, Say, IsBad, IsBadAt, IsTooLong, IsSchedule, Answers, is_silent, said, lines_of}

-- words say one thing that happens to a thread
one_kind : (k j : EventKind) → IsOfThreads k → IsOfThreads j → kind_words k ≡ kind_words j → k ≡ j
one_kind Go Go a b e = refl
one_kind Go (Choose u) a b e = absurd (omega (arith, ap length e))
one_kind Go Wake a b e = absurd (omega (arith, ap (λ ws. length (get_or ws 0 [])) e))
one_kind (Choose u) Go a b e = absurd (omega (arith, ap length e))
one_kind (Choose u) (Choose v) a b e = ap Choose (decimal_injective u v (omega (arith, a)) (omega (arith, b)) (ap (λ ws. get_or ws 1 []) e))
one_kind (Choose u) Wake a b e = absurd (omega (arith, ap length e))
one_kind Wake Go a b e = absurd (omega (arith, ap (λ ws. length (get_or ws 0 [])) e))
one_kind Wake (Choose v) a b e = absurd (omega (arith, ap length e))
one_kind Wake Wake a b e = refl

event_is : (e f : Event) → e.thread ≡ f.thread → e.kind ≡ f.kind → e ≡ f
event_is e f thread kind =
    let made : ℕ → EventKind → Event = λ t k. record { thread = t; kind = k } in
    ap (λ t. made t e.kind) thread ∙ ap (made f.thread) kind

-- a line spells one event
one_event : (line : List ℕ) (e f : Event) → Spells line e → Spells line f → e ≡ f
one_event line e f a b =
    let same = sym a.0 ∙ b.0 in
    event_is e f (decimal_injective e.thread f.thread (omega (arith, a.1.0)) (omega (arith, b.1.0)) (ap (λ ws. get_or ws 0 []) same)) (one_kind e.kind f.kind a.1.1 b.1.1 (ap (drop 1) same))

each_one : (lines : List (List ℕ)) (es fs : List Event) → EachSpells lines es → EachSpells lines fs → es ≡ fs
each_one [] [] [] a b = refl
each_one [] (e ∷ es) fs a b = absurd a
each_one [] [] (f ∷ fs) a b = absurd b
each_one (l ∷ lines) [] fs a b = absurd a
each_one (l ∷ lines) (e ∷ es) [] a b = absurd b
each_one (l ∷ lines) (e ∷ es) (f ∷ fs) a b = cc (one_event l e f a.0 b.0, each_one lines es fs a.1 b.1)

each_length : (lines : List (List ℕ)) (es : List Event) → EachSpells lines es → length lines ≡ length es
each_length [] [] a = refl
each_length [] (e ∷ es) a = absurd a
each_length (l ∷ lines) [] a = absurd a
each_length (l ∷ lines) (e ∷ es) a = ap suc (each_length lines es a.1)

-- a line among others spells an event
each_at : (before : List (List ℕ)) (line : List ℕ) (behind : List (List ℕ)) (es : List Event) → EachSpells (before ++ line ∷ behind) es → (e : Event) × Spells line e
each_at [] line behind [] a = absurd a
each_at [] line behind (e ∷ es) a = (e, a.0)
each_at (l ∷ before) line behind [] a = absurd a
each_at (l ∷ before) line behind (e ∷ es) a = each_at before line behind es a.1

-- where lines say events, none of them is bad
none_bad : (lines : List (List ℕ)) (n k : ℕ) (es : List Event) → Say (take n lines) es → k < n → k < length lines → IsBad (get_or lines k []) → ⊥
none_bad lines n k es say low within bad =
    let xs = take n lines in
    let here = get_or xs k [] in
    let is : here ≡ get_or lines k [] = get_or-take n lines k [] low in
    let says : is_silent here ≡ false = ap is_silent is ∙ bad.says in
    let kept : said (here ∷ drop (suc k) xs) ≡ here ∷ said (drop (suc k) xs) = ap (λ b. cond (not b) (here ∷ said (drop (suc k) xs)) (said (drop (suc k) xs))) says in
    let inside : k < length xs = omega (arith, length-take n lines, low, within) in
    let cut : said xs ≡ said (take k xs) ++ here ∷ said (drop (suc k) xs) = ap said (split_at xs k [] inside) ∙ filter-append (λ l. not (is_silent l)) (take k xs) (here ∷ drop (suc k) xs) ∙ ap (λ ws. said (take k xs) ++ ws) kept in
    let found = each_at (said (take k xs)) here (said (drop (suc k) xs)) es (subst (λ ls. EachSpells ls es) cut say) in
    bad.none found.0 (subst (λ l. Spells l found.0) is found.1)

take_of_take : (lines : List (List ℕ)) (k n : ℕ) → k ≤ n → take k (take n lines) ≡ take k lines
take_of_take [] k n low = grind (arith, common_steps)
take_of_take (l ∷ lines) zero n low = refl
take_of_take (l ∷ lines) (suc k) zero low = absurd (omega (arith, low))
take_of_take (l ∷ lines) (suc k) (suc n) low = ap (λ ls. l ∷ ls) (take_of_take lines k n (omega (arith, low)))

-- more lines say no fewer events
no_fewer : (lines : List (List ℕ)) (k n : ℕ) (es fs : List Event) → Say (take k lines) es → Say (take n lines) fs → k ≤ n → length es ≤ length fs
no_fewer lines k n es fs a b low =
    let cut : take n lines ≡ take k lines ++ drop k (take n lines) = sym (take-append-drop k (take n lines)) ∙ ap (λ xs. xs ++ drop k (take n lines)) (take_of_take lines k n low) in
    let lengths = ap length (ap said cut ∙ filter-append (λ l. not (is_silent l)) (take k lines) (drop k (take n lines))) ∙ length-append (said (take k lines)) (said (drop k (take n lines))) in
    omega (arith, lengths, each_length (said (take k lines)) es a, each_length (said (take n lines)) fs b)

-- all lines say the events of a schedule
whole : (text : List ℕ) (es : List Event) → IsSchedule text es → Say (take (length (lines_of text)) (lines_of text)) es
whole text es is = subst (λ ls. Say ls es) (sym (take_all (length (lines_of text)) (lines_of text) (omega arith))) is.say

-- of two bad lines neither is before the other
first_bad : (text : List ℕ) (m n : ℕ) (a : IsBadAt text m) (b : IsBadAt text n) → a.place < b.place → ⊥
first_bad text m n a b low = none_bad (lines_of text) b.place a.place b.events b.say low a.within a.is_bad

same_bad : (text : List ℕ) (m n : ℕ) → IsBadAt text m → IsBadAt text n → m ≡ n
same_bad text m n a b = ⊎_elim (λ low. absurd (first_bad text m n a b low)) (λ high. ⊎_elim (λ low. absurd (first_bad text n m b a low)) (λ other. omega (arith, a.number, b.number, high, other)) (cases_lt b.place a.place)) (cases_lt a.place b.place)

long_not_bad : (text : List ℕ) (m : ℕ) → IsTooLong text → IsBadAt text m → ⊥
long_not_bad text m a b = ⊎_elim
    (λ low. none_bad (lines_of text) a.place b.place a.events a.say low b.within b.is_bad)
    (λ high. omega (arith, no_fewer (lines_of text) a.place b.place a.events b.events a.say b.say high, a.many, b.few))
    (cases_lt b.place a.place)

schedule_not_bad : (text : List ℕ) (es : List Event) (m : ℕ) → IsSchedule text es → IsBadAt text m → ⊥
schedule_not_bad text es m a b = none_bad (lines_of text) (length (lines_of text)) b.place es (whole text es a) b.within b.within b.is_bad

schedule_not_long : (text : List ℕ) (es : List Event) → IsSchedule text es → IsTooLong text → ⊥
schedule_not_long text es a b = ⊎_elim
    (λ low. omega (arith, no_fewer (lines_of text) b.place (length (lines_of text)) b.events es b.say (whole text es a) (omega (arith, low)), b.many, a.few))
    (λ high. omega (arith, no_fewer (lines_of text) (length (lines_of text)) b.place es b.events (whole text es a) b.say high, ap length (each_one (said (lines_of text)) b.events es (subst (λ ls. Say ls b.events) (take_all b.place (lines_of text) high) b.say) a.say), b.many, a.few))
    (cases_lt b.place (length (lines_of text)))

-- an answer is the only one, want of memory apart
pub one_answer : (text : List ℕ) (r q : Result (List Event) ScheduleError) → Answers text r → Answers text q → r ≢ Err Memory → q ≢ Err Memory → r ≡ q
one_answer text (Ok es) (Ok fs) a b r q = ap Ok (each_one (said (lines_of text)) es fs a.say b.say)
one_answer text (Ok es) (Err (BadEvent n)) a b r q = absurd (schedule_not_bad text es n a b)
one_answer text (Ok es) (Err TooLong) a b r q = absurd (schedule_not_long text es a b)
one_answer text (Ok es) (Err Memory) a b r q = absurd (q refl)
one_answer text (Err (BadEvent m)) (Ok fs) a b r q = absurd (schedule_not_bad text fs m b a)
one_answer text (Err (BadEvent m)) (Err (BadEvent n)) a b r q = ap (λ line. Err (BadEvent line)) (same_bad text m n a b)
one_answer text (Err (BadEvent m)) (Err TooLong) a b r q = absurd (long_not_bad text m b a)
one_answer text (Err (BadEvent m)) (Err Memory) a b r q = absurd (q refl)
one_answer text (Err TooLong) (Ok fs) a b r q = absurd (schedule_not_long text fs b a)
one_answer text (Err TooLong) (Err (BadEvent n)) a b r q = absurd (long_not_bad text n a b)
one_answer text (Err TooLong) (Err TooLong) a b r q = refl
one_answer text (Err TooLong) (Err Memory) a b r q = absurd (q refl)
one_answer text (Err Memory) other a b r q = absurd (r refl)
