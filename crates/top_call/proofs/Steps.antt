-- One file more, or the end of fetching.
use Rattle.std.proofs.Common.{◌≡◌, ◌<◌, ◌≤◌, ◌+◌, ◌^◌, ℕ, zero, suc, List, [], ◌∷◌, ◌++◌, length, take, drop, get_or, Vec, Some, None, Ok, Err, refl, sym, ap, subst, ◌∙◌, inl, inr, append_assoc, add-one, drop-cons, arith}
use Rattle.std.specs.Prelude.{Result, Option, String, string_bytes, IfSome, IfOk, IsErrOf, option_map}
use Rattle.std.specs.declared.alloc.Global.{Global}
use Rattle.std.proofs.Math.Seq.{take-suc}
use Rattle.std.proofs.lemmas.List.{length-append, get_or-map, length-map, map-append, drop_all}
use Rattle.std.proofs.lemmas.Bool.{cases_lt, lt-ltb, le-ltb}
use Rattle.command_words.specs.declared.command.Command.{Command}
use Rattle.command_words.specs.Tasks.{texts, limit_of}
use Rattle.answers.specs.Commands.{at, contents_of}
use Rattle.gd_host.specs.Outside.{Files, Seen, Rose, HoldsFile, IsLong, Asks}
use Rattle.gd_host.specs.declared.host.FetchError.{FetchError}
use Rattle.gd_host.specs.declared.host.FetchError.TheVariants.{Failed, TooLong, Memory}
use Rattle.top_call.specs.Answers.{Fetched, fetched}
use Rattle.top_call.specs.Fetching.{Reads, IsWithin, AsksInOrder, OnlyReads, IsStopped, HasRead}

-- what one fetch promises
pub record Fetches (now then : Seen) (name : List ℕ) (limit : ℕ) (result : Result (Vec ℕ Global) FetchError) : Type 0 where
  pub whole : IfSome now.files (λ files. IfOk result (λ bytes. HoldsFile files name bytes.items))
  pub too_long : IfSome now.files (λ files. IsErrOf result TooLong → IsLong files name limit)
  pub failed : IsErrOf result Failed → Rose now.read_faults then.read_faults
  pub asked : Asks now.asked then.asked name result
  pub only_reads : OnlyReads now then

pub reads_on : (a b c : Seen) → OnlyReads a b → OnlyReads b c → OnlyReads a c
reads_on a b c ab bc = record {
  files = bc.files ∙ ab.files;
  out = bc.out ∙ ab.out;
  err = bc.err ∙ ab.err;
  write_faults = bc.write_faults ∙ ab.write_faults;
  lost = bc.lost ∙ ab.lost;
  read_faults = omega (arith, ab.read_faults, bc.read_faults);
}

pub asks_more : (names : List (List ℕ)) (place : ℕ) (old now then : Option (List (List ℕ))) → place < length names
    → now ≡ option_map (λ asked. asked ++ take place names) old → then ≡ option_map (λ asked. asked ++ at names place ∷ []) now
    → then ≡ option_map (λ asked. asked ++ take (place + 1) names) old
asks_more names place None now then inside first second = second ∙ rw first refl
asks_more names place (Some old) now then inside first second = second ∙ rw (first, add-one place, take-suc names place [] inside, append_assoc old (take place names) (at names place ∷ [])) refl

pub one_more : (files : Files) (limit : ℕ → ℕ) (read names : List (List ℕ)) (name bytes : List ℕ)
    → HoldsFile files name bytes → length bytes ≤ limit (length read)
    → fetched files limit read (name ∷ names) ≡ fetched files limit (read ++ bytes ∷ []) names
one_more files limit read names name bytes held fits = rw (held, le-ltb (limit (length read)) (length bytes) fits) refl

one_long : (files : Files) (limit : ℕ → ℕ) (read names : List (List ℕ)) (name bytes : List ℕ)
    → HoldsFile files name bytes → limit (length read) < length bytes
    → fetched files limit read (name ∷ names) ≡ Fetched.long name (limit (length read))
one_long files limit read names name bytes held long = rw (held, lt-ltb (limit (length read)) (length bytes) long) refl

short_more : (n : ℕ) (read : List (List ℕ)) (bytes : List ℕ) → 0 < n → ((k : ℕ) → length (at read k) < n) → length bytes < n
    → (k : ℕ) → length (at (read ++ bytes ∷ []) k) < n
short_more n [] bytes positive all small zero = small
short_more n [] bytes positive all small (suc k) = positive
short_more n (first ∷ read) bytes positive all small zero = all 0
short_more n (first ∷ read) bytes positive all small (suc k) = short_more n read bytes positive (λ j. all (suc j)) small k

fits_more : (limit : ℕ → ℕ) (read : List (List ℕ)) (bytes : List ℕ) → ((k : ℕ) → k < length read → length (at read k) ≤ limit k)
    → length bytes ≤ limit (length read) → (k : ℕ) → k < length read + 1 → length (at (read ++ bytes ∷ []) k) ≤ limit k
fits_more limit [] bytes all fits zero below = fits
fits_more limit [] bytes all fits (suc k) below = absurd (omega (arith, below))
fits_more limit (first ∷ read) bytes all fits zero below = all 0 (omega arith)
fits_more limit (first ∷ read) bytes all fits (suc k) below =
    fits_more (λ j. limit (suc j)) read bytes (λ j less. all (suc j) (omega (arith, less))) fits k (omega (arith, below))

-- the files of the first names are within their limits, and so is the next one
within_more : (files : Files) (limit : ℕ → ℕ) (names : List (List ℕ)) (place : ℕ) → ((k : ℕ) → k < place → IsWithin files limit names k)
    → IsWithin files limit names place → (k : ℕ) → k < place + 1 → IsWithin files limit names k
within_more files limit names place before this k below = elim (cases_lt k place) [
  | inl less ↦ before k less
  | inr least ↦ let same : place ≡ k = omega (arith, least, below) in subst (λ j. IsWithin files limit names j) same this
]

reaches_step : (files : Files) (limit : ℕ → ℕ) (read names : List (List ℕ)) (bytes : List ℕ)
    → length read < length names → HoldsFile files (at names (length read)) bytes → length bytes ≤ limit (length read)
    → fetched files limit read (drop (length read) names) ≡ fetched files limit (read ++ bytes ∷ []) (drop (length (read ++ bytes ∷ [])) names)
reaches_step files limit read names bytes inside held fits =
    rw (drop-cons names (length read) [] inside, length-append read (bytes ∷ []), add-one (length read))
    (one_more files limit read (drop (suc (length read)) names) (at names (length read)) bytes held fits)

long_step : (files : Files) (limit : ℕ → ℕ) (read names : List (List ℕ)) (bytes : List ℕ)
    → length read < length names → HoldsFile files (at names (length read)) bytes → limit (length read) < length bytes
    → fetched files limit read (drop (length read) names) ≡ Fetched.long (at names (length read)) (limit (length read))
long_step files limit read names bytes inside held long =
    rw (drop-cons names (length read) [] inside)
    (one_long files limit read (drop (suc (length read)) names) (at names (length read)) bytes held long)

-- one more is read
pub reads_more : (limit : ℕ → ℕ) (names : List (List ℕ)) (old now then : Seen) (read : List (List ℕ)) (bytes : Vec ℕ Global)
    → HasRead limit names old now read (length read) → length read < length names → length bytes.items ≤ limit (length read) → limit (length read) < 2 ^ 31
    → Fetches now then (at names (length read)) (limit (length read)) (Ok bytes)
    → HasRead limit names old then (read ++ bytes.items ∷ []) (length read + 1)
reads_more limit names old now then read bytes has inside fits small fetch =
    let held : (files : Files) → old.files ≡ Some files → HoldsFile files (at names (length read)) bytes.items =
    λ files told. subst (λ f. IfSome f (λ fs. HoldsFile fs (at names (length read)) bytes.items)) (has.only_reads.files ∙ told) fetch.whole in
    record {
      count = length-append read (bytes.items ∷ []);
      fits = fits_more limit read bytes.items has.fits fits;
      reaches = λ files told. has.reaches files told ∙ reaches_step files limit read names bytes.items inside (held files told) fits;
      within = λ files told. within_more files limit names (length read) (has.within files told)
          (record { bytes = bytes.items; held = held files told; fits = fits });
      short = short_more (2 ^ 31) read bytes.items (omega arith) has.short (omega (arith, fits, small));
      asked = asks_more names (length read) old.asked now.asked then.asked inside has.asked fetch.asked;
      only_reads = reads_on old now then has.only_reads fetch.only_reads;
    }

rose_on : (a b c : ℕ) → a ≤ b → Rose b c → Rose a c
rose_on a b c le rose = omega (arith, le, rose)

-- the next one can't be read, or is too long
pub stops : (limit : ℕ → ℕ) (names : List (List ℕ)) (old now then : Seen) (read : List (List ℕ)) (why : FetchError)
    → HasRead limit names old now read (length read) → length read < length names → Fetches now then (at names (length read)) (limit (length read)) (Err why)
    → IsStopped limit names (length read) why old then
stops limit names old now then read why has inside fetch = record {
  inside = inside;
  unread = λ failed. record {
    inside = inside;
    rose = rose_on old.read_faults now.read_faults then.read_faults has.only_reads.read_faults (fetch.failed (ap (λ w. Err w) failed));
    last = asks_more names (length read) old.asked now.asked then.asked inside has.asked
        (subst (λ w. Asks now.asked then.asked (at names (length read)) (Err w)) failed fetch.asked);
  };
  long = λ too_long files told.
      let is : IsLong files (at names (length read)) (limit (length read)) =
      subst (λ f. IfSome f (λ fs. IsErrOf {T = Vec ℕ Global} (Err why) TooLong → IsLong fs (at names (length read)) (limit (length read)))) (has.only_reads.files ∙ told)
      fetch.too_long (ap (λ w. Err w) too_long) in
      has.reaches files told ∙ long_step files limit read names is.bytes inside is.held is.longer;
}

-- the names that were asked for where fetching stops
pub asks_next : (limit : ℕ → ℕ) (names : List (List ℕ)) (old now then : Seen) (read : List (List ℕ))
    → HasRead limit names old now read (length read) → length read < length names
    → then.asked ≡ option_map (λ asked. asked ++ at names (length read) ∷ []) now.asked
    → AsksInOrder limit names old then
asks_next limit names old now then read has inside asked = record {
  count = length read + 1;
  named = asks_more names (length read) old.asked now.asked then.asked inside has.asked asked;
  within = λ files told k below. has.within files told k (omega (arith, below));
}

pub asks_stop : (limit : ℕ → ℕ) (names : List (List ℕ)) (old now then : Seen) (read : List (List ℕ)) (why : FetchError)
    → HasRead limit names old now read (length read) → length read < length names
    → Asks now.asked then.asked (at names (length read)) (Err why)
    → AsksInOrder limit names old then
asks_stop limit names old now then read Failed has inside asked = asks_next limit names old now then read has inside asked
asks_stop limit names old now then read TooLong has inside asked = asks_next limit names old now then read has inside asked
asks_stop limit names old now then read Memory has inside (inl asked) = asks_next limit names old now then read has inside asked
asks_stop limit names old now then read Memory has inside (inr asked) = record {
  count = length read;
  named = asked ∙ has.asked;
  within = λ files told k below. has.within files told k (omega (arith, below));
}

-- a fetch under the names of the specification
moved : (now then : Seen) (text name : List ℕ) (limit most : ℕ) (result shown : Result (Vec ℕ Global) FetchError)
    → text ≡ name → limit ≡ most → result ≡ shown → Fetches now then text limit result → Fetches now then name most shown
moved now then text name limit most result shown name_is limit_is result_is fetch =
    subst (λ n. Fetches now then n most shown) name_is
    (subst (λ m. Fetches now then text m shown) limit_is (subst (λ r. Fetches now then text limit r) result_is fetch))

pub name_is : (names : List (String Global)) (place : ℕ) (item : String Global) (text : List ℕ) → place < length names
    → item ≡ get_or names place item → text ≡ string_bytes item → text ≡ at (texts names) place
name_is names place item text inside item_is text_is = text_is ∙ ap string_bytes item_is ∙ sym (get_or-map string_bytes names place item [] inside)

pub place_is : (files : List (Vec ℕ Global)) (place : ℕ) → place ≡ length files → place ≡ length (contents_of files)
place_is files place is = is ∙ sym (length-map files (λ file. file.items))

pub inside_texts : (names : List (String Global)) (place index : ℕ) → place ≡ index → index < length names → place < length (texts names)
inside_texts names place index same inside = rw (same, length-map names string_bytes) inside

-- what the code knows of a fetch of the next name, as one fact
pub next_fetch : (task : Command) (names : List (String Global)) (files : List (Vec ℕ Global)) (now then : Seen) (index place limit : ℕ)
    (item : String Global) (text : List ℕ) (result shown : Result (Vec ℕ Global) FetchError)
    → length (contents_of files) ≡ index → index < length names → item ≡ get_or names index item → text ≡ string_bytes item
    → place ≡ length files → limit ≡ limit_of task place → result ≡ shown → Fetches now then text limit result
    → Fetches now then (at (texts names) (length (contents_of files))) (limit_of task (length (contents_of files))) shown
next_fetch task names files now then index place limit item text result shown count inside item_is text_is placed limit_is result_is fetch =
    moved now then text _ limit _ result shown
    (name_is names index item text inside item_is text_is ∙ ap (λ i. at (texts names) i) (sym count))
    (limit_is ∙ ap (λ i. limit_of task i) (place_is files place placed)) result_is fetch

-- the place is the number of the files that were read
pub at_count : (limit : ℕ → ℕ) (names : List (List ℕ)) (old now : Seen) (read : List (List ℕ)) (place : ℕ)
    → HasRead limit names old now read place → HasRead limit names old now read (length read)
at_count limit names old now read place has = rw (has.count) has

pub reads_pushed : (limit : ℕ → ℕ) (names : List (List ℕ)) (old then : Seen) (files more : List (Vec ℕ Global)) (bytes : Vec ℕ Global) (index : ℕ)
    → more ≡ files ++ bytes ∷ [] → length (contents_of files) ≡ index
    → HasRead limit names old then (contents_of files ++ bytes.items ∷ []) (length (contents_of files) + 1)
    → HasRead limit names old then (contents_of more) (index + 1)
reads_pushed limit names old then files more bytes index pushed count has =
    subst (λ i. HasRead limit names old then (contents_of more) (i + 1)) count
    (subst (λ r. HasRead limit names old then r (length (contents_of files) + 1)) (sym (ap contents_of pushed ∙ map-append (λ file. file.items) files (bytes ∷ []))) has)

pub fits_at : (task : Command) (size limit place : ℕ) (files : List (Vec ℕ Global)) → place ≡ length files → limit ≡ limit_of task place
    → size ≤ limit → size ≤ limit_of task (length (contents_of files))
fits_at task size limit place files placed limit_is fits = subst (λ n. size ≤ n) (limit_is ∙ ap (λ i. limit_of task i) (place_is files place placed)) fits

pub small_at : (task : Command) (limit place : ℕ) (files : List (Vec ℕ Global)) → place ≡ length files → limit ≡ limit_of task place
    → limit < 2 ^ 31 → limit_of task (length (contents_of files)) < 2 ^ 31
small_at task limit place files placed limit_is small = subst (λ n. n < 2 ^ 31) (limit_is ∙ ap (λ i. limit_of task i) (place_is files place placed)) small

-- all files are read
pub all_read : (limit : ℕ → ℕ) (names : List (List ℕ)) (old now : Seen) (read : List (List ℕ)) (place : ℕ) → HasRead limit names old now read place → place ≡ length names
    → Reads old.files limit names read
all_read limit names old now read place has whole = record {
  each = has.count ∙ whole;
  within = λ k below. has.fits k (omega (arith, below, whole));
  of_files = λ files told. has.reaches files told ∙ ap (λ left. fetched files limit read left) (drop_all (length read) names (omega (arith, has.count, whole)));
}
