-- Each word looks like one of the kinds.
use Rattle.std.proofs.Common.{◌≡◌, ℕ, suc, Bool, true, false, ◌&&◌, ◌||◌, List, [], ◌∷◌, ◌++◌, drop, length, Some, None, Option, refl, sym, ap, subst, ◌∙◌, codes, bytes_eq, arith}
use Rattle.std.specs.Prelude.{◌==◌, IsUtf8, if◌then◌else◌, slice_get, encode_utf8_all}
use Rattle.std.specs.Str.{chars}
use Rattle.std.specs.List.{before_first, after_first}
use Rattle.std.specs.Option.{option_map_or}
use Rattle.std.proofs.lemmas.Bool.{eqb-true}
use Rattle.std.proofs.lemmas.Str.{IsUtf8-past_char, encodes-chars, encode_ascii}
use Rattle.clap.specs.Lexer.{long_of, short_of, has_byte, name_and_value}
use Rattle.clap.specs.Walk.{Held, Row, Rule, Text, arg_by_long}
use Rattle.clap.specs.declared.error.kind.ErrorKind.TheVariants.{UnknownArgument}
use Rattle.clap.specs.Faults.{flag_word_fault, flags_fault, bundle_fault, long_fault}
use Rattle.command_words.specs.Words.{Given, begins, option_given}
use Rattle.command_words.proofs.ClapNames.{no_equals, at_equals, same_bytes, bytes_same, begun}
use Rattle.command_words.proofs.ClapApp.{rules, Which, name_of, Looks}

one_byte : (x : ℕ) (b : Bool) → (x == 45) ≡ b → Looks (x ∷ [])
one_byte x true e = subst (λ (y : ℕ). Looks (y ∷ [])) (sym (eqb-true x 45 e)) (Looks.plain refl refl refl refl)
one_byte x false e = Looks.plain (ap (λ (b : Bool). b && false) e) refl (rw e refl) (rw e refl)

no_dash : (x y : ℕ) (ys : List ℕ) → (x == 45) ≡ false → Looks (x ∷ y ∷ ys)
no_dash x y ys e = Looks.plain (rw e refl) (rw e refl) (rw e refl) (rw e refl)

-- ---- `-abc`

-- the rest of a text behind an ASCII character has a character, where it is not empty
some_char : (y : ℕ) (ys : List ℕ) → IsUtf8 (45 ∷ y ∷ ys) → (c : ℕ) × (slice_get (chars (y ∷ ys)) 0 ≡ Some c)
some_char y ys u =
    by (chars (y ∷ ys)) refl (encodes-chars (y ∷ ys) (IsUtf8-past_char (45 ∷ y ∷ ys) (y ∷ ys) 45 u (sym (ap (λ (zs : List ℕ). zs ++ y ∷ ys) (encode_ascii 45 (omega arith))))))
  where
    by : (cs : List ℕ) → chars (y ∷ ys) ≡ cs → encode_utf8_all cs ≡ y ∷ ys → (c : ℕ) × (slice_get (chars (y ∷ ys)) 0 ≡ Some c)
    by [] e back = absurd (cc back)
    by (c ∷ cs) e back = (c, ap (λ (zs : List ℕ). slice_get zs 0) e)

no_short : (y c : ℕ) (ys : List ℕ) (h : Held) → slice_get (chars (y ∷ ys)) 0 ≡ Some c → flags_fault rules false (suc (length ys)) (y ∷ ys) 0 h ≡ UnknownArgument ∷ []
unfolding flags_fault
no_short y c ys h e = rw e refl

no_long : (y : ℕ) (ys : List ℕ) → (y == 45) ≡ false → long_of (45 ∷ y ∷ ys) ≡ None
no_long y ys e = rw e refl

is_short : (y : ℕ) (ys : List ℕ) → (y == 45) ≡ false → short_of (45 ∷ y ∷ ys) ≡ Some (y ∷ ys)
is_short y ys e = rw e refl

short_fails : (y : ℕ) (ys : List ℕ) → (y == 45) ≡ false → IsUtf8 (45 ∷ y ∷ ys) → (rows : List Row) (pending : Option (Text × List Text))
    → flag_word_fault rules false (long_of (45 ∷ y ∷ ys)) (45 ∷ y ∷ ys) (record { rows = rows; pending = pending; skip = 0 }) ≡ [] → ⊥
short_fails y ys e u rows pending =
    let found = some_char y ys u in
    let h : Held = record { rows = rows; pending = pending; skip = 0 } in
    let fault : flag_word_fault rules false (long_of (45 ∷ y ∷ ys)) (45 ∷ y ∷ ys) h ≡ UnknownArgument ∷ [] =
    ap (λ (l : Option (Text × Option Text)). flag_word_fault rules false l (45 ∷ y ∷ ys) h) (no_long y ys e)
    ∙ ap (λ (s : Option Text). option_map_or (λ flags. bundle_fault rules false flags h) s []) (is_short y ys e)
    ∙ no_short y found.0 ys h found.1 in
    λ none. absurd (cc (sym fault ∙ none))

one_dash : (y : ℕ) (ys : List ℕ) → (y == 45) ≡ false → IsUtf8 (45 ∷ y ∷ ys) → Looks (45 ∷ y ∷ ys)
one_dash y ys e u = Looks.strange (y ∷ ys) refl (rw e refl) refl (λ g. rw e refl) (short_fails y ys e u)

-- ---- `--name` and `--name=value`

abbrev before : List ℕ → List ℕ
before ys = before_first (λ x. x == 61) ys

abbrev after : List ℕ → List ℕ
after ys = after_first (λ x. x == 61) ys

false_if : (b : Bool) → (b ≡ true → ⊥) → b ≡ false
false_if true none = absurd (none refl)
false_if false none = refl

not_both : (b : Bool) → b ≡ true → b ≡ false → ⊥
not_both true on off = cc off
not_both false on off = cc on

-- a known name
known : (which : Which) (ys : List ℕ) → before ys ≡ name_of which → (b : Bool) → has_byte 61 ys ≡ b → Looks (45 ∷ 45 ∷ ys)
known which ys is false e = Looks.flag which (ap (λ (zs : List ℕ). 45 ∷ 45 ∷ zs) (sym (no_equals ys e) ∙ is))
known which ys is true e = Looks.valued which (after ys) (ap (λ (zs : List ℕ). 45 ∷ 45 ∷ zs) (at_equals ys e ∙ ap (λ (n : List ℕ). n ++ 61 ∷ after ys) is))

-- no other one is an option
no_option : (g : Given) (a b c d : Bool) (w x y z : Option Given) → a ≡ false → b ≡ false → c ≡ false → d ≡ false
    → (if a then w else if b then x else if c then y else if d then z else None) ≡ None
no_option g false false false false w x y z p q r s = refl
no_option g true b c d w x y z p q r s = absurd (cc p)
no_option g false true c d w x y z p q r s = absurd (cc q)
no_option g false false true d w x y z p q r s = absurd (cc r)
no_option g false false false true w x y z p q r s = absurd (cc s)

module _ (ys : List ℕ) (no_siphons : bytes_eq (codes "siphons") (before ys) ≡ false) (no_monitors : bytes_eq (codes "monitors") (before ys) ≡ false) where
  abbrev word : List ℕ
  word = 45 ∷ 45 ∷ ys

  is_siphons : (rest : List ℕ) → ys ≡ rest → before rest ≡ codes "siphons" → ⊥
  is_siphons rest e is = not_both (bytes_eq (codes "siphons") (before ys)) (bytes_same (codes "siphons") (before ys) (sym (ap before e ∙ is))) no_siphons

  is_monitors : (rest : List ℕ) → ys ≡ rest → before rest ≡ codes "monitors" → ⊥
  is_monitors rest e is = not_both (bytes_eq (codes "monitors") (before ys)) (bytes_same (codes "monitors") (before ys) (sym (ap before e ∙ is))) no_monitors

  none_given : (g : Given) → option_given g word ≡ None
  none_given g = no_option g (bytes_eq word (codes "--siphons")) (bytes_eq word (codes "--monitors")) (begins word (codes "--siphons=")) (begins word (codes "--monitors=")) _ _ _ _
      (false_if _ (λ on. is_siphons (codes "siphons") (ap (λ (zs : List ℕ). drop 2 zs) (same_bytes word (codes "--siphons") on)) refl))
      (false_if _ (λ on. is_monitors (codes "monitors") (ap (λ (zs : List ℕ). drop 2 zs) (same_bytes word (codes "--monitors") on)) refl))
      (false_if _ (λ on. is_siphons (codes "siphons=" ++ drop 10 word) (ap (λ (zs : List ℕ). drop 2 zs) (begun 10 word (codes "--siphons=") on)) refl))
      (false_if _ (λ on. is_monitors (codes "monitors=" ++ drop 11 word) (ap (λ (zs : List ℕ). drop 2 zs) (begun 11 word (codes "--monitors=") on)) refl))

  no_rule : arg_by_long rules (before ys) ≡ None
  no_rule = by (bytes_eq (codes "siphons") (before ys)) (bytes_eq (codes "monitors") (before ys)) _ _ no_siphons no_monitors
    where
      by : (a b : Bool) (x y : Rule) → a ≡ false → b ≡ false → (if a || false then Some x else if b || false then Some y else None) ≡ None
      by false false x y p q = refl
      by true b x y p q = absurd (cc p)
      by false true x y p q = absurd (cc q)

long_fails : (z : ℕ) (zs : List ℕ) → bytes_eq (codes "siphons") (before (z ∷ zs)) ≡ false → bytes_eq (codes "monitors") (before (z ∷ zs)) ≡ false
    → (rows : List Row) (pending : Option (Text × List Text))
    → flag_word_fault rules false (long_of (45 ∷ 45 ∷ z ∷ zs)) (45 ∷ 45 ∷ z ∷ zs) (record { rows = rows; pending = pending; skip = 0 }) ≡ [] → ⊥
long_fails z zs s m rows pending none =
    let h : Held = record { rows = rows; pending = pending; skip = 0 } in
    let value = (name_and_value (z ∷ zs)).1 in
    let fault : flag_word_fault rules false (long_of (45 ∷ 45 ∷ z ∷ zs)) (45 ∷ 45 ∷ z ∷ zs) h ≡ UnknownArgument ∷ [] =
    ap (λ (o : Option Rule). long_fault rules false o value h) (no_rule (z ∷ zs) s m) in
    absurd (cc (sym fault ∙ none))

two_dashes : (ys : List ℕ) → Looks (45 ∷ 45 ∷ ys)
two_dashes [] = Looks.dashes refl
two_dashes (z ∷ zs) = by (bytes_eq (codes "siphons") (before (z ∷ zs))) refl (bytes_eq (codes "monitors") (before (z ∷ zs))) refl
  where
    by : (a : Bool) → bytes_eq (codes "siphons") (before (z ∷ zs)) ≡ a → (b : Bool) → bytes_eq (codes "monitors") (before (z ∷ zs)) ≡ b → Looks (45 ∷ 45 ∷ z ∷ zs)
    by true s b m = known Which.siphons (z ∷ zs) (sym (same_bytes _ _ s)) (has_byte 61 (z ∷ zs)) refl
    by false s true m = known Which.monitors (z ∷ zs) (sym (same_bytes _ _ m)) (has_byte 61 (z ∷ zs)) refl
    by false s false m = Looks.strange (45 ∷ z ∷ zs) refl refl refl (none_given (z ∷ zs) s m) (long_fails z zs s m)

-- ---- each word

pub looks : (word : List ℕ) → IsUtf8 word → Looks word
looks [] u = Looks.plain refl refl refl refl
looks (x ∷ []) u = one_byte x (x == 45) refl
looks (x ∷ y ∷ ys) u = by (x == 45) refl (y == 45) refl
  where
    by : (a : Bool) → (x == 45) ≡ a → (b : Bool) → (y == 45) ≡ b → Looks (x ∷ y ∷ ys)
    by false e b f = no_dash x y ys e
    by true e true f = subst (λ (p : ℕ). Looks (p ∷ y ∷ ys)) (sym (eqb-true x 45 e)) (subst (λ (q : ℕ). Looks (45 ∷ q ∷ ys)) (sym (eqb-true y 45 f)) (two_dashes ys))
    by true e false f = subst (λ (p : ℕ). Looks (p ∷ y ∷ ys)) (sym (eqb-true x 45 e)) (one_dash y ys f (subst (λ (p : ℕ). IsUtf8 (p ∷ y ∷ ys)) (eqb-true x 45 e) u))
