-- Names of functions that are copies.
use Rattle.std.proofs.Common.{◌≡◌, ℕ, suc, zero, ◌+◌, ◌<◌, Bool, true, false, not, ◌&&◌, List, [], ◌∷◌, ◌++◌, length, take, drop, get_or, Some, None, option_map, refl, sym, ap, ◌∙◌, arith, bytes_eq, append_assoc}
use Rattle.std.specs.declared.option.Option.{Option}
use Rattle.std.proofs.lemmas.List.{drop_more, take_more}
use Rattle.c_tree.specs.Numbering.{main_name}
use Rattle.c_rules.specs.Names.{is_kept, is_plain_name, is_copy_end, original, names_function}

-- what stands before the end, with these bytes in front of it
abbrev pub behind : List ℕ → Option (List ℕ) → Option (List ℕ)
behind front rest = option_map (λ more. front ++ more) rest

step : (b : ℕ) (bs : List ℕ) → is_copy_end (b ∷ bs) ≡ false → original (b ∷ bs) ≡ option_map (λ front. b ∷ front) (original bs)
step b bs e = rw e refl

regroup : (front : List ℕ) (b : ℕ) (o : Option (List ℕ)) → behind front (option_map (λ more. b ∷ more) o) ≡ behind (front ++ b ∷ []) o
regroup front b None = refl
regroup front b (Some more) = ap Some (sym (append_assoc front (b ∷ []) more))

-- one byte more in front
pub behind_more : (name : List ℕ) (len : ℕ) → len < length name → is_copy_end (drop len name) ≡ false
    → behind (take len name) (original (drop len name)) ≡ behind (take (len + 1) name) (original (drop (len + 1) name))
behind_more name len lt e =
    let b = get_or name len 0 in
    let parts = drop_more name len 0 lt in
    ap (behind (take len name)) (ap original parts ∙ step b (drop (len + 1) name) (ap is_copy_end (sym parts) ∙ e))
    ∙ regroup (take len name) b (original (drop (len + 1) name))
    ∙ ap (λ front. behind front (original (drop (len + 1) name))) (sym (take_more name len 0 lt))

abbrev Names : Bool → List ℕ → Type 0
Names r name = (times : ℕ) → length name < times → r ≡ names_function times name

pub names_plain : (name : List ℕ) → is_kept name ≡ false → original name ≡ None → Names true name
names_plain name k o zero lt = absurd (omega arith)
names_plain name k o (suc times) lt = rw (k, o) refl

pub names_kept : (name : List ℕ) → is_kept name ≡ true → Names false name
names_kept name k zero lt = absurd (omega arith)
names_kept name k (suc times) lt = rw k refl

pub names_copy : (name front : List ℕ) (r : Bool) → is_kept name ≡ false → original name ≡ Some front → length front < length name
    → (is_plain_name front && not (bytes_eq front main_name)) ≡ true → Names r front → Names r name
names_copy name front r k o lt p h zero l = absurd (omega arith)
names_copy name front r k o lt p h (suc times) l = h times (omega arith) ∙ sym (rw (k, o) (whole (is_plain_name front) (not (bytes_eq front main_name)) (names_function times front) p))
  where
    whole : (a b c : Bool) → (a && b) ≡ true → (a && b && c) ≡ c
    whole true true c e = refl
    whole true false c e = absurd (cc e)
    whole false b c e = absurd (cc e)

pub names_no_copy : (name front : List ℕ) → is_kept name ≡ false → original name ≡ Some front
    → (is_plain_name front && not (bytes_eq front main_name)) ≡ false → Names false name
names_no_copy name front k o p zero l = absurd (omega arith)
names_no_copy name front k o p (suc times) l = sym (rw (k, o) (whole (is_plain_name front) (not (bytes_eq front main_name)) (names_function times front) p))
  where
    whole : (a b c : Bool) → (a && b) ≡ false → (a && b && c) ≡ false
    whole true true c e = absurd (cc e)
    whole true false c e = refl
    whole false b c e = refl
