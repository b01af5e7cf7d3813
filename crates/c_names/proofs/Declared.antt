-- What a table of declarations tells after one more.
use Rattle.std.proofs.Common.{◌≡◌, ℕ, Bool, true, false, cond, nat_le, List, refl, sym, ap, ◌∙◌, bytes_eq, Some, None, option_map}
use Rattle.std.specs.declared.option.Option.{Option}
use Rattle.std.specs.Option.{option_map_or}
use Rattle.std.specs.HashMap.{UpdatesBy, get_by}
use Rattle.std.proofs.lemmas.Map.Text.{hash_map_updates_str}
use Rattle.std.proofs.lemmas.Slice.Eq.{bytes_eq-Decides}
use Rattle.c_rules.specs.Declarations.{Declaration}
use Rattle.c_names.specs.declared.outer.Declaration as declared
use Rattle.c_names.specs.Shown.{shown}
use Rattle.c_names.specs.Tables.{Names, meant, behind, joined}
use Rattle.c_names.proofs.Scopes.{alike}

abbrev pub is_earlier : Option Declaration → ℕ → Bool
is_earlier before line = option_map_or (λ e. nat_le e.line line) before false

pub stays_earlier : (before : Option Declaration) (d : Declaration) → is_earlier before d.line ≡ true → Some (behind before d) ≡ before
stays_earlier None d e = absurd (cc e)
stays_earlier (Some b) d e = rw e refl

goes_before : (before : Option Declaration) (d : Declaration) → is_earlier before d.line ≡ false → behind before d ≡ d
goes_before None d e = refl
goes_before (Some b) d e = rw e refl

mapped : (b : Bool) (d : declared.Declaration) (o : Option declared.Declaration) → option_map shown (cond b (Some d) o) ≡ cond b (Some (shown d)) (option_map shown o)
mapped true d o = refl
mapped false d o = refl

module _ {S : Type 0} where
  -- the name of a declaration that is there already, on no later line
  pub kept : (old : Names S) (d : declared.Declaration) → is_earlier (meant old d.name.now) d.line ≡ true → (name : List ℕ) → meant old name ≡ joined (meant old name) (shown d) name
  kept old d e name = go (bytes_eq d.name.now name) refl
    where
      go : (b : Bool) → bytes_eq d.name.now name ≡ b → meant old name ≡ joined (meant old name) (shown d) name
      go true f = rw f (sym (stays_earlier (meant old name) (shown d) (ap (λ n. is_earlier (meant old n) d.line) (sym ((bytes_eq-Decides d.name.now name).0 f)) ∙ e)))
      go false f = rw f refl

  pub put : (old new : Names S) (d : declared.Declaration) → UpdatesBy alike (λ k. bytes_eq d.name.now k.now) old new (Some d)
      → is_earlier (meant old d.name.now) d.line ≡ false → (name : List ℕ) → meant new name ≡ joined (meant old name) (shown d) name
  put old new d h e name = ap (option_map shown) (hash_map_updates_str d.name.now old new (Some d) h name) ∙ mapped (bytes_eq d.name.now name) d (get_by (λ key. bytes_eq name key.now) old) ∙ go (bytes_eq d.name.now name) refl
    where
      go : (b : Bool) → bytes_eq d.name.now name ≡ b → cond (bytes_eq d.name.now name) (Some (shown d)) (meant old name) ≡ joined (meant old name) (shown d) name
      go true f = rw f (ap Some (sym (goes_before (meant old name) (shown d) (ap (λ n. is_earlier (meant old n) d.line) (sym ((bytes_eq-Decides d.name.now name).0 f)) ∙ e))))
      go false f = rw f refl
