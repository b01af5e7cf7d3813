-- What is declared outside functions.
use Rattle.std.proofs.Common.{◌≡◌, ℕ, ◌+◌, ◌<◌, Bool, ◌||◌, List, [], ◌∷◌, ◌++◌, length, get_or, drop, map, refl, sym, ap, ◌∙◌}
use Rattle.std.specs.declared.option.Option.{Option}
use Rattle.std.specs.List.{list_any}
use Rattle.std.proofs.lemmas.List.{drop_more}
use Rattle.c_tree.specs.declared.program.Mode.{Mode}
use Rattle.c_rules.specs.Declarations.{Declaration}
use Rattle.c_names.specs.declared.outer.Declaration as declared
use Rattle.c_names.specs.Shown.{shown, all_shown}
use Rattle.c_acts.specs.declared.first.Break.{Break}
use Rattle.c_acts.specs.First.{noted_all}
use Rattle.c_check.specs.Outer.{declaration_breaks, one_joined, all_joined, outer_breaks}
use Rattle.c_acts.proofs.Noted.{noted_append, noted_both}

pub same_told : (f g : List ℕ → Option Declaration) → ((n : List ℕ) → f n ≡ g n) → f ≡ g
same_told f g h = λ i n. h n i

here : (ds : List declared.Declaration) (i : ℕ) (d : declared.Declaration) → i < length ds → d ≡ get_or ds i d → all_shown (drop i ds) ≡ shown d ∷ all_shown (drop (i + 1) ds)
here ds i d within is = ap all_shown (drop_more ds i d within ∙ ap (λ y. y ∷ drop (i + 1) ds) (sym is))

pub declaration_turn : (mode : Mode) (ds : List declared.Declaration) (i : ℕ) (d : declared.Declaration) (now next : List ℕ → Option Declaration) (f g all : Option Break)
    → i < length ds → d ≡ get_or ds i d → next ≡ one_joined now (shown d) → g ≡ noted_all f (declaration_breaks mode now (shown d))
    → noted_all f (outer_breaks mode now (all_shown (drop i ds))) ≡ all → noted_all g (outer_breaks mode next (all_shown (drop (i + 1) ds))) ≡ all
declaration_turn mode ds i d now next f g all within is e p h =
    ap (λ x. noted_all g (outer_breaks mode x (all_shown (drop (i + 1) ds)))) e
    ∙ ap (λ x. noted_all x (outer_breaks mode (one_joined now (shown d)) (all_shown (drop (i + 1) ds)))) p
    ∙ sym (noted_append f (declaration_breaks mode now (shown d)) (outer_breaks mode (one_joined now (shown d)) (all_shown (drop (i + 1) ds))))
    ∙ ap (λ x. noted_all f (outer_breaks mode now x)) (sym (here ds i d within is)) ∙ h

pub told_turn : (ds : List declared.Declaration) (i : ℕ) (d : declared.Declaration) (now next all : List ℕ → Option Declaration)
    → i < length ds → d ≡ get_or ds i d → next ≡ one_joined now (shown d)
    → all_joined now (all_shown (drop i ds)) ≡ all → all_joined next (all_shown (drop (i + 1) ds)) ≡ all
told_turn ds i d now next all within is e h =
    ap (λ x. all_joined x (all_shown (drop (i + 1) ds))) e ∙ ap (all_joined now) (sym (here ds i d within is)) ∙ h

-- seven lists in turn
pub noted_seven : (f g h i j k l m : Option Break) (a b c d e x y : List Break) → g ≡ noted_all f a → h ≡ noted_all g b → i ≡ noted_all h c → j ≡ noted_all i d → k ≡ noted_all j e
    → l ≡ noted_all k x → m ≡ noted_all l y → m ≡ noted_all f (a ++ (b ++ (c ++ (d ++ (e ++ (x ++ y))))))
noted_seven f g h i j k l m a b c d e x y p q r s t u v =
    noted_both f g m a (b ++ (c ++ (d ++ (e ++ (x ++ y))))) p
    (noted_both g h m b (c ++ (d ++ (e ++ (x ++ y)))) q
    (noted_both h i m c (d ++ (e ++ (x ++ y))) r
    (noted_both i j m d (e ++ (x ++ y)) s
    (noted_both j k m e (x ++ y) t (noted_both k l m x y u v)))))

pub list_any-map : {X Y : Type 0} (test : Y → Bool) (f : X → Y) (xs : List X) → list_any test (map f xs) ≡ list_any (λ x. test (f x)) xs
list_any-map test f [] = refl
list_any-map test f (x ∷ xs) = ap (λ b. test (f x) || b) (list_any-map test f xs)
