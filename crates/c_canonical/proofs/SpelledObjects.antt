-- The canonical lines of mutexes and conditions spell them.
use Rattle.std.proofs.Common.{◌≡◌, ℕ, zero, suc, Bool, true, false, List, [], ◌∷◌, ◌++◌, map, replicate, refl, sym, ap, subst, arith, Option, Some, None}
use Rattle.std.proofs.lemmas.List.{length-replicate}
use Rattle.c_lexer.specs.declared.token.Sign.TheVariants as s
use Rattle.c_layout.specs.Layout as layout
use Rattle.c_tree.specs.declared.program.Object as lined
use Rattle.c_tree.specs.Bare.{Object}
use Rattle.c_grammar.specs.Items.{What, Item, at, sign, spelling, undefined_name, name_of}
use Rattle.c_grammar.specs.Commas.{one}
use Rattle.c_grammar.specs.Statements as st
use Rattle.c_grammar.specs.Declarations as d
use Rattle.c_grammar.specs.Declarations.{Sort, type_word, initial_word, SpellsInitial, SpellsObject, SpellsObjects}
use Rattle.c_canonical.specs.Expressions.{separated}
use Rattle.c_canonical.specs.Programs.{length_of, initialisers, readied, object, mutex, condition}
use Rattle.c_canonical.specs.Shown.{Shows, nothing, shown, unseen}
use Rattle.c_canonical.specs.Shaped.{Usable}
use Rattle.c_canonical.specs.ShapedPrograms.{ShapedGiven, ShapedObject}
use Rattle.c_canonical.proofs.ShownLists.{same_shows}
use Rattle.c_canonical.proofs.SpelledDeclarations.{in_braces}

-- ---- the words of each sort

type_seen : (o : Sort) → undefined_name (spelling (type_word o)) ≡ What.Fixed (type_word o)
type_seen d.mutex = refl
type_seen d.condition = refl

initial_seen : (o : Sort) → undefined_name (spelling (initial_word o)) ≡ What.Fixed (initial_word o)
initial_seen d.mutex = refl
initial_seen d.condition = refl

-- ---- initialisers

-- One initialiser of this sort.
abbrev initialiser : Sort → Unit {0} → List layout.Item
initialiser o u = layout.word (spelling (initial_word o)) ∷ []

initial_at : (o : Sort) (l : ℕ) (a : What) (rest : List Item) → a ≡ What.Fixed (initial_word o) → SpellsInitial o (at l a ∷ rest) rest tt
initial_at o l a rest e = subst (λ (b : What). SpellsInitial o (at l b ∷ rest) rest tt) (sym e) d.initial

initial_spelled : (o : Sort) (u : Unit {0}) (ts rest : List Item) → Unit {0} → Shows (initialiser o u) ts rest → SpellsInitial o ts rest u
initial_spelled o u _ _ f (shown {line = l} {ts = rest} nothing) = initial_at o l (undefined_name (spelling (initial_word o))) rest (initial_seen o)

-- An object that is ready, behind the word of its type.
ready_at : (o : Sort) (l m i : ℕ) (a b : What) (name : List ℕ) (rest : List Item) → name_of a ≡ Some name → b ≡ What.Fixed (initial_word o)
    → SpellsObject o (at l a ∷ sign m s.Assign ∷ at i b ∷ rest) rest (record { name = name; len = None; ready = true; given = 1; line = l })
ready_at o l m i a b name rest f e =
    subst (λ (c : What). SpellsObject o (at l a ∷ sign m s.Assign ∷ at i c ∷ rest) rest (record { name = name; len = None; ready = true; given = 1; line = l })) (sym e) (d.single_ready f)

objects_at : (o : Sort) (l m : ℕ) (a : What) (ts rest : List Item) (x : lined.Object) → a ≡ What.Fixed (type_word o) → SpellsObject o ts (sign m s.Semicolon ∷ rest) x
    → SpellsObjects o (at l a ∷ ts) rest (x ∷ [])
objects_at o l m a ts rest x e h = subst (λ (b : What). SpellsObjects o (at l b ∷ ts) rest (x ∷ [])) (sym e) (d.objects st.absent (one h))

so_many : {o : Sort} {ts rest : List Item} {name : List ℕ} {len : Option ℕ} {ready : Bool} {m n line : ℕ} → m ≡ n
    → SpellsObject o ts rest (record { name = name; len = len; ready = ready; given = m; line = line })
    → SpellsObject o ts rest (record { name = name; len = len; ready = ready; given = n; line = line })
so_many {o = o} {ts = ts} {rest = rest} {name = name} {len = len} {ready = ready} {line = line} e h =
    subst (λ (given : ℕ). SpellsObject o ts rest (record { name = name; len = len; ready = ready; given = given; line = line })) e h

several_same : (o : Sort) (n : ℕ) → replicate n (layout.word (spelling (initial_word o)) ∷ []) ≡ map (initialiser o) (replicate n tt)
several_same o zero = refl
several_same o (suc n) = ap (λ (xs : List (List layout.Item)). (layout.word (spelling (initial_word o)) ∷ []) ∷ xs) (several_same o n)

-- ---- objects

-- An object of the tree, at some line.
pub record ObjectSpelled (o : Sort) (x : Object) (ts rest : List Item) : Type 0 where
  pub line : ℕ
  pub spelled : SpellsObjects o ts rest (record { name = x.name; len = x.len; ready = x.ready; given = x.given; line = line } ∷ [])

-- The object behind the word of its type.
record Behind (o : Sort) (x : Object) (ts rest : List Item) : Type 0 where
  line : ℕ
  end : ℕ
  spelled : SpellsObject o ts (sign end s.Semicolon ∷ rest) (record { name = x.name; len = x.len; ready = x.ready; given = x.given; line = line })

-- The layout of an object of this sort, without its type.
abbrev shape : Sort → Object → List layout.Item
shape o x = (layout.word x.name ∷ (length_of x.len ++ readied x.ready (initialisers (spelling (initial_word o)) x.len x.given))) ++ layout.sign s.Semicolon ∷ layout.newline ∷ []

many_by : (o : Sort) (name : List ℕ) (len n : ℕ) {ts rest : List Item} → Usable name
    → Shows (shape o (record { name = name; len = Some len; ready = true; given = suc n })) ts rest
    → Behind o (record { name = name; len = Some len; ready = true; given = suc n }) ts rest
many_by o name len n f (shown (shown (shown (shown (unseen (shown (unseen (shown h)))))))) =
    let g = same_shows (ap (λ (xs : List (List layout.Item)). (separated xs ++ layout.sign s.RightBrace ∷ []) ++ layout.sign s.Semicolon ∷ layout.newline ∷ []) (several_same o (suc n))) h in
    let b = in_braces (initialiser o) (λ u. Unit {0}) (SpellsInitial o) (initial_spelled o) tt (replicate n tt) (λ k d l. tt) g in
    record {
      line = _;
      end = b.end;
      spelled = so_many (length-replicate (suc n) tt) (d.several_ready f b.parts);
    }

behind_by : (o : Sort) (name : List ℕ) (len : Option ℕ) (ready : Bool) (given : ℕ) {ts rest : List Item} → Usable name → ShapedGiven ready len given
    → Shows (shape o (record { name = name; len = len; ready = ready; given = given })) ts rest
    → Behind o (record { name = name; len = len; ready = ready; given = given }) ts rest
behind_by o name None false given f g (shown (shown (unseen nothing))) =
    record { line = _; end = _; spelled = so_many (sym g) (d.single f) }
behind_by o name (Some len) false given f g (shown (shown (shown (shown (shown (unseen nothing)))))) =
    record { line = _; end = _; spelled = so_many (sym g) (d.several f) }
behind_by o name None true given f g (shown {line = l} (unseen (shown {line = m} (unseen (shown {line = i} (shown {line = j} {ts = rest} (unseen nothing))))))) =
    record {
      line = l;
      end = j;
      spelled = so_many (sym g)
          (ready_at o l m i (undefined_name name) (undefined_name (spelling (initial_word o))) name (sign j s.Semicolon ∷ rest) f (initial_seen o));
    }
behind_by o name (Some len) true zero f g h = absurd (omega (arith, g))
behind_by o name (Some len) true (suc n) f g h = many_by o name len n f h

object_by : (o : Sort) (x : Object) {ts rest : List Item} → ShapedObject x → Shows (object (spelling (type_word o)) (spelling (initial_word o)) x) ts rest → ObjectSpelled o x ts rest
object_by o x f (shown {line = l} (unseen h)) =
    let b = behind_by o x.name x.len x.ready x.given f.0 f.1 h in
    record {
      line = b.line;
      spelled = objects_at o l b.end (undefined_name (spelling (type_word o))) _ _ (record { name = x.name; len = x.len; ready = x.ready; given = x.given; line = b.line }) (type_seen o) b.spelled;
    }

pub mutex_spelled : (x : Object) {ts rest : List Item} → ShapedObject x → Shows (mutex x) ts rest → ObjectSpelled d.mutex x ts rest
mutex_spelled x f h = object_by d.mutex x f h

pub condition_spelled : (x : Object) {ts rest : List Item} → ShapedObject x → Shows (condition x) ts rest → ObjectSpelled d.condition x ts rest
condition_spelled x f h = object_by d.condition x f h
