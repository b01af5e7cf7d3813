-- What is spelled outside functions is read, with the bodies of functions.
use Rattle.std.proofs.Common.{◌≡◌, ℕ, ◌≤◌, Bool, true, false, List, [], ◌∷◌, map, refl, ap, subst, ◌∙◌}
use Rattle.c_lexer.specs.declared.token.Sign.TheVariants as s
use Rattle.c_tree.specs.Lined.{Program}
use Rattle.c_tree.specs.declared.program.Slot.{Slot}
use Rattle.c_tree.specs.declared.program.Object.{Object}
use Rattle.c_tree.specs.declared.program.Kind.{Kind}
use Rattle.c_grammar.specs.declared.words.FixedWord.{FixedWord}
use Rattle.c_grammar.specs.declared.words.FixedWord.TheVariants as w
use Rattle.c_grammar.specs.Items.{What, Item, sign, fixed}
use Rattle.c_grammar.specs.Levels.{Tall, tall}
use Rattle.c_grammar.specs.Commas.{Commas}
use Rattle.c_grammar.specs.Statements as st
use Rattle.c_grammar.specs.Statements.{Body, SpellsStatic, SpellsSlot, SpellsBody}
use Rattle.c_grammar.specs.Declarations as g
use Rattle.c_grammar.specs.Declarations.{SpellsCell, SpellsObject, SpellsHead}
use Rattle.c_grammar.specs.Programs as programs
use Rattle.c_grammar.specs.Programs.{with_cells, with_slots, with_function}
use Rattle.parse_laws.specs.Parser.{Got, Parser, ◌>>=◌, pure, Go}
use Rattle.parse_laws.proofs.Finds.{parted, pure_finds, bind_finds}
use Rattle.c_expressions.specs.Honest.{Honest, declares}
use Rattle.c_expressions.specs.Parsers.{Sight, what_at, seen}
use Rattle.c_expressions.proofs.Found.{F, is_at, sign_finds}
use Rattle.c_declarations.specs.declared.tree.Sort.{Sort}
use Rattle.c_declarations.specs.declared.tree.Sort.TheVariants as sort
use Rattle.c_declarations.specs.declared.tree.Head.{Head}
use Rattle.c_declarations.specs.declared.tree.Begun.TheVariants as begun
use Rattle.c_declarations.specs.Parsers.{line, behind_int, head_behind_void, objects}
use Rattle.c_declarations.specs.Shown.{ints_of, sort_of, head_of}
use Rattle.c_declarations.proofs.FoundHeads.{shown, behind_int_finds, behind_void_finds}
use Rattle.c_declarations.proofs.FoundObjects.{objects_finds}
use Rattle.c_statements.specs.Parsers.{body, slot_list}
use Rattle.c_programs.specs.Words.{outer_opening}
use Rattle.c_programs.specs.Parsers.{body_end, function_behind, function_added, finished, ints_added, void_added, objects_added, slots_added, declared_by, static_added, outer_by}
use Rattle.c_programs.proofs.Sounds.{Grows, by_cells, by_objects, by_slots, by_function}

module _ {Token : Type 0} (v : Sight Token) (honest : Honest v) (holds : ℕ → Bool) (all_hold : (k : ℕ) → holds k ≡ true) (room : ℕ)
    (body_finds : (kind : Kind) (m : ℕ) (ts rest : List Item) (b : Tall Body) → SpellsBody kind ts (sign m s.RightBrace ∷ rest) b → b.levels ≤ room → F v (body v kind room) ts (sign m s.RightBrace ∷ rest) b)
    (slots_find : (m : ℕ) (ts rest : List Item) (all : List Slot) → Commas SpellsSlot ts (sign m s.Semicolon ∷ rest) all → F v (slot_list v) ts rest all) where
  body_end_finds : (h : Head) (b : Tall Body) (m : ℕ) (rest : List Item) → F v (body_end v h b) (sign m s.RightBrace ∷ rest) rest (tall (g.defined (head_of h) b.tree m) b.levels)
  body_end_finds h b m rest [] e = absurd cc
  body_end_finds h b m rest (u ∷ ts) e = let q : v.item u ≡ sign m s.RightBrace = cc in (ts, cc, rw (is_at v s.RightBrace m u q, q) refl)

  function_finds : (h : Head) (l m : ℕ) (next rest : List Item) (b : Tall Body) → SpellsBody h.kind next (sign m s.RightBrace ∷ rest) b → b.levels ≤ room
      → F v (function_behind v room h) (sign l s.LeftBrace ∷ next) rest (tall (g.defined (head_of h) b.tree m) b.levels)
  unfolding function_behind
  function_finds h l m next rest b x le =
      sign_finds v s.LeftBrace (body v h.kind room >>= λ b. body_end v h b) l next rest (tall (g.defined (head_of h) b.tree m) b.levels)
      (bind_finds v.item (body v h.kind room) (λ b. body_end v h b) next (sign m s.RightBrace ∷ rest) rest b (tall (g.defined (head_of h) b.tree m) b.levels) (body_finds h.kind m next rest b x le) (body_end_finds h b m rest))

  module _ (p : Tall Program) where
    added_finds : (h : Head) (l m : ℕ) (next rest : List Item) (b : Tall Body) → SpellsBody h.kind next (sign m s.RightBrace ∷ rest) b → b.levels ≤ room
        → F v (function_added v room p h) (sign l s.LeftBrace ∷ next) rest (with_function p (tall (g.defined (head_of h) b.tree m) b.levels))
    added_finds h l m next rest b x le =
        bind_finds v.item (function_behind v room h) (λ f. pure (with_function p f)) (sign l s.LeftBrace ∷ next) rest rest (tall (g.defined (head_of h) b.tree m) b.levels) (with_function p (tall (g.defined (head_of h) b.tree m) b.levels))
        (function_finds h l m next rest b x le) (pure_finds v.item rest (with_function p (tall (g.defined (head_of h) b.tree m) b.levels)))

    ints_cells : (first : Bool) (l m : ℕ) (mid after : List Item) (all : List g.Declared) → Commas SpellsCell mid (sign m s.Semicolon ∷ after) all → F v (ints_added v holds room first l p) mid after (with_cells p all)
    unfolding ints_added
    ints_cells first l m mid after all d =
        bind_finds v.item (behind_int v holds first l) (λ x. finished v room p x) mid after after (begun.Cells (ints_of all)) (with_cells p all)
        (behind_int_finds v holds all_hold first l mid after (begun.Cells (ints_of all)) (m, (all, d, refl))) (pure_finds v.item after (with_cells p all))

    ints_function : (first : Bool) (h : g.Head) (l j m : ℕ) (mid next after : List Item) (b : Tall Body) → SpellsHead (fixed l w.Int ∷ mid) (sign j s.LeftBrace ∷ next) h → SpellsBody h.kind next (sign m s.RightBrace ∷ after) b → b.levels ≤ room
        → F v (ints_added v holds room first l p) mid after (with_function p (tall (g.defined h b.tree m) b.levels))
    unfolding ints_added
    ints_function first h l j m mid next after b x y le =
        bind_finds v.item (behind_int v holds first l) (λ x. finished v room p x) mid (sign j s.LeftBrace ∷ next) after (begun.Head (shown v h)) (with_function p (tall (g.defined h b.tree m) b.levels))
        (behind_int_finds v holds all_hold first l mid (sign j s.LeftBrace ∷ next) (begun.Head (shown v h)) x) (added_finds (shown v h) j m next after b y le)

    void_function : (h : g.Head) (l j m : ℕ) (mid next after : List Item) (b : Tall Body) → SpellsHead (fixed l w.Void ∷ mid) (sign j s.LeftBrace ∷ next) h → SpellsBody h.kind next (sign m s.RightBrace ∷ after) b → b.levels ≤ room
        → F v (void_added v room l p) mid after (with_function p (tall (g.defined h b.tree m) b.levels))
    unfolding void_added
    void_function h l j m mid next after b x y le =
        bind_finds v.item (head_behind_void v l) (λ h. function_added v room p h) mid (sign j s.LeftBrace ∷ next) after (shown v h) (with_function p (tall (g.defined h b.tree m) b.levels))
        (behind_void_finds v mid (sign j s.LeftBrace ∷ next) h x) (added_finds (shown v h) j m next after b y le)

    objects_found : (o : Sort) (m : ℕ) (mid after : List Item) (all : List Object) → Commas (SpellsObject (sort_of o)) mid (sign m s.Semicolon ∷ after) all → F v (objects_added v o p) mid after (programs.with_objects p (sort_of o) all)
    unfolding objects_added
    objects_found o m mid after all d =
        bind_finds v.item (objects v o) (λ all. pure (programs.with_objects p (sort_of o) all)) mid after after all (programs.with_objects p (sort_of o) all) (objects_finds v honest o mid after all d) (pure_finds v.item after (programs.with_objects p (sort_of o) all))

    slots_found : (m : ℕ) (mid after : List Item) (all : List Slot) → Commas SpellsSlot mid (sign m s.Semicolon ∷ after) all → F v (slots_added v p) mid after (with_slots p all)
    unfolding slots_added
    slots_found m mid after all d = bind_finds v.item (slot_list v) (λ all. pure (with_slots p all)) mid after after all (with_slots p all) (slots_find m mid after all d) (pure_finds v.item after (with_slots p all))

    -- A declaration begins with such a word, and is read behind it; behind `int` also where nothing stands before.
    record Declares (before after : List Item) (q : Tall Program) : Type 0 where
      word : FixedWord
      l : ℕ
      mid : List Item
      begins : before ≡ fixed l word ∷ mid
      declares_it : declares word ≡ true
      parser : Parser Token (Tall Program)
      goes : (u : Token) → v.item u ≡ fixed l word → (declared_by v holds room p (line v u) (outer_opening (seen v u)) ≡ Go parser) × (outer_by v holds room p (line v u) (outer_opening (seen v u)) ≡ Go parser)
      finds : F v parser mid after q
      first : word ≡ w.Int → F v (ints_added v holds room true l p) mid after q

    cells_declare : (l m : ℕ) (mid after : List Item) (all : List g.Declared) → Commas SpellsCell mid (sign m s.Semicolon ∷ after) all → Declares (fixed l w.Int ∷ mid) after (with_cells p all)
    cells_declare l m mid after all d = record { word = w.Int; l = l; mid = mid; begins = refl; declares_it = refl; parser = ints_added v holds room false l p; goes = λ u e. (rw e refl, rw e refl); finds = ints_cells false l m mid after all d; first = λ e. ints_cells true l m mid after all d }

    int_declares : (h : g.Head) (l j m : ℕ) (mid next after : List Item) (b : Tall Body) → SpellsHead (fixed l w.Int ∷ mid) (sign j s.LeftBrace ∷ next) h → SpellsBody h.kind next (sign m s.RightBrace ∷ after) b → b.levels ≤ room
        → Declares (fixed l w.Int ∷ mid) after (with_function p (tall (g.defined h b.tree m) b.levels))
    int_declares h l j m mid next after b x y le = record { word = w.Int; l = l; mid = mid; begins = refl; declares_it = refl; parser = ints_added v holds room false l p; goes = λ u e. (rw e refl, rw e refl); finds = ints_function false h l j m mid next after b x y le; first = λ e. ints_function true h l j m mid next after b x y le }

    void_declares : (h : g.Head) (l j m : ℕ) (mid next after : List Item) (b : Tall Body) → SpellsHead (fixed l w.Void ∷ mid) (sign j s.LeftBrace ∷ next) h → SpellsBody h.kind next (sign m s.RightBrace ∷ after) b → b.levels ≤ room
        → Declares (fixed l w.Void ∷ mid) after (with_function p (tall (g.defined h b.tree m) b.levels))
    void_declares h l j m mid next after b x y le = record { word = w.Void; l = l; mid = mid; begins = refl; declares_it = refl; parser = void_added v room l p; goes = λ u e. (rw e refl, rw e refl); finds = void_function h l j m mid next after b x y le; first = λ e. absurd cc }

    function_declares : (h : g.Head) (j m : ℕ) (hd next after : List Item) (b : Tall Body) → SpellsHead hd (sign j s.LeftBrace ∷ next) h → SpellsBody h.kind next (sign m s.RightBrace ∷ after) b → b.levels ≤ room
        → Declares hd after (with_function p (tall (g.defined h b.tree m) b.levels))
    function_declares h j m hd next after b (g.main {l = l} x) y le = int_declares h l j m _ next after b (g.main x) y le
    function_declares h j m hd next after b (g.int_function {l = l} d x) y le = int_declares h l j m _ next after b (g.int_function d x) y le
    function_declares h j m hd next after b (g.void_function {l = l} d x) y le = void_declares h l j m _ next after b (g.void_function d x) y le
    function_declares h j m hd next after b (g.thread_function {l = l} d q) y le = void_declares h l j m _ next after b (g.thread_function d q) y le

    objects_declare : (o : g.Sort) (l m : ℕ) (mid after : List Item) (all : List Object) → Commas (SpellsObject o) mid (sign m s.Semicolon ∷ after) all → Declares (fixed l (g.type_word o) ∷ mid) after (programs.with_objects p o all)
    objects_declare g.mutex l m mid after all d =
        record { word = w.Mutex; l = l; mid = mid; begins = refl; declares_it = refl; parser = objects_added v sort.Mutex p; goes = λ u e. (rw e refl, rw e refl); finds = objects_found sort.Mutex m mid after all d; first = λ e. absurd cc }
    objects_declare g.condition l m mid after all d =
        record { word = w.Condition; l = l; mid = mid; begins = refl; declares_it = refl; parser = objects_added v sort.Condition p; goes = λ u e. (rw e refl, rw e refl); finds = objects_found sort.Condition m mid after all d; first = λ e. absurd cc }

    slots_declare : (l m : ℕ) (mid after : List Item) (all : List Slot) → Commas SpellsSlot mid (sign m s.Semicolon ∷ after) all → Declares (fixed l w.Thread ∷ mid) after (with_slots p all)
    slots_declare l m mid after all d = record { word = w.Thread; l = l; mid = mid; begins = refl; declares_it = refl; parser = slots_added v p; goes = λ u e. (rw e refl, rw e refl); finds = slots_found m mid after all d; first = λ e. absurd cc }

    -- What is read of tokens: the first goes, and what is behind it is read; and the same behind `int` where nothing stands before.
    pub record Read (zs : List Token) (after : List Item) (q : Tall Program) : Type 0 where
      pub u : Token
      pub mid : List Token
      pub rest : List Token
      pub parser : Parser Token (Tall Program)
      pub parts : zs ≡ u ∷ mid
      pub goes : outer_by v holds room p (line v u) (outer_opening (seen v u)) ≡ Go parser
      pub reads : parser mid ≡ Got q rest
      pub left : map v.item rest ≡ after
      pub first : seen v u ≡ What.Fixed w.Int → (other : List Token) × (ints_added v holds room true (line v u) p mid ≡ Got q other) × (map v.item other ≡ after)

    int_word : (x : FixedWord) → What.Fixed x ≡ What.Fixed w.Int → x ≡ w.Int
    int_word x e = cc

    plain_read : (ts after : List Item) (q : Tall Program) → Declares ts after q → (zs : List Token) → map v.item zs ≡ ts → Read zs after q
    plain_read ts after q d zs e =
        let x = parted v.item zs (fixed d.l d.word) d.mid (e ∙ d.begins) in
        let y = d.finds x.1 x.4 in
        record {
          u = x.0;
          mid = x.1;
          rest = y.0;
          parser = d.parser;
          parts = x.2;
          goes = (d.goes x.0 x.3).1;
          reads = y.2;
          left = y.1;
          first = λ c. first_read x.0 x.1 x.3 x.4 (int_word d.word (seen_word x.0 x.3 ∙ c));
        }
      where
        seen_word : (u : Token) → v.item u ≡ fixed d.l d.word → What.Fixed d.word ≡ seen v u
        seen_word u e = rw e refl

        first_read : (u : Token) (mid : List Token) → v.item u ≡ fixed d.l d.word → map v.item mid ≡ d.mid → d.word ≡ w.Int → (other : List Token) × (ints_added v holds room true (line v u) p mid ≡ Got q other) × (map v.item other ≡ after)
        first_read u mid c m i = let z = d.first i mid m in (z.0, rw c z.2, z.1)

    static_read : (j : ℕ) (hd after : List Item) (q : Tall Program) → Declares hd after q → (zs : List Token) → map v.item zs ≡ fixed j w.Static ∷ hd → Read zs after q
    unfolding static_added
    static_read j hd after q d zs e =
        let x = parted v.item zs (fixed j w.Static) hd e in
        let t = parted v.item x.1 (fixed d.l d.word) d.mid (x.4 ∙ d.begins) in
        let y = d.finds t.1 t.4 in
        let free = honest.declarations t.0 d.word d.declares_it (seen_word t.0 t.3) in
        record {
          u = x.0;
          mid = x.1;
          rest = y.0;
          parser = static_added v holds room p;
          parts = x.2;
          goes = rw (x.3, free) refl;
          reads = ap (static_added v holds room p) t.2 ∙ rw (d.goes t.0 t.3).0 y.2;
          left = y.1;
          first = λ c. absurd (differs x.0 x.3 c);
        }
      where
        seen_word : (u : Token) → v.item u ≡ fixed d.l d.word → seen v u ≡ What.Fixed d.word
        seen_word u e = rw e refl

        two : What.Fixed w.Static ≡ What.Fixed w.Int → ⊥
        two e = cc

        differs : (u : Token) → v.item u ≡ fixed j w.Static → seen v u ≡ What.Fixed w.Int → ⊥
        differs u e c = two (subst (λ (t : Item). what_at t ≡ What.Fixed w.Int) e c)

    outer_read : {ts hd after : List Item} {q : Tall Program} → SpellsStatic ts hd → Declares hd after q → (zs : List Token) → map v.item zs ≡ ts → Read zs after q
    outer_read {ts} {hd} {after} {q} st.absent d zs e = plain_read hd after q d zs e
    outer_read {ts} {hd} {after} {q} (st.present {l = j}) d zs e = static_read j hd after q d zs e

    pub grows_read : {ts after : List Item} {q : Tall Program} → Grows room p ts after q → (zs : List Token) → map v.item zs ≡ ts → Read zs after q
    grows_read {after = after} (by_cells (g.cells {l = l} {m = m} {mid = mid} {all = all} x d)) zs e = outer_read x (cells_declare l m mid after all d) zs e
    grows_read {after = after} (by_objects (g.objects {o = o} {l = l} {m = m} {mid = mid} {all = all} x d)) zs e = outer_read x (objects_declare o l m mid after all d) zs e
    grows_read {after = after} (by_slots (st.slots {l = l} {m = m} {mid = mid} {all = all} x d)) zs e = outer_read x (slots_declare l m mid after all d) zs e
    grows_read {after = after} (by_function (g.function {l = l} {m = m} {mid = hd} {next = next} {h = h} {b = b} x c y) le) zs e = outer_read x (function_declares h l m hd next after b c y le) zs e
