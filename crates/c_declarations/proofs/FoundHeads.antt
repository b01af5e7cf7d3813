-- The capacities and the heads of functions that are spelled are read, and what `int` and `void` begin.
use Rattle.std.proofs.Common.{◌≡◌, ℕ, Bool, true, false, List, [], ◌∷◌, map, Option, Some, refl, sym, subst, inl, inr, ◌⊎◌}
use Rattle.c_lexer.specs.declared.token.Sign.{Sign}
use Rattle.c_lexer.specs.declared.token.Sign.TheVariants as s
use Rattle.c_tree.specs.declared.program.Kind.TheVariants as kind
use Rattle.c_grammar.specs.declared.words.FixedWord.{FixedWord}
use Rattle.c_grammar.specs.declared.words.FixedWord.TheVariants as w
use Rattle.c_grammar.specs.Items.{What, Item, at, sign, fixed, name_of, cell_name, function_name, spelling}
use Rattle.c_grammar.specs.Commas.{Commas, one, more as next}
use Rattle.c_grammar.specs.Declarations as g
use Rattle.c_grammar.specs.Simple as simple
use Rattle.c_grammar.specs.Simple.{SpellsNumber}
use Rattle.c_grammar.specs.Declarations.{SpellsPrototype, SpellsWaitPrototype, SpellsParameter, SpellsParameters, SpellsVoid, SpellsHead, SpellsCell}
use Rattle.parse_laws.specs.Parser.{Parser, ◌>>=◌, pure, refuse, Go, when, must}
use Rattle.parse_laws.proofs.Finds.{Reaches, Halts, pure_finds, commit_finds, other_finds, bind_finds, bind_reaches}
use Rattle.c_expressions.specs.Words.{same_sign, is_sign}
use Rattle.c_expressions.specs.Ends.{at_head}
use Rattle.c_expressions.specs.Parsers.{Sight, what_at, seen, is, go_named}
use Rattle.c_expressions.proofs.Found.{F, is_at, sign_finds}
use Rattle.c_declarations.specs.declared.tree.Head.{Head}
use Rattle.c_declarations.specs.declared.tree.Begun.{Begun}
use Rattle.c_declarations.specs.declared.tree.Begun.TheVariants as begun
use Rattle.c_declarations.specs.Parsers.{line, is_fixed, name, number, length_behind, alone, grown, more, braced, ended, numbers, prototype_end, prototype, capacities_of, capacity_values, prototypes, capacities, parameter, no_parameters_by, no_parameters, some_parameters, parameters_by, parameters, main_head, int_head, void_head, start_parameter, start_head, thread_head, void_by, head_behind_void, by_head, by_cells, by_capacities, cells_behind, head_or_cells, capacities_by, capacities_head, capacities_or_head, main_or_cells, function_or_cells, behind_int_by, behind_int, wait_comes, wait_end, wait_behind_void, wait_prototype, wait_declared}
use Rattle.c_declarations.specs.Shown.{ints_of, head_of}
use Rattle.c_declarations.specs.Shown.{capacities_of as shown_capacities}
use Rattle.c_declarations.specs.Spelled.{SpellsMonitors, monitors, SpellsBehindInt}
use Rattle.c_declarations.specs.declared.tree.Ints.{Ints}
use Rattle.c_declarations.proofs.Shorter.{less_number, less_parameter}
use Rattle.c_declarations.proofs.FoundLists.{is_fixed_at, word_finds, ended_finds, ended_behind, more_finds, commas_reach}
use Rattle.c_declarations.proofs.Found.{separates, name_finds, number_finds, length_finds, braced_finds, list_finds, cell_front, cells_behind_finds}

-- no `(`
abbrev no_open : What → Bool
no_open (What.Sign s.LeftParenthesis) = false
no_open other = true

no_open_is : (a : What) → no_open a ≡ true → is_sign s.LeftParenthesis a ≡ false
unfolding same_sign
no_open_is (What.Sign s.LeftParenthesis) e = absurd cc
no_open_is (What.Sign x) e = differs x e
  where
    differs : (x : Sign) → no_open (What.Sign x) ≡ true → is_sign s.LeftParenthesis (What.Sign x) ≡ false
    differs s.LeftParenthesis e = absurd cc
    differs _ e = refl
no_open_is _ e = refl

separates_open : (after : List Item) → at_head separates after → at_head no_open after
separates_open [] c = tt
separates_open (t ∷ after) c = go (what_at t) c
  where
    go : (a : What) → separates a ≡ true → no_open a ≡ true
    go (What.Sign s.LeftParenthesis) e = absurd cc
    go _ e = refl

module _ {Token : Type 0} (v : Sight Token) where
  -- ---- the capacities

  number_found : (before after : List Item) (k : ℕ) → SpellsNumber before after k → at_head separates after → F v (number v) before after k
  number_found _ after k (simple.number {l = l}) c = number_finds v l k after

  prototype_finds : (word : FixedWord) (before after : List Item) → SpellsPrototype word before after → F v (prototype v word) before after tt
  unfolding prototype prototype_end
  prototype_finds word _ after (g.prototype {l = l} {m = m} {n = n} {i = i} {j = j} {g = h} {h = k}) =
      word_finds v w.Void (must (is_fixed v word) (prototype_end v)) l (fixed m word ∷ sign n s.LeftParenthesis ∷ fixed i w.Int ∷ fixed j w.Parameter ∷ sign h s.RightParenthesis ∷ sign k s.Semicolon ∷ after) after tt
      (word_finds v word (prototype_end v) m (sign n s.LeftParenthesis ∷ fixed i w.Int ∷ fixed j w.Parameter ∷ sign h s.RightParenthesis ∷ sign k s.Semicolon ∷ after) after tt
      (sign_finds v s.LeftParenthesis (must (is_fixed v w.Int) (must (is_fixed v w.Parameter) (must (is v s.RightParenthesis) (must (is v s.Semicolon) (pure tt))))) n
      (fixed i w.Int ∷ fixed j w.Parameter ∷ sign h s.RightParenthesis ∷ sign k s.Semicolon ∷ after) after tt
      (word_finds v w.Int (must (is_fixed v w.Parameter) (must (is v s.RightParenthesis) (must (is v s.Semicolon) (pure tt)))) i (fixed j w.Parameter ∷ sign h s.RightParenthesis ∷ sign k s.Semicolon ∷ after) after tt
      (word_finds v w.Parameter (must (is v s.RightParenthesis) (must (is v s.Semicolon) (pure tt))) j (sign h s.RightParenthesis ∷ sign k s.Semicolon ∷ after) after tt
      (sign_finds v s.RightParenthesis (must (is v s.Semicolon) (pure tt)) h (sign k s.Semicolon ∷ after) after tt (sign_finds v s.Semicolon (pure tt) k after after tt (pure_finds v.item after tt)))))))

  -- behind `int gd_cap`
  capacities_find : (first : Bool) (l : ℕ) {k m : ℕ} (before after : List Item) (c : g.Capacities) → SpellsMonitors (fixed k w.Int ∷ fixed m w.Capacities ∷ before) after c → first ≡ true
      → F v (capacities_or_head v first l m) before after (begun.Capacities (capacities_of c.line c.len c.values))
  unfolding capacities_or_head capacities capacity_values prototypes numbers same_sign
  capacities_find first l {k} {m} before after _
      (monitors {n = n} {i = i} {j = j} {o = h} {h = b} {d = d} {e = e} {len = len} {ts = ts} {mid = mid} {next = third} {all = all} x y z) f =
      commit_finds v.item (capacities_by v first m) (capacities_head v l) (sign n s.LeftBracket) (at i (What.Number len) ∷ sign j s.RightBracket ∷ sign h s.Assign ∷ sign b s.LeftBrace ∷ ts) after
      (begun.Capacities (capacities_of m len all))
      (λ u q. (
        by_capacities (capacities v m),
        rw (q, f) refl,
        bind_finds v.item (capacities v m) (λ c. pure (begun.Capacities c)) (at i (What.Number len) ∷ sign j s.RightBracket ∷ sign h s.Assign ∷ sign b s.LeftBrace ∷ ts) after after (capacities_of m len all)
            (begun.Capacities (capacities_of m len all)) whole (pure_finds v.item after (begun.Capacities (capacities_of m len all))),
      ))
    where
      values_find : F v (capacity_values v) (sign h s.Assign ∷ sign b s.LeftBrace ∷ ts) mid all
      values_find =
          sign_finds v s.Assign (ended v s.Semicolon (braced v (numbers v))) h (sign b s.LeftBrace ∷ ts) mid all
          (ended_finds v (braced v (numbers v)) s.Semicolon e (sign b s.LeftBrace ∷ ts) mid all
          (braced_finds v (numbers v) b d ts (sign e s.Semicolon ∷ mid) all (list_finds v (less_number v) SpellsNumber number_found x refl refl)))

      both : F v (prototypes v) mid after tt
      both = bind_finds v.item (prototype v w.Take) (λ _. prototype v w.Give) mid third after tt tt (prototype_finds w.Take mid third y) (prototype_finds w.Give third after z)

      behind_length : F v (capacity_values v >>= λ all. prototypes v >>= λ _. pure (capacities_of m len all)) (sign h s.Assign ∷ sign b s.LeftBrace ∷ ts) after (capacities_of m len all)
      behind_length =
          bind_finds v.item (capacity_values v) (λ all. prototypes v >>= λ _. pure (capacities_of m len all)) (sign h s.Assign ∷ sign b s.LeftBrace ∷ ts) mid after all (capacities_of m len all) values_find
          (bind_finds v.item (prototypes v) (λ _. pure (capacities_of m len all)) mid after after tt (capacities_of m len all) both (pure_finds v.item after (capacities_of m len all)))

      whole : F v (capacities v m) (at i (What.Number len) ∷ sign j s.RightBracket ∷ sign h s.Assign ∷ sign b s.LeftBrace ∷ ts) after (capacities_of m len all)
      whole =
          bind_finds v.item (length_behind v) (λ len. capacity_values v >>= λ all. prototypes v >>= λ _. pure (capacities_of m len all)) (at i (What.Number len) ∷ sign j s.RightBracket ∷ sign h s.Assign ∷ sign b s.LeftBrace ∷ ts)
          (sign h s.Assign ∷ sign b s.LeftBrace ∷ ts) after len (capacities_of m len all) (length_finds v i j len (sign h s.Assign ∷ sign b s.LeftBrace ∷ ts)) behind_length

  -- the declaration of `gd_cond_wait` begins so
  waits : (a b c d : ℕ) (later : List Item) (ts : List Token) → map v.item ts ≡ fixed a w.Void ∷ fixed b w.ControlledWait ∷ sign c s.LeftParenthesis ∷ fixed d w.Condition ∷ later → wait_comes v ts ≡ true
  waits a b c d later [] e = absurd cc
  waits a b c d later (t1 ∷ []) e = absurd cc
  waits a b c d later (t1 ∷ t2 ∷ []) e = absurd cc
  waits a b c d later (t1 ∷ t2 ∷ t3 ∷ []) e = absurd cc
  waits a b c d later (t1 ∷ t2 ∷ t3 ∷ t4 ∷ ts) e = rw (is_fixed_at v w.Void a t1 cc, is_fixed_at v w.ControlledWait b t2 cc, is_at v s.LeftParenthesis c t3 cc, is_fixed_at v w.Condition d t4 cc) refl

  -- it is read, where no other comes behind it
  pub wait_declared_finds : (before after : List Item) → SpellsWaitPrototype before after → ((rest : List Token) → map v.item rest ≡ after → wait_comes v rest ≡ false) → F v (wait_declared v) before after tt
  unfolding wait_declared wait_prototype wait_behind_void wait_end
  wait_declared_finds before _ g.absent calm = λ ts e. (ts, e, rw (calm ts e) refl)
  wait_declared_finds before after (g.present {a = a} {b = b} {c = c} {d = d}) calm = λ ts e. let y = whole ts e in (y.0, y.1, rw (waits a b c d _ ts e) y.2)
    where
      whole : F v (wait_prototype v) before after tt
      whole =
          word_finds v w.Void _ _ _ _ _ (word_finds v w.ControlledWait _ _ _ _ _ (sign_finds v s.LeftParenthesis _ _ _ _ _ (word_finds v w.Condition _ _ _ _ _ (sign_finds v s.Star _ _ _ _ _ (word_finds v w.ConditionParameter _ _ _ _ _
          (sign_finds v s.Comma _ _ _ _ _ (word_finds v w.Mutex _ _ _ _ _ (sign_finds v s.Star _ _ _ _ _ (word_finds v w.MutexParameter _ _ _ _ _ (sign_finds v s.Comma _ _ _ _ _ (sign_finds v s.Ellipsis _ _ _ _ _
          (sign_finds v s.RightParenthesis _ _ _ _ _ (sign_finds v s.Semicolon (pure tt) _ _ _ _ (pure_finds v.item after tt))))))))))))))

  -- ---- heads

  parameter_found : (before after : List Item) (n : List ℕ) → SpellsParameter before after n → at_head separates after → F v (parameter v) before after n
  unfolding parameter
  parameter_found _ after n (g.parameter {l = l} {m = m} {a = a} d) c = word_finds v w.Int (name v) l (at m a ∷ after) after n (name_finds v m a n after d)

  first_reaches : {l : ℕ} (before after : List Item) (x : List ℕ) → SpellsParameter (fixed l w.Int ∷ before) after x → Reaches v.item (name v >>= λ n. more v (parameter v) grown (alone n)) (more v (parameter v) grown (alone x)) before after
  first_reaches before after x (g.parameter {m = k} {a = a} d) = bind_reaches v.item (name v) (λ n. more v (parameter v) grown (alone n)) (at k a ∷ after) after x (name_finds v k a x after d)

  -- behind `int`
  some_parameters_find : {l m : ℕ} {before after : List Item} {all : List (List ℕ)} → Commas SpellsParameter (fixed l w.Int ∷ before) (sign m s.RightParenthesis ∷ after) all → F v (some_parameters v) before after all
  unfolding some_parameters same_sign
  some_parameters_find {l} {m} {before} {after} {all} d =
      ended_behind v (name v) (λ n. more v (parameter v) grown (alone n)) s.RightParenthesis m before after all
      (more_finds v (less_parameter v) grown (name v >>= λ n. more v (parameter v) grown (alone n)) before (sign m s.RightParenthesis ∷ after) all
      (commas_reach v (less_parameter v) grown (λ x. x) SpellsParameter separates refl parameter_found (λ all. all) (λ all x. refl) (name v >>= λ n. more v (parameter v) grown (alone n)) (fixed l w.Int ∷ before) before
      (λ after x i c. first_reaches before after x i) d refl) refl)

  pub parameters_front : {before after : List Item} {all : List (List ℕ)} → Commas SpellsParameter before after all → (l : ℕ) × (ts : List Item) × (before ≡ fixed l w.Int ∷ ts)
  parameters_front (one (g.parameter {l = l} {m = m} {a = a} {rest = rest} d)) = (l, at m a ∷ rest, refl)
  parameters_front (next d i) = parameters_front d

  parameters_find : {m : ℕ} {before after : List Item} {all : List (List ℕ)} → SpellsParameters before (sign m s.RightParenthesis ∷ after) all → F v (parameters v) before after all
  unfolding parameters
  parameters_find {m} {before} {after} g.nothing =
      commit_finds v.item (λ u. parameters_by v (seen v u)) refuse (sign m s.RightParenthesis) after after [] (λ u e. (pure [], rw e refl, pure_finds v.item after []))
  parameters_find {m} {before} {after} (g.void {l = l}) =
      commit_finds v.item (λ u. parameters_by v (seen v u)) refuse (fixed l w.Void) (sign m s.RightParenthesis ∷ after) after []
      (λ u e. (must (is v s.RightParenthesis) (pure []), rw e refl, sign_finds v s.RightParenthesis (pure []) m after after [] (pure_finds v.item after [])))
  parameters_find {m} {before} {after} {all} (g.ints d) = let y = parameters_front d in go y.0 y.1 y.2
    where
      go : (l : ℕ) (ts : List Item) → before ≡ fixed l w.Int ∷ ts → F v (parameters v) before after all
      go l ts p =
          subst (λ (w : List Item). F v (parameters v) w after all) (sym p)
          (commit_finds v.item (λ u. parameters_by v (seen v u)) refuse (fixed l w.Int) ts after all
          (λ u e. (some_parameters v, rw e refl, some_parameters_find (subst (λ (x : List Item). Commas SpellsParameter x (sign m s.RightParenthesis ∷ after) all) p d))))

  void_find : {m : ℕ} {before after : List Item} → SpellsVoid before (sign m s.RightParenthesis ∷ after) → F v (no_parameters v) before after []
  unfolding no_parameters
  void_find {m} {before} {after} g.absent = commit_finds v.item (λ u. no_parameters_by v (seen v u)) refuse (sign m s.RightParenthesis) after after [] (λ u e. (pure [], rw e refl, pure_finds v.item after []))
  void_find {m} {before} {after} (g.present {l = l}) =
      commit_finds v.item (λ u. no_parameters_by v (seen v u)) refuse (fixed l w.Void) (sign m s.RightParenthesis ∷ after) after []
      (λ u e. (must (is v s.RightParenthesis) (pure []), rw e refl, sign_finds v s.RightParenthesis (pure []) m after after [] (pure_finds v.item after [])))

  -- a head as the parser has it
  abbrev pub shown : g.Head → Head
  shown h = record { name = h.name; kind = h.kind; params = h.params; line = h.line }

  -- behind `int`, the name and `(`
  params_then : (head : List (List ℕ) → Head) (m : ℕ) (before after : List Item) (all : List (List ℕ)) → SpellsParameters before (sign m s.RightParenthesis ∷ after) all → F v (parameters v >>= λ all. pure (head all)) before after (head all)
  params_then head m before after all d = bind_finds v.item (parameters v) (λ all. pure (head all)) before after after all (head all) (parameters_find d) (pure_finds v.item after (head all))

  -- what `void` begins
  pub behind_void_finds : {l : ℕ} (before after : List Item) (h : g.Head) → SpellsHead (fixed l w.Void ∷ before) after h → F v (head_behind_void v l) before after (shown h)
  unfolding head_behind_void void_head thread_head start_head start_parameter same_sign
  behind_void_finds {l} before after _ (g.void_function {m = m} {n = n} {i = i} {a = a} {f = f} {ts = ts} {all = all} d x) =
      commit_finds v.item (void_by v l) refuse (at m a) (sign n s.LeftParenthesis ∷ ts) after (record { name = f; kind = kind.Void; params = all; line = l })
      (λ u e. (
        void_head v l f,
        goes u e,
        sign_finds v s.LeftParenthesis (parameters v >>= λ all. pure (record { name = f; kind = kind.Void; params = all; line = l })) n ts after (record { name = f; kind = kind.Void; params = all; line = l })
            (params_then (λ all. record { name = f; kind = kind.Void; params = all; line = l }) i ts after all x),
      ))
    where
      no_star : (a : What) → function_name a ≡ Some f → is_sign s.Star a ≡ false
      no_star (What.Sign x) e = absurd cc
      no_star _ e = refl

      goes : (u : Token) → v.item u ≡ at m a → void_by v l u ≡ Go (void_head v l f)
      goes u e = rw (e, no_star a d, d) refl
  behind_void_finds {l} before after _ (g.thread_function {m = m} {n = n} {i = i} {j = j} {g = k} {h = h} {d = e} {a = a} {b = b} {f = f} {x = x} d q) =
      commit_finds v.item (void_by v l) refuse (sign m s.Star) (at n a ∷ sign i s.LeftParenthesis ∷ fixed j w.Void ∷ sign k s.Star ∷ at h b ∷ sign e s.RightParenthesis ∷ after) after (record { name = f; kind = kind.Thread; params = x ∷ []; line = l })
      (λ u c. (
        thread_head v l,
        rw c refl,
        commit_finds v.item (λ u. go_named (start_head v l) (function_name (seen v u))) refuse (at n a) (sign i s.LeftParenthesis ∷ fixed j w.Void ∷ sign k s.Star ∷ at h b ∷ sign e s.RightParenthesis ∷ after) after
            (record { name = f; kind = kind.Thread; params = x ∷ []; line = l })
            (λ u c. (
              start_head v l f,
              rw (c, d) refl,
              sign_finds v s.LeftParenthesis (ended v s.RightParenthesis (start_parameter v) >>= λ x. pure (record { name = f; kind = kind.Thread; params = x ∷ []; line = l })) i
                  (fixed j w.Void ∷ sign k s.Star ∷ at h b ∷ sign e s.RightParenthesis ∷ after) after (record { name = f; kind = kind.Thread; params = x ∷ []; line = l })
                  (bind_finds v.item (ended v s.RightParenthesis (start_parameter v)) (λ x. pure (record { name = f; kind = kind.Thread; params = x ∷ []; line = l })) (fixed j w.Void ∷ sign k s.Star ∷ at h b ∷ sign e s.RightParenthesis ∷ after) after after x
                  (record { name = f; kind = kind.Thread; params = x ∷ []; line = l })
                  (ended_finds v (start_parameter v) s.RightParenthesis e (fixed j w.Void ∷ sign k s.Star ∷ at h b ∷ sign e s.RightParenthesis ∷ after) after x
                  (word_finds v w.Void (must (is v s.Star) (name v)) j (sign k s.Star ∷ at h b ∷ sign e s.RightParenthesis ∷ after) (sign e s.RightParenthesis ∷ after) x
                  (sign_finds v s.Star (name v) k (at h b ∷ sign e s.RightParenthesis ∷ after) (sign e s.RightParenthesis ∷ after) x (name_finds v h b x (sign e s.RightParenthesis ∷ after) q))))
                  (pure_finds v.item after (record { name = f; kind = kind.Thread; params = x ∷ []; line = l }))),
            )),
      ))

  -- ---- what `int` begins

  -- behind a name: a head
  head_finds : (holds : ℕ → Bool) (m : ℕ) (n : List ℕ) (head : Parser Token Head) (k : ℕ) (before after : List Item) (h : Head) → F v head before after h → F v (head_or_cells v holds m n head) (sign k s.LeftParenthesis ∷ before) after (begun.Head h)
  unfolding head_or_cells
  head_finds holds m n head k before after h x =
      commit_finds v.item (λ u. when (is v s.LeftParenthesis u) (by_head head)) (by_cells (cells_behind v holds m n)) (sign k s.LeftParenthesis) before after (begun.Head h)
      (λ u e. (by_head head, rw (is_at v s.LeftParenthesis k u e) refl, bind_finds v.item head (λ h. pure (begun.Head h)) before after after h (begun.Head h) x (pure_finds v.item after (begun.Head h))))

  pub int_head_finds : (holds : ℕ → Bool) (first : Bool) {l : ℕ} (before after : List Item) (h : g.Head) → SpellsHead (fixed l w.Int ∷ before) after h → F v (behind_int v holds first l) before after (begun.Head (shown h))
  unfolding behind_int main_head int_head capacities_or_head same_sign
  int_head_finds holds first {l} before after _ (g.main {m = m} {n = n} {i = i} {ts = ts} x) =
      commit_finds v.item (λ u. behind_int_by v holds first l (line v u) (seen v u)) refuse (fixed m w.Main) (sign n s.LeftParenthesis ∷ ts) after (begun.Head (record { name = spelling w.Main; kind = kind.Main; params = []; line = l }))
      (λ u e. (
        main_or_cells v holds l m,
        rw e refl,
        head_finds holds m (spelling w.Main) (main_head v l) n ts after (record { name = spelling w.Main; kind = kind.Main; params = []; line = l })
            (bind_finds v.item (no_parameters v) (λ all. pure (record { name = spelling w.Main; kind = kind.Main; params = all; line = l })) ts after after [] (record { name = spelling w.Main; kind = kind.Main; params = []; line = l }) (void_find x)
            (pure_finds v.item after (record { name = spelling w.Main; kind = kind.Main; params = []; line = l }))),
      ))
  int_head_finds holds first {l} before after _ (g.int_function {m = m} {n = n} {i = i} {a = a} {f = f} {ts = ts} {all = all} d x) = go a d
    where
      head : Head
      head = record { name = f; kind = kind.Int; params = all; line = l }

      params : F v (int_head v l f) ts after head
      params = params_then (λ all. record { name = f; kind = kind.Int; params = all; line = l }) i ts after all x

      by_name : (a : What) → name_of a ≡ Some f → (behind_int_by v holds first l m a ≡ go_named (function_or_cells v holds l m) (name_of a)) → F v (behind_int v holds first l) (at m a ∷ sign n s.LeftParenthesis ∷ ts) after (begun.Head head)
      by_name a d p =
          commit_finds v.item (λ u. behind_int_by v holds first l (line v u) (seen v u)) refuse (at m a) (sign n s.LeftParenthesis ∷ ts) after (begun.Head head)
          (λ u e. (function_or_cells v holds l m f, rw (e, p, d) refl, head_finds holds m f (int_head v l f) n ts after head params))

      go : (a : What) → function_name a ≡ Some f → F v (behind_int v holds first l) (at m a ∷ sign n s.LeftParenthesis ∷ ts) after (begun.Head head)
      go (What.Fixed w.Main) d = absurd cc
      go (What.Fixed w.Capacities) d =
          let same : spelling w.Capacities ≡ f = cc in
          commit_finds v.item (λ u. behind_int_by v holds first l (line v u) (seen v u)) refuse (fixed m w.Capacities) (sign n s.LeftParenthesis ∷ ts) after (begun.Head head)
          (λ u e. (
            capacities_or_head v first l m,
            rw e refl,
            other_finds v.item (capacities_by v first m) (capacities_head v l) (sign n s.LeftParenthesis ∷ ts) after (begun.Head head) (λ u e. rw e refl)
                (subst (λ (y : List ℕ). F v (must (is v s.LeftParenthesis) (by_head (int_head v l y))) (sign n s.LeftParenthesis ∷ ts) after (begun.Head head)) (sym same)
                (sign_finds v s.LeftParenthesis (by_head (int_head v l f)) n ts after (begun.Head head)
                (bind_finds v.item (int_head v l f) (λ h. pure (begun.Head h)) ts after after head (begun.Head head) params (pure_finds v.item after (begun.Head head))))),
          ))
      go a d = by_name a d refl

  cells_front : {before after : List Item} {all : List g.Declared} → Commas SpellsCell before after all → (l : ℕ) × (a : What) × (n : List ℕ) × (ts : List Item) × (before ≡ at l a ∷ ts) × (cell_name a ≡ Some n)
  cells_front (one {ts = before} {rest = after} {a = x} i) = cell_front before after x i
  cells_front (next d i) = cells_front d

  -- scalars and arrays don't go on with a parenthesis
  no_parenthesis : {l : ℕ} {a : What} {before after : List Item} {x : g.Declared} → SpellsCell (at l a ∷ before) after x → at_head separates after → (before ≡ after) ⊎ ((t : Item) × (ts : List Item) × (before ≡ t ∷ ts) × (is_sign s.LeftParenthesis (what_at t) ≡ false))
  unfolding same_sign
  no_parenthesis (g.scalar d) c = inl refl
  no_parenthesis (g.scalar_by {m = m} {ts = ts} d i) c = inr (sign m s.Assign, ts, refl, refl)
  no_parenthesis {after = after} (g.array {m = m} {i = i} {j = j} {len = len} d) c = inr (sign m s.LeftBracket, at i (What.Number len) ∷ sign j s.RightBracket ∷ after, refl, refl)
  no_parenthesis (g.array_by {m = m} {i = i} {j = j} {g = h} {h = k} {len = len} {ts = ts} d x) c =
      inr (sign m s.LeftBracket, at i (What.Number len) ∷ sign j s.RightBracket ∷ sign h s.Assign ∷ sign k s.LeftBrace ∷ ts, refl, refl)

  module _ (p : Parser Token Begun) where
    halts_by : (before after : List Item) → at_head no_open after → (before ≡ after) ⊎ ((t : Item) × (ts : List Item) × (before ≡ t ∷ ts) × (is_sign s.LeftParenthesis (what_at t) ≡ false)) → Halts v.item (λ u. when (is v s.LeftParenthesis u) p) before
    halts_by before [] c (inl e) = subst (λ (w : List Item). Halts v.item (λ u. when (is v s.LeftParenthesis u) p) w) (sym e) tt
    halts_by before (t ∷ after) c (inl e) = subst (λ (w : List Item). Halts v.item (λ u. when (is v s.LeftParenthesis u) p) w) (sym e) (λ u q. rw (q, no_open_is (what_at t) c) refl)
    halts_by before after c (inr y) = subst (λ (w : List Item). Halts v.item (λ u. when (is v s.LeftParenthesis u) p) w) (sym y.2) (λ u q. rw (q, y.3) refl)

    cells_halt : {l : ℕ} {a : What} {before after : List Item} {all : List g.Declared} → Commas SpellsCell (at l a ∷ before) after all → at_head separates after → Halts v.item (λ u. when (is v s.LeftParenthesis u) p) before
    cells_halt {before = before} (one {rest = after} i) c = halts_by before after (separates_open after c) (no_parenthesis i c)
    cells_halt (next d i) c = cells_halt d refl

  cells_find : (holds : ℕ → Bool) → ((k : ℕ) → holds k ≡ true) → (j m : ℕ) (a : What) (n : List ℕ) (head : Parser Token Head) (ts after : List Item) (all : List g.Declared) → Commas SpellsCell (at j a ∷ ts) (sign m s.Semicolon ∷ after) all
      → cell_name a ≡ Some n → F v (head_or_cells v holds j n head) ts after (begun.Cells (ints_of all))
  unfolding head_or_cells
  cells_find holds all_hold j m a n head ts after all d q =
      other_finds v.item (λ u. when (is v s.LeftParenthesis u) (by_head head)) (by_cells (cells_behind v holds j n)) ts after (begun.Cells (ints_of all)) (cells_halt (by_head head) d refl)
      (bind_finds v.item (cells_behind v holds j n) (λ all. pure (begun.Cells all)) ts after after (ints_of all) (begun.Cells (ints_of all)) (cells_behind_finds v holds all_hold ts after all d q) (pure_finds v.item after (begun.Cells (ints_of all))))

  named_goes : {A : Type 0} (p : List ℕ → Parser Token A) (o : Option (List ℕ)) (n : List ℕ) → o ≡ Some n → go_named p o ≡ Go (p n)
  named_goes p o n e = rw e refl

  -- scalars and arrays
  pub int_cells_find : (holds : ℕ → Bool) → ((k : ℕ) → holds k ≡ true) → (first : Bool) (l m : ℕ) (before after : List Item) (all : List g.Declared) → Commas SpellsCell before (sign m s.Semicolon ∷ after) all
      → F v (behind_int v holds first l) before after (begun.Cells (ints_of all))
  unfolding behind_int
  int_cells_find holds all_hold first l m before after all d = let y = cells_front d in go y.0 y.1 y.2 y.3 y.4 y.5
    where
      step : (j : ℕ) (a : What) (n : List ℕ) (ts : List Item) (head : Parser Token Head) → before ≡ at j a ∷ ts → cell_name a ≡ Some n → behind_int_by v holds first l j a ≡ Go (head_or_cells v holds j n head) → F v (behind_int v holds first l) before after (begun.Cells (ints_of all))
      step j a n ts head p q e =
          let x = subst (λ (w : List Item). Commas SpellsCell w (sign m s.Semicolon ∷ after) all) p d in
          subst (λ (w : List Item). F v (behind_int v holds first l) w after (begun.Cells (ints_of all))) (sym p)
          (commit_finds v.item (λ u. behind_int_by v holds first l (line v u) (seen v u)) refuse (at j a) ts after (begun.Cells (ints_of all))
          (λ u c. (head_or_cells v holds j n head, rw (c, e) refl, cells_find holds all_hold j m a n head ts after all x q)))

      go : (j : ℕ) (a : What) (n : List ℕ) (ts : List Item) → before ≡ at j a ∷ ts → cell_name a ≡ Some n → F v (behind_int v holds first l) before after (begun.Cells (ints_of all))
      go j (What.Fixed w.Main) n ts p q = let same : n ≡ spelling w.Main = cc in step j (What.Fixed w.Main) n ts (main_head v l) p q (rw same refl)
      go j (What.Fixed w.Capacities) n ts p q = absurd cc
      go j a n ts p q = step j a n ts (int_head v l n) p q (named_goes (function_or_cells v holds l j) (name_of a) n q)

  -- the capacities
  int_capacities_find : (holds : ℕ → Bool) (first : Bool) (l : ℕ) (before after : List Item) (c : g.Capacities) → SpellsMonitors (fixed l w.Int ∷ before) after c → first ≡ true
      → F v (behind_int v holds first l) before after (begun.Capacities (capacities_of c.line c.len c.values))
  unfolding behind_int
  int_capacities_find holds first l before after c (monitors {m = m} {n = n} {i = i} {j = j} {o = h} {h = b} {len = len} {ts = ts} x y z) f =
      commit_finds v.item (λ u. behind_int_by v holds first l (line v u) (seen v u)) refuse (fixed m w.Capacities) (sign n s.LeftBracket ∷ at i (What.Number len) ∷ sign j s.RightBracket ∷ sign h s.Assign ∷ sign b s.LeftBrace ∷ ts) after
      (begun.Capacities (capacities_of c.line c.len c.values))
      (λ u e. (capacities_or_head v first l m, rw e refl, capacities_find first l {k = l} {m = m} (sign n s.LeftBracket ∷ at i (What.Number len) ∷ sign j s.RightBracket ∷ sign h s.Assign ∷ sign b s.LeftBrace ∷ ts) after c (monitors x y z) f))

  -- whatever stands behind `int`
  pub behind_int_finds : (holds : ℕ → Bool) → ((k : ℕ) → holds k ≡ true) → (first : Bool) (l : ℕ) (before after : List Item) (x : Begun) → SpellsBehindInt first l before after x → F v (behind_int v holds first l) before after x
  behind_int_finds holds all_hold first l before after (begun.Cells x) y =
      subst (λ (w : Ints). F v (behind_int v holds first l) before after (begun.Cells w)) y.1.2 (int_cells_find holds all_hold first l y.0 before after y.1.0 y.1.1)
  behind_int_finds holds all_hold first l before after (begun.Head h) y = int_head_finds holds first before after (head_of h) y
  behind_int_finds holds all_hold first l before after (begun.Capacities c) y = int_capacities_find holds first l before after (shown_capacities c) y.1 y.0
