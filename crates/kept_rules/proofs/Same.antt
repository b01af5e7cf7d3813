-- A program on other lines is an edit.
use Rattle.std.proofs.Common.{Bool, List, [], ap, arith, cond, false, inl, inr, length, refl, subst, sym, true, ℕ, ◌+◌, ◌∙◌, ◌∷◌, ◌≡◌, ◌≤◌}
use Rattle.std.specs.Prelude.{IsTrue, Some, bytes_eq, if◌then◌else◌, map}
use Rattle.std.specs.List.{enumerate_from}
use Rattle.c_tree.specs.declared.program.Mode.{Mode}
use Rattle.c_tree.specs.Bare as bare
use Rattle.c_tree.specs.Lined.{Call, Cons, Create, Declare, For, Function, If, Nil, Program, Stmt, Stmts, TryLock, Wait, While, bare_function, bare_program, bare_stmt, bare_stmts}
use Rattle.c_tree.specs.Numbering.{main_name}
use Rattle.c_rules.specs.declared.rule.Rule.TheVariants as rule
use Rattle.c_rules.specs.Sites.{Site, sites}
use Rattle.c_rules.specs.Formed.{KeepsRules}
use Rattle.c_rules.specs.Declarations.{Thing, named}
use Rattle.c_rules.specs.Declarations as thing
use Rattle.c_rules.specs.Uses.{Use, uses_of}
use Rattle.c_rules.specs.Meaning.{is_out_of_reach, meaning}
use Rattle.c_rules.specs.Counts.{limit}
use Rattle.c_rules.proofs.Members.{In, contains_of, in_map, in_of}
use Rattle.rule_facts.proofs.Fixed.{is_function}
use Rattle.rule_facts.proofs.Main.{names_apart}
use Rattle.rule_facts.proofs.Meant.{fits_function, function_meant, not_below, use_meant}
use Rattle.rule_facts.proofs.Tests.{first_part}
use Rattle.rule_facts.specs.Apart.{Apart, function_names}
use Rattle.rule_facts.specs.Meant.{names_function}
use Rattle.kept_rules.proofs.Like.{monitor_of}
use Rattle.kept_rules.proofs.Origin.{Origin, origin}
use Rattle.kept_rules.proofs.Unknown.{no_uses}
use Rattle.kept_rules.proofs.Used.{read, uses_read}
use Rattle.kept_rules.specs.Edit.{EditOf, Edits, PutTakes, is_simple}
use Rattle.kept_rules.specs.Programs.{Above, AreEdits, IsEditOf, IsFunctionEdit, Source}
use Rattle.kept_rules.specs.Uses.{itself, putting}

-- ---- statements

abbrev simple_bare : bare.Stmt → Bool
simple_bare (bare.Call target function args) = false
simple_bare (bare.Create slot function arg) = false
simple_bare (bare.If test a b) = false
simple_bare (bare.While test body) = false
simple_bare (bare.For first_part test step body) = false
simple_bare (bare.TryLock place a b) = false
simple_bare (bare.Wait cond mutex takes) = false
simple_bare s = true

simple_so : (s : Stmt) → simple_bare (bare_stmt s) ≡ is_simple s
simple_so (Declare line name value) = refl
simple_so s = refl

takes_kept : (limit : ℕ) (xs : List ℕ) → PutTakes limit xs xs
takes_kept limit [] = PutTakes.none
takes_kept limit (k ∷ ks) = PutTakes.keep k ks ks (takes_kept limit ks)

mutual
  pub edit_of : (limit : ℕ) (s t : Stmt) → bare_stmt s ≡ bare_stmt t → EditOf (putting limit) s t
  edit_of limit (Call l target name args) (Call m other n more) e =
      let k : Call m target name args ≡ Call m other n more = cc e in subst (EditOf (putting limit) (Call l target name args)) k (EditOf.call l m target name args)
  edit_of limit (Call l target name args) t e = absurd (cc e)
  edit_of limit (Create l slot name arg) (Create m other n more) e =
      let k : Create m slot name arg ≡ Create m other n more = cc e in subst (EditOf (putting limit) (Create l slot name arg)) k (EditOf.create l m slot name arg)
  edit_of limit (Create l slot name arg) t e = absurd (cc e)
  edit_of limit (If l test a b) (If m other c d) e =
      let k : If m test c d ≡ If m other c d = cc e in
      subst (EditOf (putting limit) (If l test a b)) k (EditOf.branch l m test a b c d (edits_of limit a c (cc e)) (edits_of limit b d (cc e)))
  edit_of limit (If l test a b) t e = absurd (cc e)
  edit_of limit (TryLock l place a b) (TryLock m other c d) e =
      let k : TryLock m place c d ≡ TryLock m other c d = cc e in
      subst (EditOf (putting limit) (TryLock l place a b)) k (EditOf.attempt l m place a b c d (edits_of limit a c (cc e)) (edits_of limit b d (cc e)))
  edit_of limit (TryLock l place a b) t e = absurd (cc e)
  edit_of limit (Wait l cond mutex takes) (Wait m other one others) e =
      let k : Wait m cond mutex takes ≡ Wait m other one others = cc e in
      subst (EditOf (putting limit) (Wait l cond mutex takes)) k (EditOf.wait l m cond mutex takes takes (takes_kept limit takes))
  edit_of limit (Wait l cond mutex takes) t e = absurd (cc e)
  edit_of limit (While l test a) (While m other c) e =
      let k : While m test c ≡ While m other c = cc e in subst (EditOf (putting limit) (While l test a)) k (EditOf.loop l m test a c (edits_of limit a c (cc e)))
  edit_of limit (While l test a) t e = absurd (cc e)
  edit_of limit (For l f test st b) (For m fo other so o) e =
      let k : For m fo test so o ≡ For m fo other so o = cc e in
      subst (EditOf (putting limit) (For l f test st b)) k (EditOf.counted l m test f st b fo so o (edits_of limit f fo (cc e)) (edits_of limit st so (cc e)) (edits_of limit b o (cc e)))
  edit_of limit (For l f test st b) t e = absurd (cc e)
  edit_of limit s t e = EditOf.same s t refl (subst IsTrue (ap simple_bare e ∙ simple_so t) refl) e

  pub edits_of : (limit : ℕ) (ss ts : Stmts) → bare_stmts ss ≡ bare_stmts ts → Edits (putting limit) ss ts
  edits_of limit Nil Nil e = Edits.none
  edits_of limit Nil (Cons t ts) e = absurd (cc e)
  edits_of limit (Cons s ss) Nil e = absurd (cc e)
  edits_of limit (Cons s ss) (Cons t ts) e = Edits.keep s t ss ts (edit_of limit s t (cc e)) (edits_of limit ss ts (cc e))

-- ---- functions

-- the function at this place
pub data Beside (fs : List (ℕ × Function)) (j : ℕ) (g : Function) : Type 0 where
  beside : (f : Function) → In (j, f) fs → bare_function g ≡ bare_function f → Beside fs j g

beside_more : (h : ℕ × Function) (fs : List (ℕ × Function)) (j : ℕ) (g : Function) → Beside fs j g → Beside (h ∷ fs) j g
beside_more h fs j g (Beside.beside f at e) = Beside.beside f (inr at) e

pub beside_in : (k : ℕ) (gs fs : List Function) → map bare_function gs ≡ map bare_function fs → (j : ℕ) (g : Function) → In (j, g) (enumerate_from k gs) → Beside (enumerate_from k fs) j g
beside_in k [] fs e j g at = absurd at
beside_in k (h ∷ gs) [] e j g at = absurd (cc e)
beside_in k (h ∷ gs) (f ∷ fs) e j g (inl is) =
    let a : bare_function h ≡ bare_function f = cc e in
    Beside.beside f (inl (ap (λ x. (x.0, f)) is)) (ap (λ x. bare_function x.1) (sym is) ∙ a)
beside_in k (h ∷ gs) (f ∷ fs) e j g (inr at) = beside_more (k, f) (enumerate_from (k + 1) fs) j g (beside_in (k + 1) gs fs (cc e) j g at)

pub function_edit : (limit : ℕ) (g f : Function) → bare_function g ≡ bare_function f → IsFunctionEdit (putting limit) g f
function_edit limit g f e = record {
  name = ap (λ (h : bare.Function). h.name) e;
  kind = ap (λ (h : bare.Function). h.kind) e;
  params = ap (λ (h : bare.Function). h.params) e;
  main = ap (λ (h : bare.Function). bytes_eq h.name main_name) e;
  body = edits_of limit g.body f.body (ap (λ (h : bare.Function). h.body) e);
}

pub are_edits : (q p : Program) → map bare_function q.functions ≡ map bare_function p.functions → AreEdits itself (λ k. k) q p
are_edits q p e g at = by (beside_in 0 q.functions p.functions e g.0 g.1 (in_of (enumerate_from 0 q.functions) g at))
  where
    by : Beside (enumerate_from 0 p.functions) g.0 g.1 → Source itself (λ k. k) p g
    by (Beside.beside f among is) = record { function = f; listed = contains_of (enumerate_from 0 p.functions) (g.0, f) among; edit = function_edit 0 g.1 f is }

pub names_by : (fs : List Function) → map (λ (f : Function). f.name) fs ≡ map (λ (b : bare.Function). b.name) (map bare_function fs)
names_by [] = refl
names_by (f ∷ fs) = ap (λ ns. f.name ∷ ns) (names_by fs)

-- ---- what is called

pub read_itself : (limit : ℕ) (u : Use) → read (putting limit) u ≡ u
read_itself limit u = go (names_function u.role)
  where
    go : (b : Bool) → record { name = if b then u.name else u.name; role = u.role; indexed = u.indexed } ≡ u
    go true = refl
    go false = refl

pub function_use : (p : Program) (y : Site) (u : Use) (th : Thing) → is_function th ≡ true → meaning p y u.name ≡ Some th → is_out_of_reach y.place (Some th) ≡ false → Above p y.place u.name
function_use p y u (thing.Function place f) is m reached =
    let k = function_meant p y u.name place f m in
    record { place = place; function = f; listed = contains_of (enumerate_from 0 p.functions) (place, f) k.listed; above = not_below y.place place reached; named = k.named }
function_use p y u th is m reached = absurd (cc is)

above_in : (q p : Program) → map bare_function p.functions ≡ map bare_function q.functions → (here : ℕ) (n : List ℕ) → Above p here n → Above q here n
above_in q p e here n a = by (beside_in 0 p.functions q.functions e a.place a.function (in_of (enumerate_from 0 p.functions) (a.place, a.function) a.listed))
  where
    by : Beside (enumerate_from 0 q.functions) a.place a.function → Above q here n
    by (Beside.beside g among is) = record {
      place = a.place;
      function = g;
      listed = contains_of (enumerate_from 0 q.functions) (a.place, g) among;
      above = a.above;
      named = ap (λ (h : bare.Function). h.name) (sym is) ∙ a.named;
    }

called_above : (q p : Program) (mode : Mode) → map bare_function q.functions ≡ map bare_function p.functions → KeepsRules p mode → (x : Site) (u : Use) → In u (uses_of x.stmt) → names_function u.role ≡ true
    → Origin itself (λ k. k) p x → Above q x.place u.name
called_above q p mode e keeps x u at is (Origin.put monitor) = absurd (subst (In u) (no_uses q x x.stmt (monitor_of itself x.stmt monitor)) at)
called_above q p mode e keeps x u at is (Origin.like g f y among fe in_p like) =
    let in_y : In u (uses_of y.stmt) = subst (λ v. In v (uses_of y.stmt)) (read_itself 0 u) (subst (In (read itself u)) (uses_read itself x.stmt y.stmt like.stmt) (in_map (read itself) (uses_of x.stmt) u at)) in
    let m = use_meant p (keeps rule.Unknown) (keeps rule.WrongKind) y u in_p in_y in
    let here : y.place ≡ x.place = like.place.1 ∙ sym like.place.0 in
    subst (λ k. Above q k u.name) here (above_in q p (sym e) y.place u.name (function_use p y u m.thing (fits_function m.thing u.role u.indexed is m.fit) m.meant m.reached))

pub same_edit : (q p : Program) (mode : Mode) → bare_program q ≡ bare_program p → KeepsRules p mode → IsEditOf itself (λ k. k) q p
same_edit q p mode e keeps =
    let fs : map bare_function q.functions ≡ map bare_function p.functions = ap (λ (b : bare.Program). b.functions) e in
    let ns : function_names q ≡ function_names p = names_by q.functions ∙ (ap (map (λ (b : bare.Function). b.name)) fs ∙ sym (names_by p.functions)) in
    record {
      declared = record {
        ints = ap (λ (b : bare.Program). b.ints) e;
        arrays = ap (λ (b : bare.Program). b.arrays) e;
        mutexes = ap (λ (b : bare.Program). b.mutexes) e;
        conds = ap (λ (b : bare.Program). b.conds) e;
        threads = ap (λ (b : bare.Program). b.threads) e;
      };
      functions = are_edits q p fs;
      monitors = subst (λ ms. length p.monitors ≤ length ms) (ap (λ (b : bare.Program). b.monitors) (sym e)) (omega arith);
      limit = omega arith;
      called = λ x u at of is. called_above q p mode fs keeps x u (in_of (uses_of x.stmt) u of) is (origin itself (λ k. k) q p x (are_edits q p fs) (in_of (sites q) x at));
      apart = subst Apart (sym ns) (names_apart p mode keeps);
      fresh = λ g at. inl (contains_of (function_names p) g.name (subst (In g.name) ns (in_map (λ (f : Function). f.name) q.functions g (in_of q.functions g at))));
    }
