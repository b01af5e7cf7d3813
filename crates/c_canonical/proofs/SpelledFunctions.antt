-- The canonical lines of capacities and of functions spell them.
use Rattle.std.proofs.Common.{◌≡◌, ℕ, Bool, true, false, List, [], ◌∷◌, ◌++◌, codes, map, refl, sym, ap, ap₂, subst₂, Some}
use Rattle.std.specs.Prelude.{All}
use Rattle.c_lexer.specs.declared.token.Sign.TheVariants as s
use Rattle.c_layout.specs.Layout as layout
use Rattle.c_tree.specs.declared.program.Kind.{Kind}
use Rattle.c_tree.specs.declared.program.Kind.TheVariants as k
use Rattle.c_tree.specs.Lined as lined
use Rattle.c_tree.specs.Lined.{listed, bare_stmts, bare_function}
use Rattle.c_tree.specs.Bare.{Stmts, Function}
use Rattle.c_grammar.specs.declared.words.FixedWord.TheVariants as w
use Rattle.c_grammar.specs.Items.{Item, sign, spelling}
use Rattle.c_grammar.specs.Levels.{tall}
use Rattle.c_grammar.specs.Simple.{SpellsNumber}
use Rattle.c_grammar.specs.Statements as st
use Rattle.c_grammar.specs.Statements.{SpellsBody}
use Rattle.c_grammar.specs.Declarations as d
use Rattle.c_grammar.specs.Declarations.{SpellsPrototype, SpellsWaitPrototype, SpellsCapacities, SpellsParameter, SpellsParameters, SpellsHead, SpellsFunction}
use Rattle.c_canonical.specs.Expressions.{separated, numeral}
use Rattle.c_canonical.specs.Programs.{braced, equals, length_of, declared, monitor_call, wait_call, monitors, result_type, parameters, function_head, function}
use Rattle.c_canonical.specs.Statements.{statements}
use Rattle.c_canonical.specs.Shown.{Shows, nothing, shown, unseen}
use Rattle.c_canonical.specs.Shaped.{Usable}
use Rattle.c_canonical.specs.ShapedPrograms.{UsableFunction, ShapedHead, ShapedFunction}
use Rattle.c_canonical.proofs.Shown.{shows_append}
use Rattle.c_canonical.proofs.ShownLists.{same_shows, closed, separated_spelled, numeral_spelled}
use Rattle.c_canonical.proofs.SpelledBodies.{body_spelled}
use Rattle.c_canonical.proofs.SpelledDeclarations.{ended, in_braces}

-- ---- capacities

take_spelled : {ts rest : List Item} → Shows (monitor_call (codes "gd_take")) ts rest → SpellsPrototype w.Take ts rest
take_spelled (shown (unseen (shown (shown (shown (unseen (shown (shown (shown (unseen nothing)))))))))) = d.prototype

give_spelled : {ts rest : List Item} → Shows (monitor_call (codes "gd_give")) ts rest → SpellsPrototype w.Give ts rest
give_spelled (shown (unseen (shown (shown (shown (unseen (shown (shown (shown (unseen nothing)))))))))) = d.prototype

wait_call_spelled : (waits : Bool) {ts rest : List Item} → Shows (wait_call waits) ts rest → SpellsWaitPrototype ts rest
wait_call_spelled false nothing = d.absent
wait_call_spelled true
    (shown (unseen (shown (shown (shown (unseen (shown (shown (shown (unseen (shown (unseen (shown (shown (shown (unseen (shown (shown (shown (unseen nothing)))))))))))))))))))) =
    d.present

-- The capacities of the tree, at some line.
pub record CapacitiesSpelled (len : ℕ) (all : List ℕ) (ts rest : List Item) : Type 0 where
  pub line : ℕ
  pub spelled : SpellsCapacities ts rest (record { len = len; values = all; line = line })

abbrev calls : Bool → List layout.Item
calls waits = monitor_call (codes "gd_take") ++ (monitor_call (codes "gd_give") ++ wait_call waits)

-- The declarations of the calls that the tokens spell.
record CallsSpelled (ts rest : List Item) : Type 0 where
  mid : List Item
  last : List Item
  take : SpellsPrototype w.Take ts mid
  give : SpellsPrototype w.Give mid last
  wait : SpellsWaitPrototype last rest

calls_spelled : (waits : Bool) {ts rest : List Item} → Shows (calls waits) ts rest → CallsSpelled ts rest
calls_spelled waits h =
    let p = shows_append (monitor_call (codes "gd_take")) (monitor_call (codes "gd_give") ++ wait_call waits) _ _ h in
    let q = shows_append (monitor_call (codes "gd_give")) (wait_call waits) _ _ p.second in
    record { mid = p.mid; last = q.mid; take = take_spelled p.first; give = give_spelled q.first; wait = wait_call_spelled waits q.second }

-- The line of the capacities themselves.
abbrev first_line : ℕ → ℕ → List ℕ → List layout.Item
first_line len first more = declared (codes "int") (layout.word (codes "gd_cap") ∷ (length_of (Some len) ++ equals (braced (map numeral (first ∷ more)))))

capacities_by : (len first : ℕ) (more : List ℕ) {ts mid rest : List Item} → Shows (first_line len first more) ts mid → CallsSpelled mid rest
    → CapacitiesSpelled len (first ∷ more) ts rest
capacities_by len first more (shown (unseen (shown {line = l} (shown (shown (shown (unseen (shown (unseen (shown h)))))))))) p =
    let b = in_braces numeral (λ n. Unit {0}) SpellsNumber numeral_spelled first more (λ k d l. tt) h in
    record { line = l; spelled = d.capacities b.parts p.take p.give p.wait }

pub capacities_spelled : (len first : ℕ) (more : List ℕ) (waits : Bool) {ts rest : List Item} → Shows (monitors len (first ∷ more) waits) ts rest → CapacitiesSpelled len (first ∷ more) ts rest
capacities_spelled len first more waits h =
    let p = shows_append (first_line len first more) (calls waits) _ _ h in
    capacities_by len first more p.first (calls_spelled waits p.second)

-- ---- parameters

abbrev int_parameter : List ℕ → List layout.Item
int_parameter name = layout.word (codes "int") ∷ layout.space ∷ layout.word name ∷ []

parameter_spelled : (name : List ℕ) (ts rest : List Item) → Usable name → Shows (int_parameter name) ts rest → SpellsParameter ts rest name
parameter_spelled name _ _ f (shown (unseen (shown nothing))) = d.parameter f

-- The layout of parameters of type `int`.
abbrev int_parameters : List (List ℕ) → List layout.Item
int_parameters [] = layout.word (codes "void") ∷ []
int_parameters (p ∷ ps) = separated (map int_parameter (p ∷ ps))

parameters_spelled : (ps : List (List ℕ)) {ts rest : List Item} → All Usable ps → Shows (int_parameters ps) ts rest → SpellsParameters ts rest ps
parameters_spelled [] f (shown nothing) = d.void
parameters_spelled (p ∷ ps) f h = d.ints (separated_spelled int_parameter Usable SpellsParameter parameter_spelled p ps f h)

-- ---- heads

-- A head of the tree before its brace, at some line.
pub record HeadSpelled (kind : Kind) (name : List ℕ) (params : List (List ℕ)) (ts rest : List Item) : Type 0 where
  pub line : ℕ
  pub brace : ℕ
  pub spelled : SpellsHead ts (sign brace s.LeftBrace ∷ rest) (record { name = name; kind = kind; params = params; line = line })

-- What stands behind the parameters.
abbrev last_signs : List layout.Item
last_signs = layout.space ∷ layout.sign s.LeftBrace ∷ layout.newline ∷ []

-- The parameters of a function, and the `{` behind them.
record Given (inside : List layout.Item) (ts rest : List Item) : Type 0 where
  line : ℕ
  brace : ℕ
  part : Shows inside ts (sign line s.RightParenthesis ∷ sign brace s.LeftBrace ∷ rest)

given : (inside : List layout.Item) {ts rest : List Item} → Shows (inside ++ layout.sign s.RightParenthesis ∷ last_signs) ts rest → Given inside ts rest
given inside h = let c = closed inside s.RightParenthesis last_signs h in by c.part c.others
  where
    by : {l : ℕ} {ts mid rest : List Item} → Shows inside ts (sign l s.RightParenthesis ∷ mid) → Shows last_signs mid rest → Given inside ts rest
    by g (unseen (shown (unseen nothing))) = record { line = _; brace = _; part = g }

-- The layout of a head, by its parts.
abbrev head_of : Kind → List ℕ → List (List ℕ) → List layout.Item
head_of kind name params =
    layout.newline ∷ (result_type kind ++ layout.word name ∷ layout.sign s.LeftParenthesis ∷ (parameters kind params ++ layout.sign s.RightParenthesis ∷ last_signs))

int_same : (ps : List (List ℕ)) → parameters k.Int ps ≡ int_parameters ps
int_same [] = refl
int_same (p ∷ ps) = refl

void_same : (ps : List (List ℕ)) → parameters k.Void ps ≡ int_parameters ps
void_same [] = refl
void_same (p ∷ ps) = refl

main_by : {ts rest : List Item} → Shows (head_of k.Main (spelling w.Main) []) ts rest → HeadSpelled k.Main (spelling w.Main) [] ts rest
main_by (unseen (shown {line = l} (unseen (shown (shown (shown (shown (unseen (shown (unseen nothing)))))))))) = record { line = l; brace = _; spelled = d.main d.present }

int_by : (name : List ℕ) (ps : List (List ℕ)) {ts rest : List Item} → UsableFunction name × All Usable ps → Shows (head_of k.Int name ps) ts rest → HeadSpelled k.Int name ps ts rest
int_by name ps f (unseen (shown {line = l} (unseen (shown (shown h))))) =
    let g = given (parameters k.Int ps) h in
    let params = same_shows (int_same ps) g.part in
    record { line = l; brace = g.brace; spelled = d.int_function f.0 (parameters_spelled ps f.1 params) }

void_by : (name : List ℕ) (ps : List (List ℕ)) {ts rest : List Item} → UsableFunction name × All Usable ps → Shows (head_of k.Void name ps) ts rest → HeadSpelled k.Void name ps ts rest
void_by name ps f (unseen (shown {line = l} (unseen (shown (shown h))))) =
    let g = given (parameters k.Void ps) h in
    let params = same_shows (void_same ps) g.part in
    record { line = l; brace = g.brace; spelled = d.void_function f.0 (parameters_spelled ps f.1 params) }

thread_by : (name param : List ℕ) {ts rest : List Item} → UsableFunction name → Usable param → Shows (head_of k.Thread name (param ∷ [])) ts rest → HeadSpelled k.Thread name (param ∷ []) ts rest
thread_by name param f x (unseen (shown {line = l} (unseen (shown (shown (shown (shown (unseen (shown (shown (shown (unseen (shown (unseen nothing)))))))))))))) =
    record { line = l; brace = _; spelled = d.thread_function f x }

head_by : (kind : Kind) (name : List ℕ) (params : List (List ℕ)) {ts rest : List Item} → ShapedHead kind name params → Shows (head_of kind name params) ts rest → HeadSpelled kind name params ts rest
head_by k.Main name params {ts = ts} {rest = rest} f h =
    subst₂ (λ (n : List ℕ) (ps : List (List ℕ)). HeadSpelled k.Main n ps ts rest) (sym f.0) (sym f.1) (main_by (same_shows (ap₂ (head_of k.Main) f.0 f.1) h))
head_by k.Int name params f h = int_by name params f h
head_by k.Void name params f h = void_by name params f h
head_by k.Thread name [] f h = absurd f
head_by k.Thread name (param ∷ []) f h = thread_by name param f.0 f.1 h
head_by k.Thread name (param ∷ other ∷ more) f h = absurd f

pub head_spelled : (f : Function) {ts rest : List Item} → ShapedHead f.kind f.name f.params → Shows (function_head f) ts rest → HeadSpelled f.kind f.name f.params ts rest
head_spelled f x h = head_by f.kind f.name f.params x h

-- ---- functions

-- A function of the tree, at some lines and of some levels.
pub record FunctionSpelled (f : Function) (ts rest : List Item) : Type 0 where
  pub function : lined.Function
  pub levels : ℕ
  pub spelled : SpellsFunction ts rest (tall (record { function = function; slots = [] }) levels)
  pub is : bare_function function ≡ f

pub function_spelled : (f : Function) {ts rest : List Item} → ShapedFunction f → Shows (function f) ts rest → FunctionSpelled f ts rest
function_spelled f x h =
    let inside = statements f.kind (codes "    ") f.body in
    let p = shows_append (function_head f) (inside ++ layout.sign s.RightBrace ∷ layout.newline ∷ []) _ _ h in
    let head = head_spelled f x.0 p.first in
    let e = ended inside s.RightBrace p.second in
    let b = body_spelled f.kind (codes "    ") f.body _ _ x.1 e.part in
    record {
      function = record { name = f.name; kind = f.kind; params = f.params; body = listed b.stmts; line = head.line; end_line = e.line };
      levels = b.levels;
      spelled = d.function st.absent head.spelled b.spells;
      is = ap (λ (body : Stmts). record { name = f.name; kind = f.kind; params = f.params; body = body }) b.same;
    }
