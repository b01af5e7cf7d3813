-- What the functions of this crate ensure: what they answer is what a parser over their tokens reads.
use Rattle.std.specs.Prelude.{◌≡◌, List, map, Result, Ok, Err}
use denote.Ref.{Bor}
use Rattle.c_tree.specs.declared.expr.Expr as declared
use Rattle.c_tree.specs.declared.expr.Place as declared_place
use Rattle.c_tree.specs.Expressions.{Expr, Exprs, Place, expr_of, exprs_of, place_of}
use Rattle.c_grammar.specs.Levels.{Tall, tall}
use Rattle.parse_laws.specs.declared.fault.Refusal.{Refusal}
use Rattle.parse_laws.specs.Gives.{Refuses}
use Rattle.parse_laws.specs.Parser.{Outcome, Got}
use Rattle.c_expressions.specs.declared.token.Marked.{Marked}
use Rattle.c_expressions.specs.declared.token.Setting.{Setting}
use Rattle.c_expressions.specs.declared.tall.Tall as shown
use Rattle.c_expressions.specs.Marked.{item_of}
use Rattle.c_expressions.specs.Parsers.{Sight}

-- how the code sees its tokens
abbrev pub sight : Setting → Sight Marked
sight setting = record {
  item = item_of setting.text.now;
  casts = setting.casts;
  void = setting.void;
  null = setting.null;
  ready_mutexes = setting.ready_mutexes;
  ready_conditions = setting.ready_conditions;
  threads = setting.threads;
  declarations = setting.declarations;
}

-- a part of the tree as plain data, with the levels that it takes
abbrev pub tall_of : {A B : Type 0} → (A → B) → shown.Tall A → Tall B
tall_of view x = tall (view x.tree) x.levels

-- the answer is the outcome, where a value is seen so
abbrev pub Shows : {Token A B : Type 0} → (A → B) → Result (A × Bor (List Token)) (Refusal Token) → Outcome Token B → Type 0
Shows view (Ok x) o = o ≡ Got (view x.0) x.1.now
Shows view (Err e) o = Refuses e o

abbrev pub GivesExpression : Result (shown.Tall declared.Expr × Bor (List Marked)) (Refusal Marked) → Outcome Marked (Tall Expr) → Type 0
GivesExpression result o = Shows (tall_of expr_of) result o

-- expressions in their order
abbrev pub list_of : List declared.Expr → List Expr
list_of es = map expr_of es

abbrev pub GivesList : Result (shown.Tall (List declared.Expr) × Bor (List Marked)) (Refusal Marked) → Outcome Marked (Tall (List Expr)) → Type 0
GivesList result o = Shows (tall_of list_of) result o

-- the same, as the arguments of a call
abbrev pub GivesArguments : Result (shown.Tall (List declared.Expr) × Bor (List Marked)) (Refusal Marked) → Outcome Marked (Tall Exprs) → Type 0
GivesArguments result o = Shows (tall_of exprs_of) result o

abbrev pub GivesPlace : Result (shown.Tall declared_place.Place × Bor (List Marked)) (Refusal Marked) → Outcome Marked (Tall Place) → Type 0
GivesPlace result o = Shows (tall_of place_of) result o
