-- Expressions and places as plain data. They hold no lines.
use Rattle.std.specs.Prelude.{ℕ, List, [], ◌∷◌, map}
use Rattle.std.specs.declared.option.Option.{Option}
use Rattle.std.specs.Option.{option_map}
use Rattle.c_tree.specs.declared.expr.Op.{Op}
use Rattle.c_tree.specs.declared.expr.Expr as declared
use Rattle.c_tree.specs.declared.expr.Expr.{fold-Expr}
use Rattle.c_tree.specs.declared.expr.Expr.TheOpen.{Expr-F}
use Rattle.c_tree.specs.declared.expr.Expr.TheOpen as open_of
use Rattle.c_tree.specs.declared.expr.Place as declared_place

mutual
  pub data Expr : Type 0 where
    Number : (value : ℕ) → Expr
    Name : (name : List ℕ) → Expr
    Element : (name : List ℕ) (index : Expr) → Expr
    Arg : (name : List ℕ) → Expr
    Not : (operand : Expr) → Expr
    Minus : (operand : Expr) → Expr
    Binary : (op : Op) (left right : Expr) → Expr

  pub data Exprs : Type 0 where
    Nil : Exprs
    Cons : (first : Expr) (rest : Exprs) → Exprs

-- a scalar, or a member of an array
pub record Place : Type 0 where
  pub name : List ℕ
  pub index : Option Expr

-- one layer of a declared expression
abbrev pub layer : Expr-F Expr → Expr
layer (open_of.Number value) = Number value
layer (open_of.Name name) = Name name
layer (open_of.Element name index) = Element name index
layer (open_of.Arg name) = Arg name
layer (open_of.Not operand) = Not operand
layer (open_of.Minus operand) = Minus operand
layer (open_of.Binary op left right) = Binary op left right

-- a declared expression as plain data
abbrev pub expr_of : declared.Expr → Expr
expr_of e = fold-Expr Expr layer e

abbrev pub listed : List Expr → Exprs
listed [] = Nil
listed (e ∷ es) = Cons e (listed es)

abbrev pub exprs_of : List declared.Expr → Exprs
exprs_of es = listed (map expr_of es)

abbrev pub value_of : Option declared.Expr → Option Expr
value_of e = option_map expr_of e

abbrev pub place_of : declared_place.Place → Place
place_of place = record { name = place.name; index = value_of place.index }

abbrev pub target_of : Option declared_place.Place → Option Place
target_of target = option_map place_of target
