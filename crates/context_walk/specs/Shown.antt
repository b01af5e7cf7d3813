-- How items of the code are seen as those of the definitions.
use Rattle.std.specs.Prelude.{List, [], ◌∷◌, map}
use Rattle.c_tree.specs.Expressions.{exprs_of, place_of, value_of}
use Rattle.c_tree.specs.Lined.{Stmts}
use Rattle.context_items.specs.Items as spec
use Rattle.context_walk.specs.declared.items.Item as declared_item
use Rattle.context_walk.specs.declared.items.Item.TheVariants as declared

abbrev pub shown_item : declared_item.Item → spec.Item
shown_item declared.Opens = spec.Opens
shown_item declared.Closes = spec.Closes
shown_item (declared.Declares name value) = spec.Declares name.now (value_of value.now)
shown_item (declared.Locks line place) = spec.Locks line (place_of place.now)
shown_item (declared.Holds monitor) = spec.Holds monitor
shown_item (declared.Calls name args) = spec.Calls name.now (exprs_of args.now)

abbrev pub shown_items : List declared_item.Item → List spec.Item
shown_items is = map shown_item is

-- the items of a list, alone and as a block
abbrev pub list_items : Stmts → List spec.Item
list_items ss = spec.items_all ss []

abbrev pub block_items : Stmts → List spec.Item
block_items ss = spec.Opens ∷ spec.items_all ss (spec.Closes ∷ [])
