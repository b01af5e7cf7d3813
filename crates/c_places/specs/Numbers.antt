-- The numbers of a program's cells, mutexes, conditions, functions and threads.
use Rattle.std.specs.Prelude.{◌≡◌, ◌+◌, ◌^◌, ◌<◌, length, map, sum_by}
use Rattle.c_tree.specs.Bare.{Program}
use Rattle.c_tree.specs.Numbering.{mutex_count, creations}
use Rattle.c_places.specs.declared.numbers.Numbers.{Numbers}
use Rattle.c_places.specs.Tables.{of_cell, of_array, of_object, of_function, IsTableOf}
use Rattle.c_places.specs.Slots.{kept, slots_of}

pub record AreNumbersOf (p : Program) (n : Numbers) : Type 0 where
  -- the ints come first, and behind them the members of the arrays
  pub ints : IsTableOf 0 (map of_cell p.ints) n.ints
  pub arrays : IsTableOf (length p.ints) (map of_array p.arrays) n.arrays
  pub cells_fit : length p.ints + sum_by (λ a. a.len) p.arrays < 2 ^ 64
  pub mutexes : IsTableOf 0 (map of_object p.mutexes) n.mutexes
  pub mutexes_fit : mutex_count p < 2 ^ 64
  pub count : n.mutex_count ≡ mutex_count p
  pub conditions : IsTableOf 0 (map of_object p.conds) n.conditions
  pub functions : IsTableOf 0 (map of_function p.functions) n.functions
  pub functions_fit : length p.functions < 2 ^ 64
  -- the slots of the create statements in their order
  pub slots : map kept n.slots.items ≡ slots_of (creations p)
