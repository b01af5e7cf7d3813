-- Samples of uses, computed.
use Rattle.std.proofs.Common.{refl}
use Rattle.c_rules.specs.UsingSamples.{ScopedNames, Misuses, Uses, Numbers, Recursions}

pub names_are_in_scope : ScopedNames
names_are_in_scope = record {
  read = (refl, refl);
  written = (refl, refl);
  index = (refl, refl);
  cast = (refl, refl);
  object = (refl, refl);
  called = (refl, refl);
  called_above = (refl, refl);
  called_below = (refl, refl);
  before_it = (refl, refl);
  in_its_value = (refl, refl);
  behind_its_list = (refl, refl);
  in_other_arm = (refl, refl);
  in_busy_arm = (refl, refl);
  in_inner_list = (refl, refl);
  of_loop = (refl, refl);
  behind_its_loop = (refl, refl);
  of_other_function = (refl, refl);
  of_capacities = refl;
}

pub misuses_are_wrong_kinds : Misuses
misuses_are_wrong_kinds = record {
  index_on_scalar = (refl, refl);
  index_on_local = (refl, refl);
  array_without_index = (refl, refl);
  mutex_as_int = (refl, refl);
  int_as_mutex = (refl, refl);
  mutexes_without_index = (refl, refl);
  index_on_mutex = (refl, refl);
  mutex_as_condition = (refl, refl);
  condition_as_mutex = (refl, refl);
  condition_as_mutex_tried = (refl, refl);
  function_as_int = (refl, refl);
  int_as_function = (refl, refl);
  call_of_thread = (refl, refl);
  result_of_void = (refl, refl);
  start_of_other = (refl, refl);
  argument_without_cast = (refl, refl);
  argument_written = (refl, refl);
  cast_of_int = (refl, refl);
  mutex_as_thread = (refl, refl);
}

pub uses_fit : Uses
uses_fit = record {
  of_ints = (refl, refl);
  of_objects = (refl, refl);
  of_trylock = (refl, refl);
  of_functions = (refl, refl);
}

pub numbers_match : Numbers
numbers_match = record {
  too_few = (refl, refl);
  too_many = (refl, refl);
  formats = (refl, refl);
  format_without = (refl, refl);
  format_with = (refl, refl);
  values = (refl, refl);
  too_many_values = (refl, refl);
  initialisers = (refl, refl);
  too_few_initialisers = (refl, refl);
  too_many_initialisers = (refl, refl);
  too_few_capacities = refl;
  too_many_capacities = refl;
}

pub recursions_are_found : Recursions
recursions_are_found = record {
  direct = (refl, refl);
  inside = (refl, refl);
  of_main = (refl, refl);
}
