-- Samples of threads and objects, computed.
use Rattle.std.proofs.Common.{refl}
use Rattle.c_rules.specs.ThreadSamples.{Mains, Creations, Joins, Arguments, Initialisations, Ranges}

pub main_is_there : Mains
main_is_there = record {
  missing = (refl, refl);
  there = (refl, refl);
}

pub threads_are_created_at_fixed_places : Creations
threads_are_created_at_fixed_places = record {
  fixed = (refl, refl);
  constant_sum = (refl, refl);
  in_branch = (refl, refl);
  in_loop = (refl, refl);
  in_thread = (refl, refl);
  open_index = (refl, refl);
  name_unread = (refl, refl);
  past_the_end = (refl, refl);
  negative = (refl, refl);
  undefined = (refl, refl);
  again = (refl, refl);
  again_by_sum = (refl, refl);
  alone_again = (refl, refl);
}

pub threads_are_joined_at_fixed_places : Joins
threads_are_joined_at_fixed_places = record {
  fixed = (refl, refl);
  by_sum = (refl, refl);
  before_create = (refl, refl);
  without_create = (refl, refl);
  again = (refl, refl);
  in_branch = (refl, refl);
  in_thread = (refl, refl);
  open_index = (refl, refl);
}

pub arguments_are_constant : Arguments
arguments_are_constant = record {
  number = (refl, refl);
  negative = (refl, refl);
  unread = (refl, refl);
  undefined = (refl, refl);
  too_large = (refl, refl);
  with_name = (refl, refl);
  name_unread = (refl, refl);
}

pub objects_are_initialised_early : Initialisations
objects_are_initialised_early = record {
  first = (refl, refl);
  in_loop = (refl, refl);
  in_thread = (refl, refl);
  behind_lock = (refl, refl);
  behind_trylock = (refl, refl);
  in_taken_arm = (refl, refl);
  behind_create = (refl, refl);
  behind_call = (refl, refl);
  behind_inner = (refl, refl);
  beside_lock = (refl, refl);
}

pub ranges_are_not_empty : Ranges
ranges_are_not_empty = record {
  array_len = (refl, refl);
  mutex_len = (refl, refl);
  condition_len = (refl, refl);
  slot_len = (refl, refl);
  capacity = refl;
  capacity_len = refl;
  take = refl;
  give = refl;
  wait_takes = refl;
  wait_of_last = refl;
  without_monitors = refl;
  last = refl;
}
