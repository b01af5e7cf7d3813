-- Samples of names, computed.
use Rattle.std.proofs.Common.{refl}
use Rattle.c_rules.specs.NamingSamples.{KeptNames, CopyNames, KeptMonitors, LongNames, RepeatedNames}

pub kept_names_are_reserved : KeptNames
kept_names_are_reserved = record {
  of_tool = (refl, refl);
  of_threads = (refl, refl);
  of_initialisers = (refl, refl);
  null = (refl, refl);
  print = (refl, refl);
  scan = (refl, refl);
  pointer = (refl, refl);
  as_copy = (refl, refl);
  local = (refl, refl);
  parameter = (refl, refl);
  no_digits = (refl, refl);
  no_end = (refl, refl);
  no_front = (refl, refl);
}

pub copies_are_named_in_any_mode : CopyNames
copies_are_named_in_any_mode = record {
  in_source = refl;
  of_any = refl;
  of_copy = refl;
  of_main = (refl, refl);
  of_copied_main = (refl, refl);
  of_long_name = refl;
  of_keyword = (refl, refl);
  of_later_word = refl;
  of_library = (refl, refl);
  of_nothing = (refl, refl);
}

pub monitors_are_of_the_tool : KeptMonitors
monitors_are_of_the_tool = record {
  capacities = refl;
  take = refl;
  give = refl;
  wait = refl;
  wait_with_takes = refl;
  of_any = refl;
}

pub names_leave_room : LongNames
names_leave_room = record {
  fits = (refl, refl);
  in_source = refl;
  of_any = refl;
  of_int = (refl, refl);
}

pub names_have_one_meaning : RepeatedNames
names_have_one_meaning = record {
  outside = (refl, refl);
  other_kinds = (refl, refl);
  later_counts = (refl, refl);
  of_function = (refl, refl);
  parameters = (refl, refl);
  parameter_of_function = (refl, refl);
  local_of_outer = (refl, refl);
  local_of_main = (refl, refl);
  local_of_parameter = (refl, refl);
  local_of_local = (refl, refl);
  in_body_of_for = (refl, refl);
  after_its_list = (refl, refl);
  after_its_for = (refl, refl);
  in_two_functions = (refl, refl);
}
