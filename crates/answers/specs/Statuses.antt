-- The statuses: their numbers, and what goes with each.
use Rattle.std.specs.Prelude.{ℕ, Bool, true, false}
use Rattle.answers.specs.declared.status.Status.{Status}
use Rattle.answers.specs.declared.status.Status.TheVariants.{Done, No, Usage, Refused, Limit, NoMonitor, HostFault, Memory}

abbrev pub number_of : Status → ℕ
number_of Done = 0
number_of No = 1
number_of Usage = 2
number_of Refused = 3
number_of Limit = 4
number_of NoMonitor = 5
number_of HostFault = 6
number_of Memory = 7

-- a call that ends so writes its text, and complains of nothing
abbrev pub is_written : Status → Bool
is_written Done = true
is_written No = true
is_written Usage = false
is_written Refused = false
is_written Limit = false
is_written NoMonitor = false
is_written HostFault = false
is_written Memory = false

-- a status that a command itself gives, once its files are read
abbrev pub is_decided : Status → Bool
is_decided Done = true
is_decided No = true
is_decided Usage = false
is_decided Refused = true
is_decided Limit = true
is_decided NoMonitor = true
is_decided HostFault = false
is_decided Memory = false
