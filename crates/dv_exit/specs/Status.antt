-- The numbers of the exit statuses.
use Rattle.std.specs.Prelude.{ℕ}
use Rattle.dv_register.specs.declared.refusals.Open.{Open}
use Rattle.dv_register.specs.declared.refusals.Open.TheVariants.{NotRegister, OtherKey, Fault as OpenFault, Memory as OpenMemory}
use Rattle.dv_exit.specs.declared.status.Status.{Status}
use Rattle.dv_exit.specs.declared.status.Status.TheVariants.{Done, Words, File, Read, Put, Station, Clock, Memory, Input, Shelf, Range, Absent, Limit}

abbrev pub number_of : Status → ℕ
number_of Done = 0
number_of Words = 2
number_of File = 3
number_of Read = 4
number_of Put = 5
number_of Station = 6
number_of Clock = 7
number_of Memory = 8
number_of Input = 9
number_of Shelf = 10
number_of Range = 11
number_of Absent = 12
number_of Limit = 13

-- the status of each refusal of an opening
abbrev pub status_of_open : Open → ℕ
status_of_open (NotRegister place) = 3
status_of_open OtherKey = 3
status_of_open OpenFault = 6
status_of_open OpenMemory = 8
