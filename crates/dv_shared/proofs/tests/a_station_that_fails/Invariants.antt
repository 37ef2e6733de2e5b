use Rattle.std.proofs.Common.{[], ◌∷◌}
use Rattle.dv_shared.specs.Events.{first_events}
use Rattle.dv_shared.proofs.tests.a_station_that_fails.Given as goal

-- the register that is about to be shared
abbrev pub ghosts-shut_by_a_fault-J-Naming : goal.ghosts-shut_by_a_fault-J-Naming
ghosts-shut_by_a_fault-J-Naming g a = record { table = a.unshared.table; start = first_events a.unshared.about.list a.unshared.about.shut }

abbrev pub ghosts-shut_by_a_fault-J-NamesRegister : goal.ghosts-shut_by_a_fault-J-NamesRegister
ghosts-shut_by_a_fault-J-NamesRegister g a = record { origin = a.unshared.about ∷ [] }
