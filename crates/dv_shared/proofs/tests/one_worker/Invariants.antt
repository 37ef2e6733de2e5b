use Rattle.std.proofs.Common.{[], ◌∷◌}
use Rattle.dv_shared.specs.Events.{first_events}
use Rattle.dv_shared.proofs.tests.one_worker.Given as goal

-- the register that is about to be shared
abbrev pub ghosts-two_records-J-Naming : goal.ghosts-two_records-J-Naming
ghosts-two_records-J-Naming g a = record { table = a.unshared.table; start = first_events a.unshared.about.list a.unshared.about.shut }

abbrev pub ghosts-two_records-J-NamesRegister : goal.ghosts-two_records-J-NamesRegister
ghosts-two_records-J-NamesRegister g a = record { origin = a.unshared.about ∷ [] }
