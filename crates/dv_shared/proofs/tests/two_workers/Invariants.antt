use Rattle.std.proofs.Common.{[], ◌∷◌}
use Rattle.dv_shared.specs.Events.{first_events}
use Rattle.dv_shared.proofs.tests.two_workers.Given as goal

-- the register that is about to be shared
abbrev pub ghosts-two_at_once-J-Naming : goal.ghosts-two_at_once-J-Naming
ghosts-two_at_once-J-Naming g a = record { table = a.unshared.table; start = first_events a.unshared.about.list a.unshared.about.shut }

abbrev pub ghosts-two_at_once-J-NamesRegister : goal.ghosts-two_at_once-J-NamesRegister
ghosts-two_at_once-J-NamesRegister g a = record { origin = a.unshared.about ∷ [] }
