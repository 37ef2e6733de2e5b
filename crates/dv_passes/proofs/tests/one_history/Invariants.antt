use Rattle.std.proofs.Common.{[]}
use Rattle.dv_passes.proofs.tests.one_history.Given as goal

-- the history that was made above
abbrev pub ghosts-added_by_two : goal.ghosts-added_by_two
ghosts-added_by_two g a = record { table = a.unnamed.table; start = [] }
