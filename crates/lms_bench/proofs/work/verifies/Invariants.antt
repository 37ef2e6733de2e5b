use Rattle.lms_bench.proofs.work.verifies.Given as goal

-- the ledger that counts this verification
abbrev pub ghosts-counted : goal.ghosts-counted
ghosts-counted a = record { name = a.blank.name; parts = a.blank.parts }
