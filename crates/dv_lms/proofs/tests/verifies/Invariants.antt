use Rattle.dv_lms.proofs.tests.verifies.Given as goal

-- the ledger that counts these verifications
abbrev pub ghosts-counted : goal.ghosts-counted
ghosts-counted a = record { name = a.blank.name; parts = a.blank.parts }
