use Rattle.dv_signed.proofs.check.tests.check.Given as goal

-- the ledger that counts these verifications
abbrev pub ghosts-checked : goal.ghosts-checked
ghosts-checked a = record { name = a.blank.name; parts = a.blank.parts }
