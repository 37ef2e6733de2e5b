use Rattle.dv_lms.proofs.tests.verifies_in_parts.Given as goal

-- the ledger that counts these verifications
abbrev pub ghosts-counted_in_parts : goal.ghosts-counted_in_parts
ghosts-counted_in_parts a = record { name = a.blank.name; parts = a.blank.parts }
