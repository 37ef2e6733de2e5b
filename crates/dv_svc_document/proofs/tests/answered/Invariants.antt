use Rattle.dv_svc_document.proofs.tests.answered.Given as goal

-- the ledger that counts these verifications
abbrev pub ghosts-answered_in : goal.ghosts-answered_in
ghosts-answered_in a = record { name = a.blank.name; parts = a.blank.parts }
