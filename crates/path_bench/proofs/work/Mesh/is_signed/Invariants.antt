use Rattle.path_bench.proofs.work.Mesh.is_signed.Given as goal

-- the ledger that counts these verifications
abbrev pub ghosts-verified : goal.ghosts-verified
ghosts-verified a = record { name = a.blank.name; parts = a.blank.parts }
