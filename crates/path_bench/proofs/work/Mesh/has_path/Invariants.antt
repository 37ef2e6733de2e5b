use Rattle.path_bench.proofs.work.Mesh.has_path.Given as goal

-- the ledger that counts these verifications
abbrev pub ghosts-searched : goal.ghosts-searched
ghosts-searched a = record { name = a.blank.name; parts = a.blank.parts }
