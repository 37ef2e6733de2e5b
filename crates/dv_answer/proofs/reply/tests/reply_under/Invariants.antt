use Rattle.dv_answer.proofs.reply.tests.reply_under.Given as goal

-- the ledger that counts the verifications of this reply
abbrev pub ghosts-replied : goal.ghosts-replied
ghosts-replied a = record { name = a.blank.name; parts = a.blank.parts }
