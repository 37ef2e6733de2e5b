use Rattle.dv_session.proofs.issuing.issue_one.Given as goal

-- the ledger that counts the verifications of this reply
abbrev pub ghosts-reply_at : goal.ghosts-reply_at
ghosts-reply_at g a = record { name = a.blank.name; parts = a.blank.parts }
