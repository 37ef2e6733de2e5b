use Rattle.std.proofs.Common.{[], arith}
use Rattle.dv_session.proofs.RunLemmas.{going_none, takes_none, serves_memory}
use Rattle.dv_session.proofs.serving.serve.Goals as goal

-- Nothing was taken, and nothing was sent.
pub returns-in-Err-clause-run : goal.returns-in-Err-clause-run
returns-in-Err-clause-run g c =
    serves_memory _ _ _ _ _ _ _ _ _ _ _ 0 (going_none _ _ _ _ _ _ c.requires.open) _ _ [] (takes_none _) (omega arith)
