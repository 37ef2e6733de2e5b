use Rattle.dv_svc_possession.proofs.ClaimLemmas.{copy_is}
use Rattle.dv_svc_possession.proofs.possession.claim_imprint.Goals as goal

pub returns : goal.returns
returns c = copy_is c.args.claim.now c.args.kind c.is_some.result c.in_ok-copied.field-0 c.requires.named c.is_some.ensures c.in_ok-copied.ensures
