use Rattle.dv_draft.proofs.ServerLemmas.{policy_name}
use Rattle.dv_draft.proofs.server.is_policy_name.Goals as goal

pub returns-then-octets-le-POLICY_LIMIT : goal.returns-then-octets-le-POLICY_LIMIT
returns-then-octets-le-POLICY_LIMIT c =
    policy_name c.args.octets.now c.read_identifier.result c.read_identifier.ensures.octets c.if-octets-le-POLICY_LIMIT.true c.read_identifier.ensures.read c.is_ok.result c.is_ok.ensures.value
