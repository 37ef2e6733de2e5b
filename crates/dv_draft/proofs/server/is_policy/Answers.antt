use Rattle.std.proofs.Common.{ap}
use Rattle.std.specs.Prelude.{option_map}
use Rattle.dv_draft.proofs.ServerLemmas.{for_policy}
use Rattle.dv_draft.proofs.server.is_policy.Goals as goal

pub returns-in-Some : goal.returns-in-Some
returns-in-Some c =
    for_policy c.is_policy_name.result c.in-Some.octets.items c.deref.result.now _ (ap (option_map (λ v. v.items)) c.in-Some.is) c.deref.ensures.value c.is_policy_name.ensures
