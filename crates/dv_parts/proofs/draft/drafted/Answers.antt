use Rattle.std.proofs.Common.{◌<◌, ◌≤◌, ◌∙◌, ℕ, List, Option, length, sym, ap, subst, arith}
use Rattle.std.specs.Prelude.{IfSome}
use Rattle.std.specs.Option.{ForSome}
use Rattle.dv_time.specs.Text.{last_second}
use Rattle.dv_request.specs.InfoView.{view_info}
use Rattle.dv_draft.specs.Servers.{IsPolicyName}
use Rattle.dv_draft.specs.Signers.{AreSigners}
use Rattle.dv_parts.proofs.DraftLemmas.{made_fits, made_short}
use Rattle.dv_parts.proofs.RequestLemmas.{information_fits, information_short}
use Rattle.dv_parts.proofs.draft.drafted.Goals as goal

pub invariant_of-result : goal.invariant_of-result
invariant_of-result c =
    let r = c.args.request.now in
    let found = c.args.found in
    let info : List ℕ = c.in_ok-info.info in
    let policy : Option (List ℕ) = c.in_ok-policy.policy in
    let signers : Option (List ℕ) = c.in_ok-req_signature.req_signature in
    let same = c.in_ok-info.ensures ∙ r.info.whole in
    let few : length info < 4294967296 = omega (arith, ap length same, information_short r) in
    let named : ForSome policy IsPolicyName = subst (λ (o : Option (List ℕ)). ForSome o IsPolicyName) (sym (c.in_ok-policy.ensures ∙ c.as_ref.ensures.value)) c.args.server.now.named in
    let signed : IfSome signers AreSigners = subst (λ (o : Option (List ℕ)). IfSome o AreSigners) (sym c.in_ok-req_signature.ensures) c.requires.signers in
    let within : c.args.moment ≤ last_second = omega (arith, c.seconds-seconds.ensures.value, c.seconds-seconds.ensures.within) in
    record {
      spelled = made_fits (view_info r.info) info found.imprint c.args.moment found.status policy signers found.certs same few named signed c.requires.certs (information_fits r) within;
      short = made_short (view_info r.info) info found.imprint c.args.moment found.status policy signers found.certs same few named signed c.requires.certs;
    }
