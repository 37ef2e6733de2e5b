use Rattle.std.proofs.Common.{◌<◌, ◌^◌, length, sym, subst}
use Rattle.std.specs.Option.{option_copied}
use Rattle.dv_schema.specs.Fits.{Fits}
use Rattle.dv_schema.specs.Schema.{ValueOf, spelling}
use Rattle.dv_draft.specs.Types.{draft}
use Rattle.dv_draft.proofs.Copies.{copied_parts}
use Rattle.dv_draft.proofs.spans.DraftSpans.to_draft.Goals as goal

pub invariant_of-result-2 : goal.invariant_of-result-2
invariant_of-result-2 c =
    let s = c.args.self.now in
    let e = copied_parts s.imprint.kind s.imprint.with_null s.time s.status c.in_ok-info.info s.info.now c.in_ok-digest.digest s.imprint.digest.now c.in_ok-policy.policy (option_copied s.policy)
    c.in_ok-req_signature.req_signature (option_copied s.req_signature) c.in_ok-certs.certs (option_copied s.certs) c.in_ok-info.ensures c.in_ok-digest.ensures c.in_ok-policy.ensures c.in_ok-req_signature.ensures c.in_ok-certs.ensures in
    record {
      spelled = ∣ subst (λ (v : ValueOf draft). Fits draft 32 v) (sym e) c.requires.fits ∣₁;
      short = subst (λ (v : ValueOf draft). length (spelling draft v) < 2 ^ 63) (sym e) c.requires.short;
    }
