use Rattle.std.proofs.Common.{◌∙◌, ap, sym}
use Rattle.dv_request.specs.TargetView.{view_target}
use Rattle.dv_svc_pkc.specs.Slices.{octets_of}
use Rattle.dv_svc_pkc.proofs.Gathered.{judged}
use Rattle.dv_svc_pkc.proofs.certificates.target_failure.Goals as goal

pub returns-then-are_certificates : goal.returns-then-are_certificates
returns-then-are_certificates c =
    let h = rw c.in-Some.is at c.in_ok-certificates.ensures in
    sym (judged (view_target c.args.target.now) c.deref.result.now _ h.0 (ap octets_of c.deref.ensures.value ∙ h.1) (sym c.are_certificates.ensures ∙ c.if-are_certificates.true))

pub returns : goal.returns
returns c =
    let h = rw c.in-Some.is at c.in_ok-certificates.ensures in
    sym (judged (view_target c.args.target.now) c.deref.result.now _ h.0 (ap octets_of c.deref.ensures.value ∙ h.1) (sym c.are_certificates.ensures ∙ c.if-are_certificates.false))
