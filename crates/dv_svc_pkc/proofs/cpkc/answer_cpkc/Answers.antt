use Rattle.std.proofs.Common.{◌≡◌, ◌∙◌, ℕ, List, Option, None, ap, map, refl, sym, subst}
use Rattle.std.specs.Option.{option_copied}
use Rattle.std.proofs.Math.Logic.{∥∥₁_elim}
use Rattle.dv_request.specs.DataView.{targets_of, view_data}
use Rattle.dv_request.specs.declared.data.Data.{Data}
use Rattle.dv_schema.specs.Schema.{ValueOf}
use Rattle.dv_request.specs.RequestView.{view_request}
use Rattle.dv_request.specs.TargetView.{view_target}
use Rattle.dv_request.specs.Targets.{targets_in}
use Rattle.dv_request.specs.Types.{target_chain}
use Rattle.dv_draft.specs.Views.{view_draft}
use Rattle.dv_svc_pkc.specs.declared.entry.Finding.{Finding}
use Rattle.dv_svc_pkc.specs.Certificates.{certs_in, pkc_failure}
use Rattle.dv_svc_pkc.specs.Validated.{AreFindings, draft_from}
use Rattle.dv_svc_pkc.proofs.Drafted.{is_pkc, not_some, some_same}
use Rattle.dv_svc_pkc.proofs.Requested.{some_target}
use Rattle.dv_svc_pkc.proofs.cpkc.answer_cpkc.Goals as goal

pub found-requires-clause-some : goal.found-requires-clause-some
found-requires-clause-some g c =
    let r = c.args.request.now in
    let a = subst (λ (d : Data). AreFindings c.args.trust.now c.validation_moment-when.result (targets_of d) c.in_ok-findings-in-Certs.findings.items) c.in-Certs.is c.in_ok-findings-in-Certs.ensures.found in
    let some = some_target r c.in-Certs.raw c.in-Certs.targets c.in-Certs.is in
    λ e. some (sym a.one_each ∙ ap (map (λ (f : Finding). view_target f.target)) (sym c.deref.ensures.value ∙ e))

pub unreachable-requires : goal.unreachable-requires
unreachable-requires g c = ∥∥₁_elim c.requires.certs (hlevel) (λ p. (let no = sym (ap (λ (d : Data). certs_in (view_data d)) c.in-Message.is) ∙ p.1 in cc))

pub unreachable-requires-in-Imprint : goal.unreachable-requires-in-Imprint
unreachable-requires-in-Imprint g c = ∥∥₁_elim c.requires.certs (hlevel) (λ p. (let no = sym (ap (λ (d : Data). certs_in (view_data d)) c.in-Imprint.is) ∙ p.1 in cc))

pub returns-clause-answer : goal.returns-clause-answer
returns-clause-answer g c = λ certs is.
    (let r = c.args.request.now in
    let fs : List Finding = c.in_ok-findings-in-Certs.findings.items in
    let same : c.in-Certs.raw.now ≡ certs = some_same (sym (ap (λ (d : Data). certs_in (view_data d)) c.in-Certs.is) ∙ is) in
    let targets : targets_of r.matter ≡ targets_in certs = ap targets_of c.in-Certs.is ∙ ap targets_in same in
    let a = subst (λ (ts : List (ValueOf target_chain)). AreFindings c.args.trust.now c.validation_moment-when.result ts fs) targets c.in_ok-findings-in-Certs.ensures.found in
    let policy : Option (List ℕ) = c.args.server.now.policy in
    let signers : Option (List ℕ) = option_copied c.args.signers in
    let d = c.in_ok-draft-in-Certs.draft in
    let f = c.in_ok-found-in-Certs.found in
    let parts = c.in_ok-found-in-Certs.ensures in
    let made = c.in_ok-draft-in-Certs.ensures ∙ rw (parts.imprint, parts.status, parts.certs) refl in
    let from = made ∙ (ap (λ (x : List ℕ). draft_from (view_request r) x c.deref.result.now c.args.moment policy signers) same
    ∙ ap (λ (x : List Finding). draft_from (view_request r) certs x c.args.moment policy signers) c.deref.ensures.value) in
    let pkc = is_pkc (view_request r) certs c.args.trust.now c.args.moment c.validation_moment-when.result policy signers fs (view_draft d) c.validation_moment-when.ensures a from in
    let none = not_some c.in_ok-bit-in-Certs.field-0 c.in_default.not-Some in
    let taken : pkc_failure (targets_in certs) ≡ None = ap pkc_failure (sym targets) ∙ (sym c.in_ok-bit-in-Certs.ensures ∙ none) in
    rw taken pkc)
