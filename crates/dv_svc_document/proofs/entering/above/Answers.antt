use Rattle.std.proofs.Common.{◌≡◌, List, ℕ, length, subst}
use Rattle.std.specs.Prelude.{IfOk}
use Rattle.dv_path.specs.Rows.{octets_of}
use Rattle.dv_signed.specs.Certificates.{certificates_of}
use Rattle.dv_signed.specs.SignedView.{view_signed}
use Rattle.dv_svc_document.proofs.EnteringLemmas.{rest_above, rest_within}
use Rattle.dv_svc_document.proofs.entering.above.Goals as goal

pub certificates-requires : goal.certificates-requires
certificates-requires c =
    rest_within (length (certificates_of (view_signed c.args.document.now.signed))) c.args.path c.in-Some.path c.as_slice.result.now c.in-Some.is c.as_slice.ensures c.requires

pub returns-in-len1-up : goal.returns-in-len1-up
returns-in-len1-up c =
    let cs : List (List ℕ) = certificates_of (view_signed c.args.document.now.signed) in
    subst (λ (l : List (List ℕ)). IfOk c.certificates.result (λ v. octets_of v.items ≡ l)) (rest_above cs c.args.path c.in-Some.path c.as_slice.result.now c.in-Some.is c.as_slice.ensures) c.certificates.ensures
