use Rattle.std.proofs.Common.{◌≡◌, ℕ, Option, Some, None, List, length, ap, sym, subst, ◌∙◌, refl, arith}
use Rattle.std.specs.Borrow.{Bor}
use Rattle.std.specs.Prelude.{option_map, slice_get}
use Rattle.std.specs.Option.{option_copied}
use Rattle.dv_schema.specs.Decodes.{HasSpelling}
use Rattle.dv_cms.specs.Types.{signed_data}
use Rattle.dv_members.proofs.MemberLemmas.{IsMember, member_is}
use Rattle.dv_signed.specs.Certificates.{certificates_in}
use Rattle.dv_signed.specs.Fields.{signed_with}
use Rattle.dv_signed.proofs.SetLemmas.{certificates_spelled}
use Rattle.dv_signed.proofs.signed_data.SignedData.certificate.Goals as goal

pub certificate_at-requires : goal.certificate_at-requires
certificate_at-requires c =
    let s = c.args.self.now in
    let P : Option (Bor (List ℕ)) → Type 0 = λ o. ∥ HasSpelling signed_data (signed_with s.version s.digest_algs.now s.content_type.now (option_copied s.content) (option_copied o) (option_copied s.crls) s.signer_infos.now) ∥₁ in
    certificates_spelled s.version s.digest_algs.now s.content_type.now (option_copied s.content) c.in-Some.set.now (option_copied s.crls) s.signer_infos.now (subst P c.in-Some.is s.spelled)

-- the octets of a slice
octets : Bor (List ℕ) → List ℕ
octets b = b.now

-- where there is one
copied_is : (o : Option (Bor (List ℕ))) → option_copied o ≡ option_map octets o
unfolding octets
copied_is None = refl
copied_is (Some b) = refl

-- the certificate that was found
found : (c : goal.After-certificate_at) → IsMember octets c.certificate_at.result (certificates_in (Some c.in-Some.set.now)) c.args.i
unfolding octets
found c = member_is octets c.certificate_at.result (certificates_in (Some c.in-Some.set.now)) c.args.i c.certificate_at.ensures

-- the sets are the same
same : (c : goal.After-certificate_at) → certificates_in (option_copied c.args.self.now.certificate_set) ≡ certificates_in (Some c.in-Some.set.now)
same c = ap (λ (o : Option (Bor (List ℕ))). certificates_in (option_copied o)) c.in-Some.is

pub returns-in-Some-clause-none : goal.returns-in-Some-clause-none
returns-in-Some-clause-none c =
    let n = c.args.self.now.certificates_counted in
    let m = ap length (same c) in
    (λ no. (let past = (found c).past no in omega arith), λ le. (found c).none (omega arith))

pub returns-in-Some-clause-certificate : goal.returns-in-Some-clause-certificate
returns-in-Some-clause-certificate c =
    copied_is c.certificate_at.result ∙ (found c).same ∙ ap (λ (l : List (List ℕ)). slice_get l c.args.i) (sym (same c))
