-- The certificates and the signers of a SignedData (RFC 5652 5.1).
use Rattle.std.specs.Prelude.{◌≡◌, ℕ, Bool, ◌==◌, List, [], length, Option, Some, None, Ok, filter}
use Rattle.dv_schema.specs.Schema.{ValueOf}
use Rattle.dv_schema.specs.Fits.{tag_of}
use Rattle.dv_schema.specs.Reading.{Spot, all_at, read}
use Rattle.dv_members.specs.Members.{values_in}
use Rattle.dv_cms.specs.Types.{certificate_choice, signed_data, signer_info}
use Rattle.dv_signed.specs.Fields.{certificate_set_of, signer_set_of}

-- a CertificateChoices (RFC 5652 10.2.2) that is a Certificate, under tag 30; the other forms are skipped
abbrev pub is_certificate : List ℕ → Bool
is_certificate octets = tag_of octets == 48

-- the certificates in the contents octets of a set, each as its whole octets, in order; none where there is no set
abbrev pub certificates_in : Option (List ℕ) → List (List ℕ)
certificates_in None = []
certificates_in (Some octets) = filter is_certificate (values_in certificate_choice octets)

-- What is left behind a spot are values of such a set, and these are the certificates among them, in order.
abbrev pub AreLeft : List (List ℕ) → Spot → Type 0
AreLeft certificates p = (values : List (List ℕ)) × (all_at (read certificate_choice) (length p.rest) p ≡ Ok values) × (filter is_certificate values ≡ certificates)

-- those of a SignedData
abbrev pub certificates_of : ValueOf signed_data → List (List ℕ)
certificates_of v = certificates_in (certificate_set_of v)

-- the signers in the contents octets of a set, in order
abbrev pub signers_in : List ℕ → List (ValueOf signer_info)
signers_in octets = values_in signer_info octets

-- those of a SignedData
abbrev pub signers_of : ValueOf signed_data → List (ValueOf signer_info)
signers_of v = signers_in (signer_set_of v)
