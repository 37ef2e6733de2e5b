-- What a request that is made is about.
use Rattle.std.specs.Prelude.{ℕ, ◌≤◌, Bool, true, false, List, All, ⊤, length, sum_by}
use Rattle.dv_schema.specs.Schema.{ValueOf}
use Rattle.dv_schema.specs.Fits.{Fits}
use Rattle.dv_asn1.specs.Lists.{lists_of}
use Rattle.dv_request.specs.declared.material.Material.{Material}
use Rattle.dv_request.specs.declared.material.Material.TheVariants.{Octets, Digest, Certificates}
use Rattle.dv_request.specs.declared.service.Service.{Service}
use Rattle.dv_request.specs.declared.service.Service.TheVariants.{Cpd, Vsd, Cpkc, Ccpd}
use Rattle.dv_request.specs.Made.{certificates_data, digest_data, message_data}
use Rattle.dv_request.specs.Types.{data_of_request, whole_certificate}

-- the material goes with the service: octets with cpd and vsd, certificates with cpkc, and a digest with ccpd
abbrev pub goes_with : Service → Material → Bool
goes_with Cpd (Octets octets) = true
goes_with Vsd (Octets octets) = true
goes_with Cpkc (Certificates certificates) = true
goes_with Ccpd (Digest digest) = true
goes_with _ _ = false

-- a certificate, before it is looked at, that fits where a target's certificates stand in a message, at depth 7
abbrev pub IsCertificate : List ℕ → Type 0
IsCertificate octets = Fits (whole_certificate 48) 26 octets

-- where the material is certificates there are 1 to 16
abbrev pub AreCertificates : Material → Type 0
AreCertificates (Octets octets) = ⊤
AreCertificates (Digest digest) = ⊤
AreCertificates (Certificates certificates) = (1 ≤ length certificates.now) × (length certificates.now ≤ 16) × All IsCertificate (lists_of certificates.now)

-- how many octets the material has
abbrev pub octets_in : Material → ℕ
octets_in (Octets octets) = length octets.now
octets_in (Digest digest) = 32
octets_in (Certificates certificates) = sum_by (λ v. length v.items) certificates.now

-- the data that stand for the material
abbrev pub data_of : Material → ValueOf data_of_request
data_of (Octets octets) = message_data octets.now
data_of (Digest digest) = digest_data digest.now
data_of (Certificates certificates) = certificates_data (lists_of certificates.now)

-- their data have at most so many octets more
abbrev pub data_overhead : Material → ℕ
data_overhead (Octets octets) = 10
data_overhead (Digest digest) = 17
data_overhead (Certificates certificates) = 30
