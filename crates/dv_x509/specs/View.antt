-- Certificates as values of their schema.
use Rattle.std.specs.Prelude.{◌≡◌, ℕ, ◌≤◌, List, length, Result, IfOk}
use Rattle.dv_schema.specs.Schema.{FieldsOf, spelling}
use Rattle.dv_schema.specs.Fits.{Fits}
use Rattle.dv_x509.specs.declared.certificate.Certificate.{Certificate}
use Rattle.dv_x509.specs.declared.fault.X509.{X509}
use Rattle.dv_x509.specs.Fields.{certificate_with}
use Rattle.dv_x509.specs.Judged.{Answers, certificate_in, judged}
use Rattle.dv_x509.specs.Types.{certificate, certificate_fields}

-- a Certificate: its fields
abbrev pub view_certificate : Certificate → FieldsOf certificate_fields
view_certificate c =
    certificate_with c.version c.serial c.signature_alg c.issuer c.not_before c.not_after c.subject c.key_alg c.key_bits c.issuer_id c.subject_id c.extensions c.signature

-- what decoding a certificate under this tag answers
pub record DecodesCertificate (tag : ℕ) (result : Result Certificate X509) (octets : List ℕ) : Type 0 where
  -- it is the certificate that the octets are, or the first cause why they are none
  pub exact : Answers view_certificate result (certificate_in tag octets)
  -- what is taken fits and is spelled so
  pub found : IfOk result (λ c. Fits (certificate tag) 26 (view_certificate c) × (octets ≡ spelling (certificate tag) (view_certificate c)) × (length octets ≤ 8192))
  -- what fits and is spelled so, and isn't too long, is taken, but for its version or its algorithms
  pub only : (v : FieldsOf certificate_fields) → length octets ≤ 8192 → Fits (certificate tag) 26 v → octets ≡ spelling (certificate tag) v → Answers view_certificate result (judged v)
