-- The certificate that a signer names (RFC 5652 5.3).
use Rattle.std.specs.Prelude.{ℕ, Bool, List, Option}
use Rattle.std.specs.List.{position}
use Rattle.dv_schema.specs.Schema.{FieldsOf, ValueOf}
use Rattle.dv_cms.specs.Types.{signer_info}
use Rattle.dv_x509.specs.Types.{certificate_fields}
use Rattle.dv_x509.specs.Uses.{key_id_of}
use Rattle.dv_path.specs.Issuing.{issuer_of}
use Rattle.dv_signed.specs.Fields.{identifier_of}
use Rattle.dv_signed.specs.SidView.{names}

-- the contents octets of the serial number of a certificate
abbrev pub serial_of : FieldsOf certificate_fields → List ℕ
serial_of v = v.0.1.0

-- the signer names the certificate: by its issuer and its serial number, or by its subjectKeyIdentifier
abbrev pub is_named_by : ValueOf signer_info → FieldsOf certificate_fields → Bool
is_named_by s v = names (identifier_of s) (issuer_of v) (serial_of v) (key_id_of v)

-- the position of the first certificate that it names, where there is one
abbrev pub named_by : ValueOf signer_info → List (FieldsOf certificate_fields) → Option ℕ
named_by s bag = position (is_named_by s) bag
