-- Trust anchors.
use Rattle.std.specs.Prelude.{ℕ, List, Option, option_map}
use Rattle.std.specs.Result.{result_ok}
use Rattle.dv_schema.specs.Schema.{FieldsOf}
use Rattle.dv_x509.specs.Judged.{certificate_in}
use Rattle.dv_x509.specs.Types.{certificate_fields}
use Rattle.dv_x509.specs.Uses.{key_of}

-- A trust anchor (RFC 5280 6.1.1): its name, as a whole Name, and its HSS key, where it has one.
pub record Anchored : Type 0 where
  pub subject : List ℕ
  pub key : Option (List ℕ)

-- the subject of a certificate
abbrev pub subject_of : FieldsOf certificate_fields → List ℕ
subject_of v = v.0.1.1.1.1.1.0

-- the anchor of a certificate: its subject and its HSS key
abbrev pub anchor_of : FieldsOf certificate_fields → Anchored
anchor_of v = record { subject = subject_of v; key = key_of v }

-- the anchor of the certificate that the octets are under tag 30
abbrev pub anchor_in : List ℕ → Option Anchored
anchor_in octets = option_map anchor_of (result_ok (certificate_in 48 octets))
