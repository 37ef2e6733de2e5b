-- Whose key a certificate has.
use Rattle.std.specs.Prelude.{◌≡◌, ℕ, List, Some, Ok}
use Rattle.dv_schema.specs.Schema.{FieldsOf}
use Rattle.dv_x509.specs.Judged.{certificate_in}
use Rattle.dv_x509.specs.Types.{certificate_fields}
use Rattle.dv_x509.specs.Uses.{key_of}

-- The octets are a certificate, under tag 30, with this HSS public key (RFC 9708 4).
pub record HasKey (octets public : List ℕ) : Type 0 where
  pub fields : FieldsOf certificate_fields
  pub decoded : certificate_in 48 octets ≡ Ok fields
  pub key : key_of fields ≡ Some public
