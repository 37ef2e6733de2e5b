-- What names the certificate of a signer, as a value of its schema.
use Rattle.std.specs.Prelude.{ℕ, Bool, false, ◌&&◌, List, Option, Some, None}
use Rattle.std.proofs.Common.{inl, inr}
use Rattle.dv_schema.specs.Octets.{same_octets}
use Rattle.dv_schema.specs.Schema.{ValueOf}
use Rattle.dv_names.specs.Views.{view_name}
use Rattle.dv_cms.specs.Types.{signer_identifier}
use Rattle.dv_signed.specs.declared.sid.Sid.{Sid}
use Rattle.dv_signed.specs.declared.sid.Sid.TheVariants.{Issuer, KeyId}

-- a SignerIdentifier: the issuer and the serial number, or the identifier of the key
abbrev pub view_sid : Sid → ValueOf signer_identifier
view_sid (Issuer name serial) = inl (view_name name, (serial.now, tt))
view_sid (KeyId octets) = inr octets.now

-- It names the certificate with this issuer, a whole Name, this serial number and this key identifier (RFC 5652 5.3): it is that issuer,
-- octet for octet, and that serial number; or it is that key identifier.
abbrev pub names : ValueOf signer_identifier → List ℕ → List ℕ → Option (List ℕ) → Bool
names (inl (name, (number, _))) issuer serial key_id = same_octets name issuer && same_octets number serial
names (inr id) issuer serial None = false
names (inr id) issuer serial (Some key_id) = same_octets id key_id
