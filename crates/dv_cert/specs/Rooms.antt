-- What contracts see of a room, and which room is one of a draft and certificates.
use Rattle.std.specs.Prelude.{◌≡◌, ◌≤◌, ℕ, ◌+◌, List, Option, length}
use Rattle.std.specs.List.{concat}
use Rattle.std.specs.Option.{ForSome}
use Rattle.sha2.specs.Sha256.{sha256}
use Rattle.dv_schema.specs.Schema.{ValueOf}
use Rattle.dv_draft.specs.Types.{draft}
use Rattle.dv_draft.specs.CertInfo.{after_serial, before_serial}
use Rattle.dv_cert.specs.Sealed.{ascending, attributes_with, info_of, own_of, signer_of}

-- What a room holds: the octets of a DVCSCertInfo before and behind its serial number, the joined certificates, the contents of the
-- IssuerAndSerialNumber, the digest of the server's own certificate, and the serial number that was given last.
pub record Held : Type 0 where
  pub before : List ℕ
  pub after : List ℕ
  pub certificates : List ℕ
  pub signer : List ℕ
  pub own_digest : List ℕ
  pub serial : Option ℕ

-- the serial number that a room was given last
abbrev pub has_serial : Held → Option ℕ
has_serial r = r.serial

-- the room is one of this draft and of these certificates, the server's own first
pub record IsRoomOf (r : Held) (d : ValueOf draft) (certificates : List (List ℕ)) : Type 0 where
  pub before : r.before ≡ before_serial d
  pub after : r.after ≡ after_serial d
  pub certificates_ascend : r.certificates ≡ concat (ascending certificates)
  pub signer : r.signer ≡ signer_of (own_of certificates)
  pub own_digest : r.own_digest ≡ sha256 (own_of certificates)

-- What a room keeps: its parts are short, there is space for the longest message of them, and the attributes are those for the serial
-- number that was given last.
pub record IsReady (before after certificates signer own_digest : List ℕ) (serial : Option ℕ) (attributes : List ℕ) (space : ℕ) : Type 0 where
  pub before_short : length before ≤ 1099511627775
  pub after_short : length after ≤ 1099511627775
  pub certificates_short : length certificates ≤ 1099511627775
  pub signer_short : length signer ≤ 1099511627775
  pub long_enough : length before + length after + length certificates + length signer + 1800 ≤ space
  pub attributed : ForSome serial (λ s. attributes ≡ attributes_with (sha256 (info_of before s after)) own_digest)
