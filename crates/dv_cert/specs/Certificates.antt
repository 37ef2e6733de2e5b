-- The certificates that a register's records stand for.
use Rattle.std.specs.Prelude.{◌≡◌, ◌⊎◌, ℕ, ◌+◌, ◌==◌, List, Option, Some, None, Result, Ok, Err, if◌then◌else◌, slice_get}
use Rattle.dv_schema.specs.declared.refusal.Der.{Der}
use Rattle.dv_schema.specs.Reading.{read_all}
use Rattle.dv_schema.specs.Schema.{ValueOf}
use Rattle.dv_time.specs.Text.{civil_in, second_of}
use Rattle.dv_outside.specs.Releases.{Entry, Identity}
use Rattle.dv_lms.specs.declared.height.Height.TheVariants.{H5}
use Rattle.dv_lms.specs.Identity.{Identity as Key}
use Rattle.dv_lms.specs.Signed.{public_of, signature_of}
use Rattle.dv_members.specs.Members.{front_of}
use Rattle.dv_x509.specs.Own.{OwnCertificate, OwnTbs}
use Rattle.dv_draft.specs.CertInfo.{cert_info_of}
use Rattle.dv_draft.specs.OwnRecords.{own_record}
use Rattle.dv_draft.specs.Records.{record_in}
use Rattle.dv_draft.specs.Types.{draft}
use Rattle.dv_cert.specs.Notices.{IsNotice}
use Rattle.dv_cert.specs.Sealed.{own_of, sealed, signed_by}

-- the key of a register, where its tree has the height 5
abbrev pub key_of : Identity → Option Key
key_of key = if key.height == 5 then Some (record { height = H5; id = key.id; seed = key.seed }) else None

-- the moment whose text this is, in seconds from 1950 on
abbrev pub moment_of : List ℕ → ℕ
moment_of text = second_of (civil_in text)

-- a signed part, and the signature of it with this leaf
abbrev pub own_signed : Key → ℕ → List ℕ → List ℕ
own_signed key index tbs = OwnCertificate tbs (signature_of key index tbs)

-- the own certificate that the record of one stands for, with this serial number
abbrev pub own_issued : Key → ℕ → ℕ → Result (ValueOf own_record) Der → Option (List ℕ)
own_issued key index serial (Ok v) = Some (own_signed key index (OwnTbs v.0 (moment_of v.1.0) (moment_of v.1.1.0) (public_of key) serial))
own_issued key index serial (Err d) = None

-- a DVCSCertInfo, and the signature over it with this leaf
abbrev pub sealed_with : Key → ℕ → List (List ℕ) → List ℕ → List ℕ
sealed_with key index certificates info = sealed certificates info (signature_of key index (signed_by (own_of certificates) info))

-- the certificate of service that the record of a draft stands for, with this serial number
abbrev pub service_issued : Key → ℕ → ℕ → Result (List (List ℕ) × ValueOf draft) Der → Option (List ℕ)
service_issued key index serial (Ok x) = Some (sealed_with key index x.0 (cert_info_of serial x.1))
service_issued key index serial (Err d) = None

-- what a record stands for, by its kind: 1 is an own certificate, 2 a certificate of service
abbrev pub issued : Key → ℕ → ℕ → Entry → Option (List ℕ)
issued key index serial entry =
    if entry.kind == 1 then own_issued key index serial (read_all own_record (front_of entry.contents)) else
    if entry.kind == 2 then service_issued key index serial (record_in entry.contents) else None

-- the same, where there is a key
abbrev pub issued_if : Option Key → ℕ → ℕ → Entry → Option (List ℕ)
issued_if (Some key) index serial entry = issued key index serial entry
issued_if None index serial entry = None

-- The certificate that the record at an index stands for, in a register whose first serial number is given. Its leaf is the index, and its
-- serial number the first one and the index.
unfoldable pub certificate_of : Identity → ℕ → ℕ → Entry → Option (List ℕ)
certificate_of key first index entry = issued_if (key_of key) index (first + index) entry

-- octets that may leave while a register holds this list: the certificate of one of its records, or a notice
unfoldable pub MayLeave : Identity → ℕ → List Entry → List ℕ → Type 0
MayLeave key first list octets = ((index : ℕ) × (entry : Entry) × (slice_get list index ≡ Some entry) × (certificate_of key first index entry ≡ Some octets)) ⊎ IsNotice octets
