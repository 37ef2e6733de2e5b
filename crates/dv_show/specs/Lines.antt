-- The lines of `show`, one for each value.
use Rattle.std.specs.Prelude.{◌==◌, ◌++◌, ◌∷◌, [], ℕ, Bool, true, false, List, codes, if◌then◌else◌, Option, Some, None, option_map, unwrap_or}
use Rattle.std.specs.Fmt.{decimal}
use Rattle.hex.specs.Hex.{encode_lower}
use Rattle.dv_schema.specs.Schema.{ValueOf}
use Rattle.dv_time.specs.Text.{text_of}
use Rattle.dv_names.specs.declared.digest.DigestKind.{DigestKind}
use Rattle.dv_names.specs.declared.digest.DigestKind.TheVariants.{Sha256, Sha384, Sha512}
use Rattle.dv_names.specs.Arcs.{are_narrow, arcs_of, dotted}
use Rattle.dv_names.specs.Digest.{kind_of}
use Rattle.dv_names.specs.Types.{algorithm_identifier, digest_info}
use Rattle.dv_names.specs.Views.{view_digest}
use Rattle.dv_request.specs.declared.service.Service.{Service}
use Rattle.dv_request.specs.declared.service.Service.TheVariants.{Cpd, Vsd, Cpkc, Ccpd}
use Rattle.dv_response.specs.declared.cert_info.CertInfo.{CertInfo}
use Rattle.dv_show.specs.declared.shown.Shown.{Shown}
use Rattle.dv_show.specs.declared.shown.Shown.TheVariants.{Request, Notice, Certificate}

-- ---- words

-- the name of a service
abbrev pub name_of_service : Service → List ℕ
name_of_service Cpd = codes "cpd"
name_of_service Vsd = codes "vsd"
name_of_service Cpkc = codes "cpkc"
name_of_service Ccpd = codes "ccpd"

-- the name of a failure bit (RFC 4210 5.2.3)
abbrev pub name_of_failure : ℕ → Option (List ℕ)
name_of_failure bit =
    if bit == 0 then Some (codes "badAlg") else
    if bit == 1 then Some (codes "badMessageCheck") else
    if bit == 2 then Some (codes "badRequest") else
    if bit == 3 then Some (codes "badTime") else
    if bit == 5 then Some (codes "badDataFormat") else
    if bit == 6 then Some (codes "wrongAuthority") else
    if bit == 10 then Some (codes "certRevoked") else
    if bit == 14 then Some (codes "timeNotAvailable") else
    if bit == 15 then Some (codes "unacceptedPolicy") else
    if bit == 16 then Some (codes "unacceptedExtension") else
    if bit == 20 then Some (codes "signerNotTrusted") else
    if bit == 24 then Some (codes "systemUnavail") else
    if bit == 25 then Some (codes "systemFailure") else None

-- a notice: the name of its least failure bit, or its number where it has no name, or that there is none
abbrev pub word_of_notice : Option ℕ → List ℕ
word_of_notice None = codes "none"
word_of_notice (Some bit) = unwrap_or (name_of_failure bit) (codes "bit " ++ decimal bit)

-- the name of a status (RFC 4210 5.2.3)
abbrev pub name_of_status : ℕ → Option (List ℕ)
name_of_status status =
    if status == 0 then Some (codes "granted") else
    if status == 1 then Some (codes "grantedWithMods") else
    if status == 2 then Some (codes "rejection") else None

-- a dvStatus: its name, or its number where it has no name, or that there is none
abbrev pub word_of_status : Option ℕ → List ℕ
word_of_status None = codes "none"
word_of_status (Some status) = unwrap_or (name_of_status status) (codes "other " ++ decimal status)

-- an identifier, given by its contents octets: dotted, or that an arc is past 2 ^ 64 - 1
abbrev pub word_of_identifier : List ℕ → List ℕ
word_of_identifier octets = if are_narrow (arcs_of octets) then dotted (arcs_of octets) else codes "wide"

-- the name of a digest algorithm
abbrev pub name_of_digest : DigestKind → List ℕ
name_of_digest Sha256 = codes "sha256"
name_of_digest Sha384 = codes "sha384"
name_of_digest Sha512 = codes "sha512"

-- an algorithm: its name where it is a digest algorithm that is known, or else its identifier
abbrev pub word_of_algorithm : ValueOf algorithm_identifier → List ℕ
word_of_algorithm algorithm = unwrap_or (option_map name_of_digest (kind_of algorithm)) (word_of_identifier algorithm.0)

-- an imprint: its algorithm, and its digest in hexadecimal
abbrev pub word_of_imprint : ValueOf digest_info → List ℕ
word_of_imprint imprint = word_of_algorithm imprint.0 ++ codes " " ++ encode_lower imprint.1.0

-- ---- lines

abbrev pub line_for_request : Service → Bool → List ℕ
line_for_request service false = codes "request " ++ name_of_service service ++ 10 ∷ []
line_for_request service true = codes "request " ++ name_of_service service ++ codes " signed" ++ 10 ∷ []

abbrev pub line_for_notice : Option ℕ → List ℕ
line_for_notice least = codes "notice " ++ word_of_notice least ++ 10 ∷ []

-- the service, the serial number, the moment, the imprint and the status of a certificate of service
abbrev pub line_for_certificate : CertInfo → List ℕ
line_for_certificate info =
    (codes "certificate " ++ name_of_service info.info.service) ++ (codes " serial " ++ encode_lower info.serial.now) ++ (codes " time " ++ text_of info.time)
    ++ (codes " imprint " ++ word_of_imprint (view_digest info.imprint)) ++ (codes " status " ++ word_of_status (option_map (λ s. s.status) info.status) ++ 10 ∷ [])

-- the line for a value
abbrev pub line_for : Shown → List ℕ
line_for (Request service in_signed) = line_for_request service in_signed
line_for (Notice least) = line_for_notice least
line_for (Certificate info) = line_for_certificate info
