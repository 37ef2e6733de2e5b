-- What a command did, by its status.
use Rattle.std.specs.Prelude.{◌≡◌, ◌≢◌, ◌⊎◌, ◌≤◌, ◌==◌, ℕ, Bool, IsTrue, List, length, Option, IfSome, option_map, Result, Ok, Err, if◌then◌else◌}
use Rattle.std.specs.Borrow.{Bor}
use Rattle.sha2.specs.Sha256.{sha256}
use Rattle.dv_outside.specs.Shelf.{IsLongerThan}
use Rattle.dv_outside.specs.Station.{Content, Counts, Puts, Spends}
use Rattle.dv_lms.specs.Identity.{Identity}
use Rattle.dv_register.specs.declared.refusals.Create.TheVariants.{NotEmpty, Fault as CreateFault}
use Rattle.dv_x509.specs.declared.own.OwnParts.{OwnParts}
use Rattle.dv_request.specs.declared.service.Service.TheVariants.{Cpd as CpdRequest, Vsd as VsdRequest, Cpkc as CpkcRequest, Ccpd as CcpdRequest}
use Rattle.dv_request.specs.Made.{certificates_data, digest_data, message_data, request_of}
use Rattle.dv_commands.specs.Answers.{Inits, Reissues}
use Rattle.dv_commands.specs.declared.refusals.Init.{Init}
use Rattle.dv_commands.specs.declared.refusals.Init.TheVariants.{Create, Fault as InitFault, Put as InitPut, Memory as InitMemory}
use Rattle.dv_commands.specs.declared.refusals.Reissue.{Reissue}
use Rattle.dv_commands.specs.declared.refusals.Reissue.TheVariants.{Open as NotOpened, Absent, Record, Fault as ReissueFault, Put as ReissuePut, Memory as ReissueMemory}
use Rattle.dv_lines.specs.declared.nonce.Nonce.{Nonce}
use Rattle.dv_lines.specs.declared.service.Service.{Service}
use Rattle.dv_lines.specs.declared.service.Service.TheVariants.{Cpd, Vsd, Ccpd}
use Rattle.dv_lines.specs.Line.{nonce_octets, Told, request as request_line, validate as validate_line, show as show_line, init as init_line, serve as serve_line, reissue as reissue_line}
use Rattle.dv_show.specs.Show.{IsNotShown, ShowOf}
use Rattle.dv_exit.specs.declared.status.Status.{Status}
use Rattle.dv_exit.specs.declared.status.Status.TheVariants.{File}
use Rattle.dv_tool.specs.Certificates.{AreFilesOf, HasBadFile}
use Rattle.dv_exit.specs.Files.{Files, HasOctets, IsFileStatus, IsNoSeed, IsSeedOf}
use Rattle.dv_exit.specs.Status.{number_of, status_of_open}

-- the statuses with which a command that ends by itself does so
abbrev pub IsToolStatus : ℕ → Type 0
IsToolStatus status =
    (status ≡ 0) ⊎ ((status ≡ 2) ⊎ ((status ≡ 3) ⊎ ((status ≡ 5) ⊎ ((status ≡ 6) ⊎ ((status ≡ 8) ⊎ ((status ≡ 10) ⊎ (status ≡ 12)))))))

-- those of a command that makes one put of what it makes of a file
abbrev pub IsPutStatus : ℕ → Type 0
IsPutStatus status = (status ≡ 0) ⊎ ((status ≡ 3) ⊎ ((status ≡ 5) ⊎ ((status ≡ 8) ⊎ (status ≡ 10))))

-- A put that ended the command with this status: it succeeded exactly with 0.
abbrev pub put_result : ℕ → Result (Unit {0}) (Unit {0})
put_result status = if status == 0 then Ok tt else Err tt

-- ---- request

-- the octets of a nonce that may be left out
abbrev pub nonce_in : Option (Bor Nonce) → Option (List ℕ)
nonce_in nonce = option_map (λ n. nonce_octets n.now) nonce

-- the most octets of a file that a service is asked for
abbrev pub file_limit : Service → ℕ
file_limit Cpd = 262000
file_limit Vsd = 262000
file_limit Ccpd = 16777216

-- the request for a file of these octets: it has the octets themselves, or for ccpd their SHA-256
abbrev pub request_for : Service → List ℕ → Option (List ℕ) → Option ℕ → List ℕ
request_for Cpd octets nonce at = request_of CpdRequest (message_data octets) nonce at
request_for Vsd octets nonce at = request_of VsdRequest (message_data octets) nonce at
request_for Ccpd octets nonce at = request_of CcpdRequest (digest_data (sha256 octets)) nonce at

-- The request for this file, which isn't longer than the limit, was put by one call, which succeeded exactly with status 0.
abbrev pub PutsRequest : Files → Service → List ℕ → Option (List ℕ) → Option ℕ → ℕ → Bool → Content → Content → Type 0
PutsRequest files service name nonce at status tells old new =
    (octets : List ℕ) × (length octets ≤ file_limit service) × HasOctets files name octets
    × (IsTrue tells → Puts (request_for service octets nonce at) (put_result status) old new)

-- What `request` did: with 0 the request for the file was put by one call, with 5 a front of it; with 3 the file is longer than the limit; and with every
-- other status no call of the station was made.
pub record RequestEnds {V : Type 0} (tells : V → Bool) (content : V → Content) (counts : V → Counts) (files : Files) (service : Service) (file : List ℕ)
    (nonce : Option (List ℕ)) (at : Option ℕ) (status : ℕ) (station result : V) : Type 0 where
  pub ends : IsPutStatus status
  pub put : (status ≡ 0) ⊎ (status ≡ 5) → PutsRequest files service file nonce at status (tells station) (content station) (content result)
  pub long : status ≡ 3 → IfSome files (λ f. IsLongerThan (file_limit service) (f file))
  pub quiet : status ≢ 0 → status ≢ 5 → result ≡ station
  pub spends : Spends 1 262144 (counts station) (counts result)

-- ---- request cpkc

-- the request to validate the first of these certificates, with the others as its chain
abbrev pub validation_for : List (List ℕ) → Option (List ℕ) → Option ℕ → List ℕ
validation_for certificates nonce at = request_of CpkcRequest (certificates_data certificates) nonce at

-- The request for the certificates that these files are was put by one call, which succeeded exactly with status 0.
abbrev pub PutsValidation : Files → List (List ℕ) → Option (List ℕ) → Option ℕ → ℕ → Bool → Content → Content → Type 0
PutsValidation files names nonce at status tells old new =
    (certificates : List (List ℕ)) × AreFilesOf files names certificates
    × (IsTrue tells → Puts (validation_for certificates nonce at) (put_result status) old new)

-- What `request cpkc` did: with 0 the request for the files' certificates was put by one call, with 5 a front of it; with 3 one of the files is no
-- certificate, and those before it are; and with every other status no call of the station was made.
pub record ValidateEnds {V : Type 0} (tells : V → Bool) (content : V → Content) (counts : V → Counts) (files : Files) (names : List (List ℕ))
    (nonce : Option (List ℕ)) (at : Option ℕ) (status : ℕ) (station result : V) : Type 0 where
  pub ends : IsPutStatus status
  pub put : (status ≡ 0) ⊎ (status ≡ 5) → PutsValidation files names nonce at status (tells station) (content station) (content result)
  pub bad : status ≡ 3 → HasBadFile files names
  pub quiet : status ≢ 0 → status ≢ 5 → result ≡ station
  pub spends : Spends 1 262144 (counts station) (counts result)

-- ---- show

-- The text for this file, of at most 16,777,216 octets, was put by one call, which succeeded exactly with status 0.
abbrev pub PutsShown : Files → List ℕ → ℕ → Bool → Content → Content → Type 0
PutsShown files name status tells old new =
    (octets : List ℕ) × (text : List ℕ) × (length octets ≤ 16777216) × HasOctets files name octets × ShowOf octets text
    × (IsTrue tells → Puts text (put_result status) old new)

-- What `show` did: with 0 a line for each of the file's values was put by one call, with 5 a front of these; with 3 the file isn't shown; and with every other
-- status no call of the station was made.
pub record ShowEnds {V : Type 0} (tells : V → Bool) (content : V → Content) (counts : V → Counts) (files : Files) (file : List ℕ) (status : ℕ)
    (station result : V) : Type 0 where
  pub ends : IsPutStatus status
  pub put : (status ≡ 0) ⊎ (status ≡ 5) → PutsShown files file status (tells station) (content station) (content result)
  pub not_shown : status ≡ 3 → IfSome files (λ f. IsNotShown (f file))
  pub quiet : status ≢ 0 → status ≢ 5 → result ≡ station
  pub spends : Spends 1 67108864 (counts station) (counts result)

-- ---- init

-- the status of each answer of `init`
abbrev pub status_of_init : Result (Unit {0}) Init → ℕ
status_of_init (Ok u) = 0
status_of_init (Err (Create NotEmpty)) = 12
status_of_init (Err (Create CreateFault)) = 6
status_of_init (Err InitFault) = 6
status_of_init (Err InitPut) = 5
status_of_init (Err InitMemory) = 8

-- What `init` did: nothing, where the seed's file wasn't had; or what it answers for its key.
pub data InitEnds {V : Type 0} (tells : V → Bool) (content : V → Content) (counts : V → Counts) (files : Files) (seed name : List ℕ)
    (from until first : ℕ) (status : ℕ) (station result : V) : Type 0 where
  init_unread : (s : Status) → IsFileStatus s → status ≡ number_of s → result ≡ station → (s ≡ File → IfSome files (λ f. IsNoSeed (f seed)))
      → InitEnds tells content counts files seed name from until first status station result
  init_ran : (key : Identity) → IsSeedOf files seed key → (parts : OwnParts) → parts.name.now ≡ name → parts.from ≡ from → parts.until ≡ until
      → (answer : Result (Unit {0}) Init) → status ≡ status_of_init answer → Inits tells content counts key first parts station result answer
      → InitEnds tells content counts files seed name from until first status station result

-- ---- reissue

-- the status of each answer of `reissue`
abbrev pub status_of_reissue : Result (Unit {0}) Reissue → ℕ
status_of_reissue (Ok u) = 0
status_of_reissue (Err (NotOpened e)) = status_of_open e
status_of_reissue (Err Absent) = 12
status_of_reissue (Err (Record d)) = 3
status_of_reissue (Err ReissueFault) = 6
status_of_reissue (Err ReissuePut) = 5
status_of_reissue (Err ReissueMemory) = 8

-- What `reissue` did: nothing, where the seed's file wasn't had; or what it answers for its key.
pub data ReissueEnds {V : Type 0} (tells : V → Bool) (content : V → Content) (counts : V → Counts) (files : Files) (seed : List ℕ) (serial : ℕ)
    (status : ℕ) (station result : V) : Type 0 where
  reissue_unread : (s : Status) → IsFileStatus s → status ≡ number_of s → result ≡ station → (s ≡ File → IfSome files (λ f. IsNoSeed (f seed)))
      → ReissueEnds tells content counts files seed serial status station result
  reissue_ran : (key : Identity) → IsSeedOf files seed key → (answer : Result (Unit {0}) Reissue) → status ≡ status_of_reissue answer
      → Reissues tells content counts key serial station result answer
      → ReissueEnds tells content counts files seed serial status station result

-- ---- all of them

-- what the command of a line did
abbrev pub Ends : {V : Type 0} → (V → Bool) → (V → Content) → (V → Counts) → Files → Told → ℕ → V → V → Type 0
Ends tells content counts files (request_line service file nonce at) status station result =
    RequestEnds tells content counts files service file nonce at status station result
Ends tells content counts files (validate_line names nonce at) status station result =
    ValidateEnds tells content counts files names nonce at status station result
Ends tells content counts files (show_line file) status station result = ShowEnds tells content counts files file status station result
Ends tells content counts files (init_line register seed name from until first) status station result =
    InitEnds tells content counts files seed name from until first status station result
Ends tells content counts files (serve_line register seed certificate trust policy) status station result = (status ≡ 2) × (result ≡ station)
Ends tells content counts files (reissue_line register seed serial) status station result =
    ReissueEnds tells content counts files seed serial status station result
