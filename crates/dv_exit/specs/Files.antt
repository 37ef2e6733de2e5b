-- What the files that a command reads are.
use Rattle.std.specs.Prelude.{◌≡◌, ◌⊎◌, ◌<◌, ◌≤◌, ℕ, List, length, Option, Some, IfSome, IsSomeAnd, option_map}
use Rattle.dv_lms.specs.Identity.{Identity}
use Rattle.dv_lms.specs.Signed.{public_of}
use Rattle.dv_schema.specs.Tlv.{tlv}
use Rattle.dv_cert.specs.Sealed.{own_of}
use Rattle.dv_draft.specs.declared.server.Server.{Server}
use Rattle.dv_files.specs.Certificates.{AreCertificates}
use Rattle.dv_files.specs.Keys.{HasKey}
use Rattle.dv_files.specs.Seed.{IsSeedFile}
use Rattle.dv_path.specs.Anchors.{Anchored}
use Rattle.dv_path.specs.TrustFiles.{IsTrustFile}
use Rattle.dv_exit.specs.declared.status.Status.{Status}
use Rattle.dv_exit.specs.declared.status.Status.TheVariants.{File, Shelf, Memory}

-- the octets of each file by its name, where a shelf tells them
abbrev pub Files : Type 0
Files = Option (List ℕ → Option (List ℕ))

-- the file of this name has these octets, where the shelf tells its files
abbrev pub HasOctets : Files → List ℕ → List ℕ → Type 0
HasOctets files name octets = IfSome files (λ file. file name ≡ Some octets)

-- it is the seed file of this key
abbrev pub IsSeedOf : Files → List ℕ → Identity → Type 0
IsSeedOf files name key = (octets : List ℕ) × HasOctets files name octets × IsSeedFile octets key

-- it is the seed file of no key
abbrev pub IsNoSeed : Option (List ℕ) → Type 0
IsNoSeed file = IsSomeAnd file (λ octets. (key : Identity) → ¬ IsSeedFile octets key)

-- it holds these certificates, 1 to 6 in at most 49,152 octets
abbrev pub HasCertificates : Files → List ℕ → List (List ℕ) → Type 0
HasCertificates files name certificates =
    (octets : List ℕ) × (length octets ≤ 49152) × HasOctets files name octets × AreCertificates octets certificates

-- it is longer, or holds no such certificates
abbrev pub HasNoCertificates : Option (List ℕ) → Type 0
HasNoCertificates file = IsSomeAnd file (λ octets. (49152 < length octets) ⊎ ((certificates : List (List ℕ)) → ¬ AreCertificates octets certificates))

-- it is a trust file of at most 131,072 octets, with these anchors
abbrev pub HasTrust : Files → List ℕ → List Anchored → Type 0
HasTrust files name anchors = (octets : List ℕ) × (length octets ≤ 131072) × HasOctets files name octets × IsTrustFile octets anchors

-- it is longer, or the trust file of no anchors
abbrev pub HasNoTrust : Option (List ℕ) → Type 0
HasNoTrust file = IsSomeAnd file (λ octets. (131072 < length octets) ⊎ ((anchors : List Anchored) → ¬ IsTrustFile octets anchors))

-- What a server answers with, by its files and the identifier of its policy: the key of the seed; the certificates, of which the first, the
-- server's own, has this key; the anchors of the trust file; and the policy, as the contents of a PolicyInformation (RFC 5280 4.2.1.4).
pub record IsDesk (files : Files) (seed certificate trust : List ℕ) (policy : Option (List ℕ)) (key : Identity) (server : Server) (anchors : List Anchored) : Type 0 where
  pub seed_file : IsSeedOf files seed key
  pub certificates : HasCertificates files certificate server.certificates
  pub trust_file : HasTrust files trust anchors
  pub own_key : HasKey (own_of server.certificates) (public_of key)
  pub policy_is : server.policy ≡ option_map (tlv 6) policy

-- Why the files give none: the first is no seed file; the second holds no certificates; the third is no trust file of at most 131,072 octets; or the
-- first certificate has another key than the seed.
pub data IsNoDesk (files : Files) (seed certificate trust : List ℕ) : Type 0 where
  no_seed : IfSome files (λ file. IsNoSeed (file seed)) → IsNoDesk files seed certificate trust
  no_certificates : IfSome files (λ file. HasNoCertificates (file certificate)) → IsNoDesk files seed certificate trust
  no_trust : IfSome files (λ file. HasNoTrust (file trust)) → IsNoDesk files seed certificate trust
  another_key : (key : Identity) (certificates : List (List ℕ)) → IsSeedOf files seed key → HasCertificates files certificate certificates
      → ¬ HasKey (own_of certificates) (public_of key) → IsNoDesk files seed certificate trust

-- the statuses of a file that wasn't had: it isn't what it should be, it can't be read, or there is no memory for it
abbrev pub IsFileStatus : Status → Type 0
IsFileStatus status = (status ≡ File) ⊎ ((status ≡ Shelf) ⊎ (status ≡ Memory))
