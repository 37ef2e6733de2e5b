-- The octets of trust files.
use Rattle.std.specs.Prelude.{◌≡◌, ℕ, List, [], Some, map}
use Rattle.dv_files.specs.Certificates.{AreCertificatesUpTo, AreNone, HasMore, HasNoNext}
use Rattle.dv_path.specs.declared.faults.TrustFile.{TrustFile}
use Rattle.dv_path.specs.declared.faults.TrustFile.TheVariants.{Der, Empty, TooMany, Memory}
use Rattle.dv_path.specs.Anchors.{Anchored, anchor_in}

-- The octets are 1 to 16 certificates under tag 30, one after another, and these are their anchors, in order.
pub record IsTrustFile (octets : List ℕ) (anchors : List Anchored) : Type 0 where
  pub certificates : List (List ℕ)
  pub are : AreCertificatesUpTo 16 octets certificates
  pub anchors_of : map Some anchors ≡ map anchor_in certificates

-- What a refusal says of the octets. Each of Der and TooMany also says that they are no 1 to 16 certificates; a want of memory says nothing.
abbrev pub IsTrustCause : List ℕ → TrustFile → Type 0
IsTrustCause octets (Der place) = AreNone 16 octets (HasNoNext 16 octets place)
IsTrustCause octets Empty = octets ≡ []
IsTrustCause octets TooMany = AreNone 16 octets ((place : ℕ) × HasMore 16 octets place)
IsTrustCause octets Memory = Unit {0}
