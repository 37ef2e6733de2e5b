-- Why certificate files aren't read.
use Rattle.std.specs.Prelude.{◌⊎◌, ℕ, List}
use Rattle.dv_files.specs.declared.faults.CertificateFile.{CertificateFile}
use Rattle.dv_files.specs.declared.faults.CertificateFile.TheVariants.{Refused, Memory}
use Rattle.dv_files.specs.Certificates.{AreNone, HasMore, HasNoNext}

-- The octets are no certificate file by the octet at this place: there no certificate stands, or a seventh value does.
abbrev pub IsCertificateFault : List ℕ → ℕ → Type 0
IsCertificateFault octets place = AreNone 6 octets (HasNoNext 6 octets place ⊎ HasMore 6 octets place)

-- what a refusal says of the octets; a want of memory says nothing
abbrev pub IsCertificateCause : List ℕ → CertificateFile → Type 0
IsCertificateCause octets (Refused place) = IsCertificateFault octets place
IsCertificateCause octets Memory = Unit {0}
