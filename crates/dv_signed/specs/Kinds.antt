-- The digest of octets by each known algorithm (FIPS 180-4).
use Rattle.std.specs.Prelude.{ℕ, List}
use Rattle.sha2.specs.Sha256.{sha256}
use Rattle.sha2.specs.Sha512.{sha384, sha512}
use Rattle.dv_names.specs.declared.digest.DigestKind.{DigestKind}
use Rattle.dv_names.specs.declared.digest.DigestKind.TheVariants.{Sha256, Sha384, Sha512}

abbrev pub digest_by : DigestKind → List ℕ → List ℕ
digest_by Sha256 octets = sha256 octets
digest_by Sha384 octets = sha384 octets
digest_by Sha512 octets = sha512 octets
