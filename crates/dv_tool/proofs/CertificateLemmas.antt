-- Certificates in files.
use Rattle.std.proofs.Common.{◌≡◌, Option, None, Some, List, ℕ, arith}
use Rattle.std.specs.Prelude.{IfSome}
use Rattle.dv_draft.proofs.WellCertificates.{certificate_short}
use Rattle.dv_exit.specs.Files.{Files}
use Rattle.dv_tool.specs.Certificates.{IsNoCertificate}
use Rattle.dv_outside.specs.Shelf.{IsLongerThan}

-- one that is longer than a certificate
longer : (file : Option (List ℕ)) → IsLongerThan 8192 file → IsNoCertificate file
longer None long = long
longer (Some octets) long = λ is. let short = certificate_short octets is in omega (arith, long, short)

-- of the files that a shelf tells, one that is longer
pub long_file : (P : Type 0) (files : Files) (text : List ℕ) → P → IfSome files (λ file. P → IsLongerThan 8192 (file text)) → IfSome files (λ file. IsNoCertificate (file text))
long_file P None text p long = tt
long_file P (Some file) text p long = longer (file text) (long p)
