-- What the files of certificates are that `request cpkc` reads.
use Rattle.std.specs.Prelude.{◌≡◌, ℕ, List, [], ◌∷◌, ◌++◌, Option, IfSome, IsSomeAnd}
use Rattle.dv_draft.specs.Records.{IsCertificate}
use Rattle.dv_exit.specs.Files.{Files, HasOctets}

-- the file of this name is this certificate (RFC 5280 4.1): its octets, at most 8,192, decode under tag 30
abbrev pub IsFileOf : Files → List ℕ → List ℕ → Type 0
IsFileOf files name certificate = HasOctets files name certificate × IsCertificate certificate

-- the file is no certificate: it is longer, or doesn't decode
abbrev pub IsNoCertificate : Option (List ℕ) → Type 0
IsNoCertificate file = IsSomeAnd file (λ octets. ¬ IsCertificate octets)

-- the files of these names are these certificates, one each and in this order
abbrev pub AreFilesOf : Files → List (List ℕ) → List (List ℕ) → Type 0
AreFilesOf files [] [] = Unit {0}
AreFilesOf files (name ∷ names) (certificate ∷ certificates) = IsFileOf files name certificate × AreFilesOf files names certificates
AreFilesOf files [] (certificate ∷ certificates) = ⊥
AreFilesOf files (name ∷ names) [] = ⊥

-- The files of these names aren't certificates: of them in their order, this is the first that is none.
pub record HasBadFile (files : Files) (names : List (List ℕ)) : Type 0 where
  pub front : List (List ℕ)
  pub name : List ℕ
  pub behind : List (List ℕ)
  pub are : names ≡ front ++ name ∷ behind
  pub good : (certificates : List (List ℕ)) × AreFilesOf files front certificates
  pub bad : IfSome files (λ file. IsNoCertificate (file name))
