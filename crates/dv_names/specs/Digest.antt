-- The digest algorithms that are known, and their lengths.
use Rattle.std.specs.Prelude.{ℕ, Bool, true, List, [], ◌∷◌, Option, Some, None, if◌then◌else◌}
use Rattle.dv_schema.specs.Octets.{same_octets}
use Rattle.dv_schema.specs.Schema.{ValueOf}
use Rattle.dv_names.specs.declared.identifiers.TheConstants.{SHA_256, SHA_384, SHA_512}
use Rattle.dv_names.specs.declared.digest.DigestKind.{DigestKind}
use Rattle.dv_names.specs.declared.digest.DigestKind.TheVariants.{Sha256, Sha384, Sha512}
use Rattle.dv_names.specs.Types.{algorithm_identifier}

-- the octets of a digest
abbrev pub length_of : DigestKind → ℕ
length_of Sha256 = 32
length_of Sha384 = 48
length_of Sha512 = 64

-- parameters are absent, or NULL
abbrev pub is_none_or_null : Option (List ℕ) → Bool
is_none_or_null None = true
is_none_or_null (Some p) = same_octets p (5 ∷ 0 ∷ [])

-- the algorithm with this identifier
abbrev pub kind_named : List ℕ → Option DigestKind
kind_named id =
    if same_octets id SHA_256 then Some Sha256 else
    if same_octets id SHA_384 then Some Sha384 else
    if same_octets id SHA_512 then Some Sha512 else None

-- the digest algorithm that an AlgorithmIdentifier names, without parameters or with NULL
abbrev pub kind_of : ValueOf algorithm_identifier → Option DigestKind
kind_of a = if is_none_or_null a.1.0 then kind_named a.0 else None
