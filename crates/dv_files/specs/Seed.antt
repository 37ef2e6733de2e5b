-- The octets of seed files.
use Rattle.std.specs.Prelude.{◌≡◌, ◌+◌, ◌<◌, ◌≤◌, ℕ, List, [], ◌∷◌, ◌++◌, length, take}
use Rattle.std.specs.Int.{to_be_bytes, w32}
use Rattle.dv_lms.specs.declared.height.Height.{Height}
use Rattle.dv_lms.specs.Height.{lms_type}
use Rattle.dv_lms.specs.Identity.{Identity}
use Rattle.dv_files.specs.declared.faults.SeedFile.{SeedFile}
use Rattle.dv_files.specs.declared.faults.SeedFile.TheVariants.{Refused, Memory}

-- the octets with which a seed file begins: DVSEED01
abbrev pub magic : List ℕ
magic = 0x44 ∷ 0x56 ∷ 0x53 ∷ 0x45 ∷ 0x45 ∷ 0x44 ∷ 0x30 ∷ 0x31 ∷ []

-- what stands before the identifier, 12 octets: the magic, and the LMS type
abbrev pub seed_start : Height → List ℕ
seed_start height = magic ++ to_be_bytes w32 (lms_type height)

-- the seed file of a key: its start, the identifier I, and the seed
abbrev pub seed_file_of : Identity → List ℕ
seed_file_of key = seed_start key.height ++ key.id ++ key.seed

-- The octets are the seed file of this key, whose identifier has 16 octets and whose seed has 32.
pub record IsSeedFile (octets : List ℕ) (key : Identity) : Type 0 where
  pub id : length key.id ≡ 16
  pub seed : length key.seed ≡ 32
  pub is : octets ≡ seed_file_of key

-- some seed file begins with these octets
abbrev pub BeginsSeedFile : List ℕ → Type 0
BeginsSeedFile octets = (key : Identity) × (rest : List ℕ) × IsSeedFile (octets ++ rest) key

-- They are no seed file, by the octet at this place: no seed file goes on with it, or they end there too early.
pub record IsSeedFault (octets : List ℕ) (place : ℕ) : Type 0 where
  pub none : (key : Identity) → IsSeedFile octets key → ⊥
  pub within : place ≤ length octets
  pub before : BeginsSeedFile (take place octets)
  pub breaks : place < length octets → BeginsSeedFile (take (place + 1) octets) → ⊥

-- what a refusal says of the octets; a want of memory says nothing
abbrev pub IsSeedCause : List ℕ → SeedFile → Type 0
IsSeedCause octets (Refused place) = IsSeedFault octets place
IsSeedCause octets Memory = Unit {0}
