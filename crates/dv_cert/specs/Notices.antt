-- Which octets are an error notice of the server.
use Rattle.std.specs.Prelude.{◌≡◌, ◌⊎◌, ◌≤◌, ℕ, List, []}
use Rattle.dv_schema.specs.Fits.{Fits}
use Rattle.dv_schema.specs.Schema.{ValueOf, spelling}
use Rattle.dv_names.specs.Types.{general_name}
use Rattle.dv_cert.specs.Notice.{notice_of}

-- a transactionIdentifier that is absent has no octets; else it is a GeneralName, which stands at depth 4
abbrev pub IsTransaction : List ℕ → Type 0
IsTransaction octets = (octets ≡ []) ⊎ ((v : ValueOf general_name) × Fits general_name 29 v × (octets ≡ spelling general_name v))

-- the octets are a notice with one failure bit and such an identifier
abbrev pub IsNotice : List ℕ → Type 0
IsNotice octets = (transaction : List ℕ) × (bit : ℕ) × (bit ≤ 26) × IsTransaction transaction × (octets ≡ notice_of transaction bit)
