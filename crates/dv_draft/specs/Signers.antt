-- The signers of a request.
use Rattle.std.specs.Prelude.{◌<◌, ◌^◌, ℕ, false, List, length}
use Rattle.dv_schema.specs.Fits.{Fits}
use Rattle.dv_schema.specs.Types.{list_of}
use Rattle.dv_cms.specs.Types.{signer_info}

-- contents octets of a SET OF SignerInfo, at the depth of a certificate of service
abbrev pub AreSigners : List ℕ → Type 0
AreSigners octets = ∥ Fits (list_of 162 false signer_info) 31 octets ∥₁ × (length octets < 2 ^ 32)
