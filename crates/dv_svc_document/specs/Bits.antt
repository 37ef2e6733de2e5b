-- The failure bits (RFC 4210 5.2.3) for the faults of signers.
use Rattle.std.specs.Prelude.{ℕ, Option, Some, None}
use Rattle.dv_signed.specs.declared.fault.SignerFault.{SignerFault}
use Rattle.dv_signed.specs.declared.fault.SignerFault.TheVariants.{Algorithm, Attribute, Digest, Signature}

-- that of a signer that names a certificate
abbrev pub fault_bit : SignerFault → ℕ
fault_bit Algorithm = 0
fault_bit Attribute = 1
fault_bit Digest = 1
fault_bit Signature = 1

-- that of one that names none, whatever else is wrong with it
abbrev pub unnamed_bit : Option SignerFault → ℕ
unnamed_bit None = 20
unnamed_bit (Some Algorithm) = 0
unnamed_bit (Some Attribute) = 20
unnamed_bit (Some Digest) = 20
unnamed_bit (Some Signature) = 20
