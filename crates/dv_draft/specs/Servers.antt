-- The certificates and the policy of a server.
use Rattle.std.specs.Prelude.{◌≡◌, ◌≤◌, ℕ, All, IsTrue, List, length, Option}
use Rattle.std.specs.Option.{ForSome}
use Rattle.dv_schema.specs.Rules.{is_oid}
use Rattle.dv_schema.specs.Tlv.{tlv}
use Rattle.dv_draft.specs.Records.{IsCertificate}

-- the contents of a PolicyInformation that has an identifier alone
abbrev pub IsPolicyName : List ℕ → Type 0
IsPolicyName octets = (length octets ≤ 2048) × ∥ ((id : List ℕ) × IsTrue (is_oid id) × (octets ≡ tlv 6 id)) ∥₁

-- what a server has: 1 to 6 certificates, and a policy that is an identifier alone, or none
pub record IsServer (certificates : List (List ℕ)) (policy : Option (List ℕ)) : Type 0 where
  pub some : 1 ≤ length certificates
  pub few : length certificates ≤ 6
  pub decoded : All IsCertificate certificates
  pub named : ForSome policy IsPolicyName
