-- Identifiers that have a spelling.
use Rattle.std.proofs.Common.{ℕ, List}
use Rattle.std.specs.Prelude.{IsTrue}
use Rattle.std.proofs.Math.Logic.{∥∥₁_elim}
use Rattle.std.proofs.Math.Bool.{Bool-set}
use Rattle.dv_schema.specs.Rules.{is_oid}
use Rattle.dv_schema.specs.Types.{oid}
use Rattle.dv_schema.specs.Decodes.{HasSpelling}

pub oid_spelled : (octets : List ℕ) → ∥ HasSpelling oid octets ∥₁ → IsTrue (is_oid octets)
unfolding HasSpelling
oid_spelled octets h = ∥∥₁_elim h (hlevel Bool-set) (λ f. f.0.2)
