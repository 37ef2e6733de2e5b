-- A status as a PKIStatusInfo.
use Rattle.std.proofs.Common.{◌≡◌, ◌-◌, ◌^◌, ℕ, List, Option, Some, None, refl}
use Rattle.std.specs.Borrow.{Bor}
use Rattle.std.specs.Option.{option_copied}
use Rattle.std.specs.Prelude.{option_map}
use Rattle.dv_schema.specs.Schema.{ValueOf}
use Rattle.dv_status.specs.Fail.{fail_octets}
use Rattle.dv_draft.specs.Parts.{status_of}
use Rattle.dv_draft.specs.Types.{plain_status}

-- a PKIStatusInfo with this status, without texts, and with this failure bit where there is one
pub status_view : (a : ℕ) (t : Option (Bor (List ℕ))) (f : Option ℕ) (status : ℕ) (bit : Option ℕ) → a ≡ status → t ≡ None → f ≡ option_map (λ b. 2 ^ (31 - b)) bit
    → ◌≡◌ {A = ValueOf plain_status} (a, (option_copied t, (option_map fail_octets f, tt))) (status_of status bit)
status_view a t f status None p q r = rw (p, q, r) refl
status_view a t f status (Some b) p q r = rw (p, q, r) refl
