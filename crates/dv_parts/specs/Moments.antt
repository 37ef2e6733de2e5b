-- The moment for which a service validates.
use Rattle.std.specs.Prelude.{◌≡◌, ◌≤◌, ℕ, Option, Some, None}
use Rattle.std.proofs.Common.{inl, inr}
use Rattle.dv_schema.specs.Schema.{ValueOf}
use Rattle.dv_time.specs.Text.{last_second}
use Rattle.dv_time.specs.Views.{view_moment}
use Rattle.dv_request.specs.Types.{dvcs_request, request_time}

-- the requestTime of a request
abbrev pub time_of : ValueOf dvcs_request → Option (ValueOf request_time)
time_of request = request.0.1.1.1.0

-- The moment of validation: the one that the request names (RFC 3029 7.3), and else that of service. A token names none.
abbrev pub IsWhen : Option (ValueOf request_time) → ℕ → ℕ → Type 0
IsWhen None moment when = when ≡ moment
IsWhen (Some (inl text)) moment when = (when ≤ last_second) × (text ≡ view_moment when)
IsWhen (Some (inr token)) moment when = when ≡ moment
