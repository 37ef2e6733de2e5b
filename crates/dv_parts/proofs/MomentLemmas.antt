-- The moment for which a service validates.
use Rattle.std.proofs.Common.{◌≡◌, ◌∙◌, ℕ, Option, Some, None, inl, inr, sym}
use Rattle.dv_schema.specs.Schema.{ValueOf}
use Rattle.dv_time.proofs.TimeLemmas.{same_text}
use Rattle.dv_request.specs.Types.{request_time}
use Rattle.dv_parts.specs.Moments.{IsWhen}

-- the moment of validation is one
pub one_when : (time : Option (ValueOf request_time)) (moment a b : ℕ) → IsWhen time moment a → IsWhen time moment b → a ≡ b
one_when None moment a b p q = p ∙ sym q
one_when (Some (inl text)) moment a b p q = same_text a b p.0 q.0 (sym p.1 ∙ q.1)
one_when (Some (inr token)) moment a b p q = p ∙ sym q
