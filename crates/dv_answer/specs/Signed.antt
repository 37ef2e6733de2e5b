-- The SignedData of a request as the code keeps it.
use Rattle.std.specs.Prelude.{Option, option_map}
use Rattle.dv_schema.specs.Schema.{ValueOf}
use Rattle.dv_cms.specs.Types.{signed_data}
use Rattle.dv_signed.specs.SignedView.{view_signed}
use Rattle.dv_answer.specs.declared.signed.Signatures.{Signatures}

-- it, where the request is signed
abbrev pub document_in : Option Signatures → Option (ValueOf signed_data)
document_in signatures = option_map (λ s. view_signed s.signed) signatures
