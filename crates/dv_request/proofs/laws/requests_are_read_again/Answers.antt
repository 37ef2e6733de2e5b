use Rattle.std.proofs.Common.{Ok, Result, refl}
use Rattle.std.proofs.Math.Nat.{ℕ_set}
use Rattle.std.proofs.Math.Logic.{∥∥₁_elim}
use mathlib.Core.Sum.{⊎_set}
use Rattle.dv_schema.specs.declared.refusal.Der.{Der}
use Rattle.dv_schema.specs.Schema.{ValueOf, spelling}
use Rattle.dv_schema.specs.Reading.{Spot, read_all}
use Rattle.dv_schema.proofs.Decoding.{slice_spelled}
use Rattle.dv_schema.proofs.Items.{at}
use Rattle.dv_schema.proofs.Kept.{value_set}
use Rattle.dv_request.specs.RequestView.{view_request}
use Rattle.dv_request.specs.Types.{dvcs_request}
use Rattle.dv_request.proofs.laws.requests_are_read_again.Goals as goal

-- what reading a request answers is a set
answers_set : IsSet (Result (ValueOf dvcs_request) Der)
answers_set = let v : IsSet (ValueOf dvcs_request) = value_set dvcs_request in hlevel (v, ℕ_set, ⊎_set)

pub returns : goal.returns
returns c = λ x.
    (let p : Spot = at 30 0 (spelling dvcs_request (view_request x)) in
    ∥∥₁_elim x.spelled (answers_set (read_all dvcs_request p) (Ok (view_request x))) (λ f. slice_spelled dvcs_request p (view_request x) refl f refl))
