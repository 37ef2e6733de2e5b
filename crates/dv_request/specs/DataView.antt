-- The data of a request as a value of their schema, and their targets.
use Rattle.std.specs.Prelude.{ℕ, List, []}
use Rattle.std.proofs.Common.{inl, inr}
use Rattle.dv_schema.specs.Schema.{ValueOf}
use Rattle.dv_names.specs.Views.{view_digest}
use Rattle.dv_request.specs.declared.data.Data.{Data}
use Rattle.dv_request.specs.declared.data.Data.TheVariants.{Message, Imprint, Certs}
use Rattle.dv_request.specs.Targets.{targets_in}
use Rattle.dv_request.specs.Types.{data_of_request, target_chain}

-- Data: octets, a digest, or the whole value that lists targets
abbrev pub view_data : Data → ValueOf data_of_request
view_data (Message octets) = inl octets.now
view_data (Imprint digest) = inr (inl (view_digest digest))
view_data (Certs octets count) = inr (inr octets.now)

-- their targets, in order
abbrev pub targets_of : Data → List (ValueOf target_chain)
targets_of (Message octets) = []
targets_of (Imprint digest) = []
targets_of (Certs octets count) = targets_in octets.now

-- how many targets they are said to have
abbrev pub count_of : Data → ℕ
count_of (Message octets) = 0
count_of (Imprint digest) = 0
count_of (Certs octets count) = count
