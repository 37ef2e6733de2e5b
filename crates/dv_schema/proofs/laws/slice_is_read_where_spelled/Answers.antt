use Rattle.dv_schema.proofs.Decoding.{slice_takes, slice_spelled}
use Rattle.dv_schema.proofs.laws.slice_is_read_where_spelled.Goals as goal

pub returns : goal.returns
returns c = λ s p v clear bytes. (slice_takes s p v bytes, λ h. slice_spelled s p v clear h.0 h.1)
