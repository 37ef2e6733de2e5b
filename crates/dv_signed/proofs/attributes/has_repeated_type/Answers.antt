use Rattle.std.proofs.Common.{◌∙◌}
use Rattle.dv_signed.proofs.AttributeLists.{repeats_told}
use Rattle.dv_signed.proofs.attributes.has_repeated_type.Goals as goal

pub returns : goal.returns
returns c = λ vs e. c.is_some.ensures ∙ repeats_told c.args.attributes.now vs c.first_repeated.result e c.first_repeated.ensures.first c.first_repeated.ensures.within
