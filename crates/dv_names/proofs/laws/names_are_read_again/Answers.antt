use Rattle.std.proofs.Common.{refl}
use Rattle.dv_schema.proofs.Kept.{reads_back}
use Rattle.dv_names.specs.Types.{name, general_name}
use Rattle.dv_names.specs.Views.{view_general, view_name}
use Rattle.dv_names.proofs.laws.names_are_read_again.Goals as goal

pub returns-clause-name : goal.returns-clause-name
returns-clause-name c = reads_back name view_name refl (λ x. x.spelled)

pub returns-clause-general : goal.returns-clause-general
returns-clause-general c = reads_back general_name view_general refl (λ x. x.spelled)
