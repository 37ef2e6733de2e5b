use Rattle.std.proofs.Common.{refl}
use Rattle.dv_schema.proofs.Kept.{reads_back}
use Rattle.dv_schema.specs.Types.{oid}
use Rattle.dv_names.specs.Types.{algorithm_identifier, digest_info}
use Rattle.dv_names.specs.Views.{view_algorithm, view_digest, view_oid}
use Rattle.dv_names.proofs.laws.algorithms_are_read_again.Goals as goal

pub returns-clause-identifier : goal.returns-clause-identifier
returns-clause-identifier c = reads_back oid view_oid refl (λ x. x.spelled)

pub returns-clause-algorithm : goal.returns-clause-algorithm
returns-clause-algorithm c = reads_back algorithm_identifier view_algorithm refl (λ x. x.spelled)

pub returns-clause-digest : goal.returns-clause-digest
returns-clause-digest c = reads_back digest_info view_digest refl (λ x. x.spelled)
