use Rattle.dv_schema.proofs.Refusals.{refused_field, refused_optional}
use Rattle.dv_schema.proofs.laws.refusal_is_the_first.Goals as goal

pub returns-clause-present : goal.returns-clause-present
returns-clause-present c = refused_field

pub returns-clause-optional : goal.returns-clause-optional
returns-clause-optional c = refused_optional
