use Rattle.dv_members.proofs.MemberLemmas.{values_again}
use Rattle.dv_members.proofs.laws.kept_values_are_those_spelled.Goals as goal

pub returns : goal.returns
returns c = λ s some vs clear fits. (values_again s some 0 vs clear fits).1
